-- What a variable takes, and the result of a step by it.
use Rattle.std.specs.Prelude.{ℕ, Bool, true, cond, ◌&&◌, List, [], ◌∷◌, map, reverse, take, nat_eq, nat_lt, slice_index}
use Rattle.words.specs.Lists.{all_of}
use Rattle.recipe.specs.Tree.{Tree, empty, constant, name, pair, element, tail, past}
use Rattle.expansion.specs.Rules.{Pattern, variable_p, literal_p, wildcard_p, constant_p, empty_p, pair_p, ellipsis_p, Template, variable_t, insert_t, constant_t, empty_t, pair_t, ellipsis_t, drivers}
use Rattle.expansion.specs.Match.{share, holds}
use Rattle.expansion.specs.Transcribe.{copies, all_below}

-- a tree, or under an ellipsis n entries, one for each element that the ellipsis takes
pub data Taken : Type 0 where
  one : Tree → Taken
  many : (n : ℕ) (entries : ℕ → Taken) → Taken

unfoldable pub tree_in : Taken → Tree
tree_in (one t) = t
tree_in (many n f) = empty

unfoldable pub count : Taken → ℕ
count (one t) = 0
count (many n f) = n

-- the entry at these indices, the outermost ellipsis first
unfoldable pub entry : List ℕ → Taken → Taken
entry [] x = x
entry (i ∷ is) (one t) = one empty
entry (i ∷ is) (many n f) = cond (nat_lt i n) (entry is (f i)) (one empty)

-- what variable k takes
unfoldable pub takes : Pattern → Tree → (k : ℕ) → Taken
takes (variable_p j) t k = one t
takes (literal_p x) t k = one empty
takes wildcard_p t k = one empty
takes (constant_p a) t k = one empty
takes empty_p t k = one empty
takes (pair_p p q) t k = cond (holds k p) (takes p (element 0 t) k) (takes q (tail t) k)
takes (ellipsis_p p n q) t k = cond (holds k p) (many (share n t) (λ i. takes p (element i t) k)) (takes q (past (share n t) t) k)

-- what each variable takes is given; indices are those of the copies round a place, the innermost first
module _ (v : ℕ → Taken) where
  -- variable k under the innermost d indices
  unfoldable pub taken : List ℕ → (k d : ℕ) → Taken
  taken is k d = entry (reverse (take d is)) (v k)

  -- the lengths of the lists that drive the copies of an element
  unfoldable pub lengths : List ℕ → Template → List ℕ
  lengths is e = map (λ x. count (taken is x.0 x.1)) (drivers 0 e)

  unfoldable pub copy_count : List ℕ → Template → ℕ
  copy_count is e = slice_index (lengths is e) 0

  -- ground 17: driving lists are of one length; an element that gets no copies is not looked into
  unfoldable pub equal_lengths : List ℕ → Template → Bool
  equal_lengths is (variable_t k d) = true
  equal_lengths is (insert_t x) = true
  equal_lengths is (constant_t a) = true
  equal_lengths is empty_t = true
  equal_lengths is (pair_t a b) = equal_lengths is a && equal_lengths is b
  equal_lengths is (ellipsis_t e r) =
      all_of (nat_eq (copy_count is e)) (lengths is e) && (all_below (λ i. equal_lengths (i ∷ is) e) (copy_count is e) && equal_lengths is r)

  unfoldable pub transcribe : List ℕ → Template → Tree
  transcribe is (variable_t k d) = tree_in (taken is k d)
  transcribe is (insert_t x) = name x
  transcribe is (constant_t a) = constant a
  transcribe is empty_t = empty
  transcribe is (pair_t a b) = pair (transcribe is a) (transcribe is b)
  transcribe is (ellipsis_t e r) = copies (λ i. transcribe (i ∷ is) e) 0 (copy_count is e) (transcribe is r)
