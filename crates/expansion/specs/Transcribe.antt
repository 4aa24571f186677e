-- Transcription (document 01, 'Forms'; request L2 for variables under more ellipses than in the pattern): the result of a step from a
-- rule and the use that it matches; ground 17.
use Rattle.std.specs.Prelude.{Bool, true, ◌&&◌, List, ◌∷◌, map, reverse, ℕ, zero, suc, eqb, get_or, take}
use Rattle.words.specs.Lists.{all_of}
use Rattle.recipe.specs.Tree.{Tree, empty, constant, name, pair}
use Rattle.expansion.specs.Rules.{Pattern, Template, variable_t, insert_t, constant_t, empty_t, pair_t, ellipsis_t, drivers}
use Rattle.expansion.specs.Match.{part, taken_count}

-- f k, f (k + 1), .., n of them, in front of a list
unfoldable pub copies : (ℕ → Tree) → ℕ → ℕ → Tree → Tree
copies f k zero rest = rest
copies f k (suc n) rest = pair (f k) (copies f (suc k) n rest)

unfoldable pub all_below : (ℕ → Bool) → ℕ → Bool
all_below f zero = true
all_below f (suc n) = all_below f n && f n

-- indices are those of the copies round a place, the innermost first; a variable's own ellipses are the innermost (request L2)
module _ (p : Pattern) (used : Tree) where
  -- what variable k takes under the innermost d indices
  unfoldable pub taken : List ℕ → ℕ → ℕ → Tree
  taken is k d = part p k (reverse (take d is)) used

  -- the lengths of the lists that drive the copies of an element
  unfoldable pub lengths : List ℕ → Template → List ℕ
  lengths is e = map (λ v. taken_count p v.0 (reverse (take v.1 is)) used) (drivers 0 e)

  unfoldable pub copy_count : List ℕ → Template → ℕ
  copy_count is e = get_or (lengths is e) 0 0

  -- ground 17: driving lists are of one length; an element that gets no copies is not looked into
  unfoldable pub equal_lengths : List ℕ → Template → Bool
  equal_lengths is (variable_t k d) = true
  equal_lengths is (insert_t x) = true
  equal_lengths is (constant_t a) = true
  equal_lengths is empty_t = true
  equal_lengths is (pair_t a b) = equal_lengths is a && equal_lengths is b
  equal_lengths is (ellipsis_t e r) =
      all_of (eqb (copy_count is e)) (lengths is e) && (all_below (λ i. equal_lengths (i ∷ is) e) (copy_count is e) && equal_lengths is r)

  unfoldable pub transcribe : List ℕ → Template → Tree
  transcribe is (variable_t k d) = taken is k d
  transcribe is (insert_t x) = name x
  transcribe is (constant_t a) = constant a
  transcribe is empty_t = empty
  transcribe is (pair_t a b) = pair (transcribe is a) (transcribe is b)
  transcribe is (ellipsis_t e r) = copies (λ i. transcribe (i ∷ is) e) 0 (copy_count is e) (transcribe is r)
