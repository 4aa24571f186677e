-- Laws of blocks: reading them, the words that they take, and that they stand where what they stand in is kept.
use Rattle.std.specs.Prelude.{◌≡◌, ℕ, zero, suc, ◌+◌, ◌*◌, ◌^◌, ◌<◌, ◌≤◌, Bool, true, false, ◌||◌, List, [], ◌∷◌, length, take, ◌==◌, ◌≢◌, slice_index}
use Rattle.std.proofs.Math.Path.{refl}
use Rattle.std.proofs.Common.{sym, ap, subst, ◌∙◌, mul-le-mul_right, mul-le-mul_left, mul-lt-mul_of_pos_right, le_of_lt, lt_of_le_of_lt, pow_pos, get_or-take, lt-ltb, le-ltb, eqb-true}
use Rattle.std.proofs.lemmas.Bool.{false≢true, eqb-false}
use native.Mathlib.Omega.{arith}
use Rattle.std.proofs.Math.ListN.{get_or-eq_default}
use Rattle.words.specs.ListLaws.{either}
use Rattle.recipe.specs.Tree.{Tree}
use Rattle.expansion.specs.Rules.{Pattern, variable_p, literal_p, wildcard_p, constant_p, empty_p, pair_p, ellipsis_p}
use Rattle.expansion.specs.Match.{holds}
use Rattle.arena.specs.Arena.{word_at, reference_at, tree_at}
use Rattle.rule_cells.specs.Cells.{pattern_at}
use Rattle.environments.specs.PatternCells.{variable-is, other-is, pair_is, ellipsis-is}
use Rattle.environments.specs.Taken.{Taken, one, many}
use Rattle.environments.specs.Blocks.{slots, added, columns, shift, word_in, slot_at, Stands, RowStands, Same}

-- ---- reading

pub word-past : (work : List ℕ) (i : ℕ) → length work ≤ i → 0 ≡ word_in work i
word-past work i h = sym (get_or-eq_default work 0 h)

module _ (work : List ℕ) (block s i : ℕ) where
  pub slot-past : word_in work block ≤ i → 0 ≡ slot_at work block s i
  unfolding slot_at
  slot-past h = rw (le-ltb i (word_in work block) h) refl

  pub slot-in : i < word_in work block → word_in work (block + 2 + (i * word_in work (block + 1) + s)) ≡ slot_at work block s i
  unfolding slot_at
  slot-in h = rw (lt-ltb i (word_in work block) h) refl

  pub slot-far : i < word_in work block → length work ≤ i * word_in work (block + 1) → 0 ≡ slot_at work block s i
  slot-far h l = word-past work _ (omega arith) ∙ slot-in h

-- what is kept up to `high`
pub words-kept : (old new : List ℕ) (high : ℕ) → take high new ≡ take high old → (i : ℕ) → i < high → word_in new i ≡ word_in old i
words-kept old new high e i h = sym (get_or-take high new i 0 h) ∙ ap (λ (l : List ℕ). slice_index l i) e ∙ get_or-take high old i 0 h

-- ---- slots of a pattern's cell

module _ (work : List ℕ) (p tag : ℕ) (tag_is : tag ≡ word_at work p 1) where
  pub slots-variable : tag ≡ 1 → slots (pattern_at work p) ≡ 1
  unfolding slots
  slots-variable e = rw (variable-is work p tag tag_is e) refl

  pub slots-none : (tag ≢ 1) → (tag ≢ 6) → (tag ≢ 7) → slots (pattern_at work p) ≡ 0
  unfolding slots
  slots-none = other-is work p tag tag_is (λ q. slots q ≡ 0) (λ x. refl) refl (λ a. refl) refl

  module _ (rest : ℕ) (rest-is : rest ≡ reference_at work p 2) where
    pub slots-ellipsis : tag ≡ 7 → slots (pattern_at work p) ≡ 1 + slots (pattern_at work rest)
    unfolding slots
    slots-ellipsis e = rw (ellipsis-is work p tag tag_is _ rest refl rest-is e) refl

    pub slots-pair : (head : ℕ) → head ≡ reference_at work p 3 → tag ≡ 6 → slots (pattern_at work p) ≡ slots (pattern_at work head) + slots (pattern_at work rest)
    unfolding slots
    slots-pair head head-is e = rw (pair_is work p tag tag_is head rest head-is rest-is e) refl

-- ---- columns

-- the first column of a variable is a slot of the pattern
unfoldable pub Within : ℕ → List ℕ → Type 0
Within n [] = ⊥
Within n (s ∷ ss) = s < n

within-shift : (m n : ℕ) (l : List ℕ) → Within n l → Within (m + n) (shift m l)
unfolding Within shift
within-shift m n [] h = absurd h
within-shift m n (s ∷ ss) h = omega arith

within_more : (m n : ℕ) (l : List ℕ) → m ≤ n → Within m l → Within n l
unfolding Within
within_more m n [] h l = absurd l
within_more m n (s ∷ ss) h l = omega arith

-- one of two
pub other-holds : (a b : Bool) → (a || b) ≡ true → a ≡ false → b ≡ true
other-holds true b h e = absurd (false≢true (sym e))
other-holds false b h e = h

pub columns-within : (p : Pattern) (k : ℕ) → holds k p ≡ true → Within (slots p) (columns p k)
unfolding columns slots holds Within
columns-within (variable_p j) k h = omega arith
columns-within (literal_p x) k h = absurd (false≢true h)
columns-within wildcard_p k h = absurd (false≢true h)
columns-within (constant_p a) k h = absurd (false≢true h)
columns-within empty_p k h = absurd (false≢true h)
columns-within (pair_p p q) k h =
    either (holds k p)
    (λ t. rw t (within_more (slots p) (slots p + slots q) (columns p k) (omega arith) (columns-within p k t)))
    (λ t. rw t (within-shift (slots p) (slots q) (columns q k) (columns-within q k (other-holds (holds k p) (holds k q) h t))))
columns-within (ellipsis_p p n q) k h =
    either (holds k p)
    (λ t. rw t (omega arith))
    (λ t. rw t (within-shift 1 (slots q) (columns q k) (columns-within q k (other-holds (holds k p) (holds k q) h t))))

-- ---- words of elements

-- the rows of the first elements come before those of more
pub rows-less : (i c n : ℕ) → i < c → i * n + n ≤ c * n
rows-less i c n h = let e : suc i * n ≡ i * n + n = omega arith in subst (λ (m : ℕ). m ≤ c * n) e (mul-le-mul_right n h)

pub added-less : (f : Tree → ℕ) (t : Tree) (i c : ℕ) → i ≤ c → added f i t ≤ added f c t
unfolding added
added-less f t zero c h = omega arith
added-less f t (suc i) zero h = absurd (omega arith)
added-less f t (suc i) (suc c) h =
    either (i == c)
    (λ e. let s : i ≡ c = eqb-true i c e in rw s (omega arith))
    (λ e. let d : i ≡ c → ⊥ = eqb-false i c e in omega (arith, added-less f t (suc i) c (omega arith)))

-- ---- what stands goes on standing

module _ (old new : List ℕ) (base low high w base' low' high' : ℕ) (lower : base ≤ base') (from : low' ≤ low) (to : high ≤ high') (kept : (x : ℕ) → x ≤ base → tree_at new x w ≡ tree_at old x w) (same : Same old new low high) where
  pub stands-kept : (l : List ℕ) (x : ℕ) (y : Taken) → Stands old base low high w l x y → Stands new base' low' high' w l x y
  unfolding Stands
  stands-kept [] x (one t) (h, e) = (omega arith, kept x h ∙ e)
  stands-kept [] x (many n f) h = absurd h
  stands-kept (s ∷ ss) x (one t) h = absurd h
  stands-kept (s ∷ ss) x (many n f) (c, l, m, each) =
      let count : word_in new x ≡ word_in old x = same x l (omega arith) in
      let width : word_in new (x + 1) ≡ word_in old (x + 1) = same (x + 1) (omega arith) (omega arith) in (
        count ∙ c,
        omega arith,
        omega arith,
        λ i h.
            let e = each i h in
            let word : word_in new (x + 2 + (i * word_in old (x + 1) + s)) ≡ word_in old (x + 2 + (i * word_in old (x + 1) + s)) = same _ (omega arith) e.0 in
            rw width (omega (arith, e.0), rw word (stands-kept ss _ (f i) e.1)),
      )

  pub row_kept : (row : ℕ) (l : List ℕ) (n : ℕ) (y : Taken) → Within n l → Same old new row (row + n) → RowStands old base low high w row l y → RowStands new base' low' high' w row l y
  unfolding RowStands Within
  row_kept row [] n y b h r = absurd r
  row_kept row (s ∷ ss) n y b h r = rw (h (row + s) (omega arith) (omega arith)) (stands-kept ss _ y r)

pub row-shift : (work : List ℕ) (base low high w row m : ℕ) (l : List ℕ) (y : Taken) → RowStands work base low high w (row + m) l y → RowStands work base low high w row (shift m l) y
unfolding RowStands shift
row-shift work base low high w row m [] y h = absurd h
row-shift work base low high w row m (s ∷ ss) y h = let e : row + (m + s) ≡ row + m + s = omega arith in rw e h

-- ---- numbers

-- the product of two words fits an index
pub product-fits : (a b : ℕ) → a < 2 ^ 32 → b < 2 ^ 32 → a * b < 2 ^ 64
product-fits a b ha hb =
    lt_of_le_of_lt (mul-le-mul_left a (le_of_lt hb)) (mul-lt-mul_of_pos_right ha (pow_pos 32))
