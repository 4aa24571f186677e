-- The table of operations: the place of each name, and what one operation more does to it and to a list of distinct names.
use Rattle.std.specs.Prelude.{◌≡◌, Bool, not, ◌||◌, cond, List, [], ◌∷◌, ◌++◌, map, ℕ, zero, suc, ◌+◌, ◌<◌, set, replicate}
use Rattle.std.proofs.Math.Path.{refl, sym, ap}
use Rattle.std.proofs.Common.{◌∙◌, get_or-set_other}
use Rattle.std.proofs.Math.Bool.{true, false, and-true, and-false, or-true, or-false, or_assoc}
use native.Mathlib.Omega.{arith}
use Rattle.std.proofs.Math.Numerals.{add-one}
use Rattle.std.proofs.Math.Dec.{eqb}
use Rattle.std.proofs.Math.ListN.{length, get_or}
use Rattle.std.proofs.lemmas.List.{get_or-replicate, length-map}
use Rattle.std.proofs.Math.Seq.{get_or-set_same}
use borrow.Author.Tests.{eqb-true, eqb-false}
use Rattle.words.specs.Limits.{names_most}
use Rattle.words.specs.Lists.{any_of, equal}
use Rattle.words.specs.TestLaws.{and_left, and_right}
use Rattle.recipe.specs.Name.{Name, plain_name, binding_key, same, distinct}
use Rattle.expansion.specs.Lookup.{Found, bound, form, operation, nothing, place_from}

-- ---- the table of places: 0 where a name is no operation, else its place + 1

unfoldable pub placed : ℕ → Found
placed zero = nothing
placed (suc p) = operation p

-- the table says of every name what the definition finds
abbrev pub Places : (table numbers : List ℕ) → Type 0
Places table numbers = (n : ℕ) → n < names_most → placed (get_or table n 0) ≡ place_from 0 n numbers

none-placed : (p : ℕ) → placed p ≡ nothing → p ≡ 0
unfolding placed
none-placed zero e = refl
none-placed (suc p) e = let z : ◌≡◌ {A = ℕ} 0 1 = cc in absurd (omega arith)

pub places-none : Places (replicate names_most 0) []
unfolding placed place_from
places-none n h = rw (get_or-replicate {A = ℕ} names_most n 0 0 h)

-- ---- names by number and item, as items hold them

unfoldable pub plain_names : List (ℕ × ℕ) → List Name
plain_names [] = []
plain_names (p ∷ ps) = plain_name p.0 p.1 ∷ plain_names ps

unfoldable pub numbers : List Name → List ℕ
numbers xs = map (λ x. x.number) xs

pub numbers-append : (xs ys : List Name) → numbers (xs ++ ys) ≡ numbers xs ++ numbers ys
unfolding numbers
numbers-append [] ys = refl
numbers-append (x ∷ xs) ys = ap (λ (l : List ℕ). x.number ∷ l) (numbers-append xs ys)

pub numbers-length : (xs : List Name) → length (numbers xs) ≡ length xs
unfolding numbers
numbers-length xs = length-map xs (λ x. x.number)

pub plain-append : (ps qs : List (ℕ × ℕ)) → plain_names (ps ++ qs) ≡ plain_names ps ++ plain_names qs
unfolding plain_names
plain-append [] qs = refl
plain-append (p ∷ ps) qs = ap (λ (l : List Name). plain_name p.0 p.1 ∷ l) (plain-append ps qs)

pub plain-length : (ps : List (ℕ × ℕ)) → length (plain_names ps) ≡ length ps
unfolding plain_names
plain-length [] = refl
plain-length (p ∷ ps) = ap suc (plain-length ps)

same-plain : (a i b j : ℕ) → same (plain_name a i) (plain_name b j) ≡ eqb a b
unfolding same plain_name equal binding_key
same-plain a i b j = and-true (eqb a b)

-- ---- the place of a name

-- the first answer, where it finds something
unfoldable or_else : Found → Found → Found
or_else (bound b) g = bound b
or_else (form f) g = form f
or_else (operation p) g = operation p
or_else nothing g = g

or_else-nothing : (f : Found) → or_else f nothing ≡ f
unfolding or_else
or_else-nothing (bound b) = refl
or_else-nothing (form f) = refl
or_else-nothing (operation p) = refl
or_else-nothing nothing = refl

place-append : (k m n : ℕ) (ns : List ℕ) → place_from k m (ns ++ (n ∷ [])) ≡ or_else (place_from k m ns) (place_from (k + length ns) m (n ∷ []))
unfolding place_from or_else
place-append k m n [] = let e : k + 0 ≡ k = omega arith in rw e
place-append k m n (x ∷ ns) =
    let e : k + suc (length ns) ≡ suc k + length ns = omega arith in
    by (eqb x m) (rw e (place-append (suc k) m n ns))
  where
    by : (b : Bool) → place_from (suc k) m (ns ++ (n ∷ [])) ≡ or_else (place_from (suc k) m ns) (place_from (k + suc (length ns)) m (n ∷ [])) →
        cond b (operation k) (place_from (suc k) m (ns ++ (n ∷ []))) ≡ or_else (cond b (operation k) (place_from (suc k) m ns)) (place_from (k + suc (length ns)) m (n ∷ []))
    by true h = refl
    by false h = h

-- a name without a place differs from the first, and has none among the rest
absent-first : (k n x : ℕ) (ns : List ℕ) → place_from k n (x ∷ ns) ≡ nothing → eqb x n ≡ false
unfolding place_from
absent-first k n x ns h = by (eqb x n) refl
  where
    by : (b : Bool) → eqb x n ≡ b → eqb x n ≡ false
    by true e = let o : operation k ≡ nothing = rw e at h in let z : ◌≡◌ {A = ℕ} 0 1 = cc in absurd (omega arith)
    by false e = e

absent-rest : (k n x : ℕ) (ns : List ℕ) → place_from k n (x ∷ ns) ≡ nothing → place_from (suc k) n ns ≡ nothing
unfolding place_from
absent-rest k n x ns h = rw (absent-first k n x ns h) at h

-- ---- distinct names

any_append : (f : Name → Bool) (xs ys : List Name) → any_of f (xs ++ ys) ≡ (any_of f xs || any_of f ys)
unfolding any_of
any_append f [] ys = refl
any_append f (x ∷ xs) ys = ap (λ (b : Bool). f x || b) (any_append f xs ys) ∙ sym (or_assoc (f x) (any_of f xs) (any_of f ys))

pub distinct_more : (k n i : ℕ) (ps : List (ℕ × ℕ)) → place_from k n (numbers (plain_names ps)) ≡ nothing → distinct (plain_names ps) ≡ true → distinct (plain_names ps ++ (plain_name n i ∷ [])) ≡ true
unfolding plain_names numbers distinct any_of plain_name
distinct_more k n i [] h d = refl
distinct_more k n i (p ∷ ps) h d =
    let x = plain_name p.0 p.1 in
    let e : same x (plain_name n i) ≡ false = same-plain p.0 p.1 n i ∙ absent-first k n p.0 (numbers (plain_names ps)) h in
    let a : any_of (same x) (plain_names ps ++ (plain_name n i ∷ [])) ≡ any_of (same x) (plain_names ps) = any_append (same x) (plain_names ps) (plain_name n i ∷ []) ∙ rw e (or-false (any_of (same x) (plain_names ps))) in
    let r = distinct_more (suc k) n i ps (absent-rest k n p.0 (numbers (plain_names ps)) h) (and_right (not (any_of (same x) (plain_names ps))) (distinct (plain_names ps)) d) in
    rw (a, r) (rw (and_left (not (any_of (same x) (plain_names ps))) (distinct (plain_names ps)) d))

pub distinct-twice : (k n i : ℕ) (ps : List (ℕ × ℕ)) (ys : List Name) → (place_from k n (numbers (plain_names ps)) ≡ nothing → ⊥) → distinct (plain_names ps ++ plain_name n i ∷ ys) ≡ false
unfolding plain_names numbers place_from distinct any_of plain_name
distinct-twice k n i [] ys h = absurd (h refl)
distinct-twice k n i (p ∷ ps) ys h =
    by (eqb p.0 n) refl (λ z. distinct-twice (suc k) n i ps ys (λ q. h (rw (z, q))))
  where
    by : (b : Bool) → eqb p.0 n ≡ b → (eqb p.0 n ≡ false → distinct (plain_names ps ++ plain_name n i ∷ ys) ≡ false) →
        distinct (plain_name p.0 p.1 ∷ (plain_names ps ++ plain_name n i ∷ ys)) ≡ false
    by true e f =
        let x = plain_name p.0 p.1 in
        let s : same x (plain_name n i) ≡ true = same-plain p.0 p.1 n i ∙ e in
        let a : any_of (same x) (plain_names ps ++ plain_name n i ∷ ys) ≡ true = any_append (same x) (plain_names ps) (plain_name n i ∷ ys) ∙ rw s (or-true (any_of (same x) (plain_names ps))) in
        rw a
    by false e f = rw (f e) (and-false (not (any_of (same (plain_name p.0 p.1)) (plain_names ps ++ plain_name n i ∷ ys))))

-- ---- one operation more

module _ (table : List ℕ) (ps : List (ℕ × ℕ)) (n i : ℕ) (h : Places table (numbers (plain_names ps))) (below : n < names_most) where
  -- a name that the table has no place for
  pub unplaced : get_or table n 0 ≡ 0 → place_from 0 n (numbers (plain_names ps)) ≡ nothing
  unfolding placed
  unplaced z = sym (h n below) ∙ rw z

  pub placed-before : (get_or table n 0 ≡ 0 → ⊥) → place_from 0 n (numbers (plain_names ps)) ≡ nothing → ⊥
  placed-before z q = z (none-placed (get_or table n 0) (h n below ∙ q))

  pub places-more : length table ≡ names_most → get_or table n 0 ≡ 0 → Places (set table n (length ps + 1)) (numbers (plain_names (ps ++ ((n, i) ∷ []))))
  unfolding placed plain_names numbers plain_name place_from or_else
  places-more l z m b =
      let ns = numbers (plain_names ps) in
      let e : numbers (plain_names (ps ++ ((n, i) ∷ []))) ≡ ns ++ (n ∷ []) = ap numbers (plain-append ps ((n, i) ∷ [])) ∙ numbers-append (plain_names ps) (plain_name n i ∷ []) in
      let s : length ns ≡ length ps = numbers-length (plain_names ps) ∙ plain-length ps in
      by (eqb n m) refl (rw e (place-append 0 m n ns)) s
    where
      by : (c : Bool) → eqb n m ≡ c →
          place_from 0 m (numbers (plain_names (ps ++ ((n, i) ∷ [])))) ≡ or_else (place_from 0 m (numbers (plain_names ps))) (place_from (0 + length (numbers (plain_names ps))) m (n ∷ [])) →
          length (numbers (plain_names ps)) ≡ length ps →
          placed (get_or (set table n (length ps + 1)) m 0) ≡ place_from 0 m (numbers (plain_names (ps ++ ((n, i) ∷ []))))
      by true c p s =
          let q : m ≡ n = sym (eqb-true n m c) in
          let w : n < length table = omega arith in
          let u : place_from 0 m (numbers (plain_names ps)) ≡ nothing = rw q (unplaced z) in
          let k : 0 + length (numbers (plain_names ps)) ≡ length ps = omega arith in
          ap placed (ap (λ (j : ℕ). get_or (set table n (length ps + 1)) j 0) q ∙ get_or-set_same table n (length ps + 1) 0 w ∙ add-one (length ps))
          ∙ sym (p ∙ rw (u, c, k))
      by false c p s =
          let q : m ≡ n → ⊥ = λ r. eqb-false n m c (sym r) in
          ap placed (get_or-set_other table n m (length ps + 1) 0 q) ∙ h m b ∙ sym (p ∙ rw c (or_else-nothing (place_from 0 m (numbers (plain_names ps)))))
