-- A list of at most so many distinct names whose numbers pass a test: what holds on the way through it, and one law for each way
-- through `distinct_names`. The operations (ground 10) are such a list.
use Rattle.std.specs.Prelude.{◌≡◌, Bool, true, not, ◌&&◌, ◌||◌, eqb, ltb, leb, get_or, set}
use Rattle.std.proofs.Math.Path.{refl, sym, ap}
use Rattle.std.proofs.Common.{◌∙◌, arith}
use Rattle.std.proofs.Math.Bool.{false, and-false}
use mathlib.Core.List.{List, [], ◌∷◌, ◌++◌, map, append-nil}
use Prim.Native.Nat.{ℕ, suc, ◌+◌, ◌<◌, ◌≤◌}
use Rattle.std.proofs.Math.ListN.{length, length-append}
use Rattle.std.proofs.Math.Seq.{append_snoc}
use borrow.Author.Tests.{eqb-false, eq-eqb, ne_eqb, ltb-true, ltb-false, le-ltb, le-leb, lt-leb}
use Rattle.words.specs.Limits.{names_most, operations_most}
use Rattle.words.specs.Lists.{all_of}
use Rattle.words.specs.ListLaws.{either}
use Rattle.words.specs.TestLaws.{and-none-right, all_append}
use Rattle.recipe.specs.Name.{Name, plain_name, is_ellipsis, is_wildcard, is_ordinary, distinct}
use Rattle.recipe.specs.Tree.{Tree, empty, constant, name, pair, on_name, is_name, names, elements, element}
use Rattle.expansion.specs.Run.{operation_numbers, are_operations}
use Rattle.layout.specs.Places.{Places, plain_names, numbers, numbers-append, numbers-length, plain-append, plain-length, distinct_more, distinct-twice, unplaced, placed-before, places-more}

-- a name whose number passes the test
unfoldable pub is_fit : (fit : ℕ → Bool) → Tree → Bool
is_fit fit = on_name (λ x. fit x.number) false

-- at most so many distinct names that pass
unfoldable pub are_names : (fit : ℕ → Bool) (most : ℕ) → Tree → Bool
are_names fit most e = all_of is_name (elements e) && (leb (length (numbers (names e))) most && (all_of fit (numbers (names e)) && distinct (names e)))

-- the tests that code makes: numbers below `low`, and those above 7
unfoldable pub passes : (low n : ℕ) → Bool
passes low n = ltb n low || ltb 7 n

-- those below 6 and those above 7 are the ordinary names
pub passes-ordinary : (x : Name) → passes 6 x.number ≡ is_ordinary x
unfolding passes is_ordinary is_ellipsis is_wildcard
passes-ordinary x = either (ltb x.number 6) below (λ f. either (ltb 7 x.number) (above f) (λ g. between f g))
  where
    below : ltb x.number 6 ≡ true → (ltb x.number 6 || ltb 7 x.number) ≡ (not (eqb x.number 6) && not (eqb x.number 7))
    below e =
        let l : x.number < 6 = ltb-true x.number 6 e in
        rw (e, ne_eqb x.number 6 (λ z. omega arith), ne_eqb x.number 7 (λ z. omega arith))

    above : ltb x.number 6 ≡ false → ltb 7 x.number ≡ true → (ltb x.number 6 || ltb 7 x.number) ≡ (not (eqb x.number 6) && not (eqb x.number 7))
    above f e =
        let l : 7 < x.number = ltb-true 7 x.number e in
        rw (f, e, ne_eqb x.number 6 (λ z. omega arith), ne_eqb x.number 7 (λ z. omega arith))

    between : ltb x.number 6 ≡ false → ltb 7 x.number ≡ false → (ltb x.number 6 || ltb 7 x.number) ≡ (not (eqb x.number 6) && not (eqb x.number 7))
    between f g =
        let l : 6 ≤ x.number = ltb-false x.number 6 f in
        let m : x.number ≤ 7 = ltb-false 7 x.number g in
        rw (f, g) (either (eqb x.number 6) (λ e. rw e) (λ e. rw (e, eq-eqb x.number 7 (let n : x.number ≡ 6 → ⊥ = eqb-false x.number 6 e in omega arith))))

-- ground 10 of the first element
pub are_operations-first : (t : Tree) → are_operations t ≡ are_names (passes 0) operations_most (element 0 t)
unfolding are_operations operation_numbers are_names numbers passes
are_operations-first t = ap (λ (f : ℕ → Bool). are_names f operations_most (element 0 t)) (λ i. λ n. none n i)
  where
    none : (n : ℕ) → ltb 7 n ≡ (ltb n 0 || ltb 7 n)
    none n = rw (le-ltb n 0 (omega arith))

-- ---- on the way: what was passed, and what is left

pub record Walked (fit : ℕ → Bool) (most : ℕ) (first rest : Tree) (table : List ℕ) (place : ℕ) : Type 0 where
  pub passed : List (ℕ × ℕ)
  pub elements_are : elements first ≡ map name (plain_names passed) ++ elements rest
  pub names_are : names first ≡ plain_names passed ++ names rest
  pub count : place ≡ length passed
  pub few : place ≤ most
  pub good : all_of fit (numbers (plain_names passed)) ≡ true
  pub apart : distinct (plain_names passed) ≡ true
  pub places : Places table (numbers (plain_names passed))

pub walked_start : (fit : ℕ → Bool) (most : ℕ) (first : Tree) (table : List ℕ) → Places table [] → Walked fit most first first table 0
unfolding plain_names numbers all_of distinct
walked_start fit most first table h =
    record { passed = []; elements_are = refl; names_are = refl; count = refl; few = omega arith; good = refl; apart = refl; places = h }

all-out : {A : Type 0} (f : A → Bool) (xs : List A) (y : A) (ys : List A) → f y ≡ false → all_of f (xs ++ y ∷ ys) ≡ false
unfolding all_of
all-out f xs y ys h = all_append f xs (y ∷ ys) ∙ rw h (and-false (all_of f xs))

map_snoc : (xs : List Name) (x : Name) → map name (xs ++ (x ∷ [])) ≡ map name xs ++ (name x ∷ [])
map_snoc [] x = refl
map_snoc (y ∷ ys) x = ap (λ (l : List Tree). name y ∷ l) (map_snoc ys x)

all-names : (xs : List Name) → all_of is_name (map name xs) ≡ true
unfolding all_of is_name on_name
all-names [] = refl
all-names (x ∷ xs) = all-names xs

module _ (fit : ℕ → Bool) (most : ℕ) (first rest : Tree) (table : List ℕ) (place : ℕ) (w : Walked fit most first rest table place) where
  -- ---- the end
  pub walked_end : rest ≡ empty → are_names fit most first ≡ true
  unfolding are_names elements names
  walked_end r =
      let a : elements first ≡ map name (plain_names w.passed) = w.elements_are ∙ rw r (append-nil (map name (plain_names w.passed))) in
      let b : names first ≡ plain_names w.passed = w.names_are ∙ rw r (append-nil (plain_names w.passed)) in
      let s : length (numbers (plain_names w.passed)) ≤ most = omega (arith, numbers-length (plain_names w.passed), plain-length w.passed, w.count, w.few) in
      rw (a, b, all-names (plain_names w.passed), le-leb (length (numbers (plain_names w.passed))) most s, w.good) w.apart

  pub walked-places : rest ≡ empty → Places table (numbers (names first))
  unfolding names
  walked-places r =
      let b : names first ≡ plain_names w.passed = w.names_are ∙ rw r (append-nil (plain_names w.passed)) in
      rw b w.places

  -- ---- the next element is no name that passes
  not-name : (h t : Tree) → rest ≡ pair h t → is_name h ≡ false → are_names fit most first ≡ false
  unfolding are_names elements
  not-name h t r f = rw (w.elements_are, r, all-out is_name (map name (plain_names w.passed)) h (elements t) f)

  names_of : (x : Name) (t : Tree) → rest ≡ pair (name x) t → names first ≡ plain_names w.passed ++ x ∷ names t
  unfolding names
  names_of x t r = w.names_are ∙ rw r

  unfit : (x : Name) (t : Tree) → rest ≡ pair (name x) t → fit x.number ≡ false → are_names fit most first ≡ false
  unfolding are_names names numbers
  unfit x t r f =
      let b : numbers (names first) ≡ numbers (plain_names w.passed) ++ x.number ∷ numbers (names t) = ap numbers (names_of x t r) ∙ numbers-append (plain_names w.passed) (x ∷ names t) in
      let c : all_of fit (numbers (names first)) ≡ false = rw b (all-out fit (numbers (plain_names w.passed)) x.number (numbers (names t)) f) in
      and-none-right (all_of is_name (elements first)) _ (and-none-right (leb (length (numbers (names first))) most) _ (rw c))

  pub walked-bad : (h t : Tree) → rest ≡ pair h t → is_fit fit h ≡ false → are_names fit most first ≡ false
  unfolding is_name on_name is_fit
  walked-bad empty t r z = not-name empty t r refl
  walked-bad (constant a) t r z = not-name (constant a) t r refl
  walked-bad (pair a b) t r z = not-name (pair a b) t r refl
  walked-bad (name x) t r z = unfit x t r z

  module _ (n i : ℕ) (t : Tree) (r : rest ≡ pair (name (plain_name n i)) t) where
    names-next : names first ≡ plain_names w.passed ++ plain_name n i ∷ names t
    names-next = names_of (plain_name n i) t r

    -- ---- there are as many as may be already
    pub walked-full : place ≡ most → are_names fit most first ≡ false
    unfolding are_names
    walked-full p =
        let s : length (numbers (names first)) ≡ length (plain_names w.passed) + suc (length (names t)) =
        numbers-length (names first) ∙ ap length names-next ∙ length-append (plain_names w.passed) (plain_name n i ∷ names t) in
        let l : most < length (numbers (names first)) = omega (arith, s, plain-length w.passed, w.count) in
        and-none-right (all_of is_name (elements first)) _ (rw (lt-leb (length (numbers (names first))) most l))

    module _ (below : n < names_most) where
      -- ---- it has a place already
      pub walked-twice : (get_or table n 0 ≡ 0 → ⊥) → are_names fit most first ≡ false
      unfolding are_names
      walked-twice z =
          let d : distinct (names first) ≡ false = rw names-next (distinct-twice 0 n i w.passed (names t) (placed-before table w.passed n i w.places below z)) in
          rw d (and-none-right (all_of is_name (elements first)) _ (and-none-right (leb (length (numbers (names first))) most) _ (and-false (all_of fit (numbers (names first))))))

      -- ---- it gets the next place
      pub walked_more : fit n ≡ true → place < most → length table ≡ names_most → get_or table n 0 ≡ 0 → Walked fit most first t (set table n (place + 1)) (place + 1)
      unfolding elements plain_names plain_name numbers all_of
      walked_more good few long z =
          let ps = w.passed in
          let one : List (ℕ × ℕ) = (n, i) ∷ [] in
          let x = plain_name n i in
          let q : plain_names (ps ++ one) ≡ plain_names ps ++ (x ∷ []) = plain-append ps one in
          let e : elements first ≡ map name (plain_names ps) ++ name x ∷ elements t = w.elements_are ∙ rw r in
          let a : numbers (plain_names (ps ++ one)) ≡ numbers (plain_names ps) ++ (n ∷ []) = ap numbers q ∙ numbers-append (plain_names ps) (x ∷ []) in
          record {
            passed = ps ++ one;
            elements_are = e ∙ sym (ap (λ (l : List Name). map name l ++ elements t) q ∙ ap (λ (l : List Tree). l ++ elements t) (map_snoc (plain_names ps) x) ∙ append_snoc (map name (plain_names ps)) (name x) (elements t));
            names_are = names-next ∙ sym (ap (λ (l : List Name). l ++ names t) q ∙ append_snoc (plain_names ps) x (names t));
            count = omega (arith, w.count, length-append ps one);
            few = omega arith;
            good = rw (a, all_append fit (numbers (plain_names ps)) (n ∷ []), w.good, good);
            apart = rw q (distinct_more 0 n i ps (unplaced table ps n i w.places below z) w.apart);
            places = rw w.count (places-more table ps n i w.places below long z);
          }
