-- Matching and transcribing keep relations of names: literals related by L, the names of the use by U, the template's by T.
use Rattle.std.specs.Prelude.{◌≡◌, Bool, ◌||◌, eqb, leb, take}
use Rattle.std.proofs.Math.Path.{refl, ap, ap₂, subst}
use Rattle.std.proofs.Common.{◌∙◌, true≢false}
use Rattle.std.proofs.Math.Bool.{true, false, ◌&&◌}
use Rattle.std.proofs.lemmas.Bool.{false≢true}
use mathlib.Core.List.{List, [], ◌∷◌, ◌++◌, map, reverse}
use Prim.Native.Nat.{ℕ, zero, suc, ◌-◌}
use Rattle.std.proofs.Math.ListN.{get_or}
use Rattle.words.specs.Lists.{all_of}
use Rattle.recipe.specs.Name.{Name}
use Rattle.recipe.specs.Tree.{Tree, on_empty, on_constant, on_name, on_pair, past}
use Rattle.expansion.specs.Lookup.{agree}
use Rattle.expansion.specs.Rules.{Pattern, Template, drivers}
use Rattle.expansion.specs.Match.{Fit, fitting, misfit, and_then, both_fit, share, enough, each_fits, fit, holds, part, taken_count}
use Rattle.expansion.specs.Transcribe.{copies, all_below, taken, lengths, copy_count, equal_lengths, transcribe}
use Rattle.simulation.proofs.RelationsLaws.{cond-rel, length-rel}
use Rattle.simulation.specs.Shapes.{TreeOf, empties, constants, names₂, pairs, PatternOf, variable_ps, literal_ps, wildcard_ps, constant_ps, empty_ps, pair_ps, ellipsis_ps, TemplateOf, variable_ts, insert_ts, constant_ts, empty_ts, pair_ts, ellipsis_ts}
use Rattle.simulation.proofs.ShapesLaws.{tree_map, elements-rel, element-rel, tail-rel, past-rel}
use Rattle.simulation.proofs.RulesKept.{drivers-rel}

-- lists of one shape give an ellipsis the same share
share-rel : {U : Name → Name → Type 0} (n : ℕ) {t u : Tree} → TreeOf U t u → share n t ≡ share n u
unfolding share
share-rel n r = ap (λ c. c - n) (length-rel (elements-rel r))

-- ---- whether a pattern fits, where the first's lookups are fine

module _ (L U : Name → Name → Type 0) (Looks : List Name → Type 0)
    (looks-left : (l k : List Name) → Looks (l ++ k) → Looks l)
    (looks-right : (l k : List Name) → Looks (l ++ k) → Looks k)
    (agree-eq : (x x' y y' : Name) → L x x' → U y y' → Looks (x ∷ y ∷ []) → agree x y ≡ agree x' y') where
  -- both fit or neither does
  abbrev pub FitRel : Fit → Fit → Type 0
  FitRel f g = Looks f.0 → f.1 ≡ g.1

  both_fit-rel : (f f' g g' : Fit) → FitRel f f' → FitRel g g' → FitRel (both_fit f g) (both_fit f' g')
  unfolding both_fit and_then
  both_fit-rel f f' g g' p q = go f.1 f'.1 p
    where
      go : (a b : Bool) → (Looks f.0 → a ≡ b) → FitRel (and_then f.0 a g) (and_then f'.0 b g')
      go true true k fine = q (looks-right f.0 g.0 fine)
      go true false k fine = absurd (true≢false (k (looks-left f.0 g.0 fine)))
      go false true k fine = absurd (false≢true (k fine))
      go false false k fine = refl

  -- lists of one shape have as many elements
  enough-rel : (n : ℕ) {t u : Tree} → TreeOf U t u → FitRel (enough n t) (enough n u)
  unfolding enough
  enough-rel n r = λ _. ap (leb n) (length-rel (elements-rel r))

  each_fits-rel : (f f' g g' : Tree → Fit) → ((t u : Tree) → TreeOf U t u → FitRel (f t) (f' u)) → ((t u : Tree) → TreeOf U t u → FitRel (g t) (g' u))
      → (c : ℕ) (t u : Tree) → TreeOf U t u → FitRel (each_fits f g c t) (each_fits f' g' c u)
  unfolding each_fits misfit on_pair
  each_fits-rel f f' g g' h k zero t u r = k t u r
  each_fits-rel f f' g g' h k (suc c) _ _ empties = λ _. refl
  each_fits-rel f f' g g' h k (suc c) _ _ constants = λ _. refl
  each_fits-rel f f' g g' h k (suc c) _ _ (names₂ r) = λ _. refl
  each_fits-rel f f' g g' h k (suc c) _ _ (pairs p q) = both_fit-rel _ _ _ _ (h _ _ p) (each_fits-rel f f' g g' h k c _ _ q)

  pub fit-rel : {p q : Pattern} → PatternOf L p q → (t u : Tree) → TreeOf U t u → FitRel (fit p t) (fit q u)
  unfolding fit fitting misfit on_name on_constant on_empty on_pair
  fit-rel variable_ps t u r = λ _. refl
  fit-rel (literal_ps l) _ _ empties = λ _. refl
  fit-rel (literal_ps l) _ _ constants = λ _. refl
  fit-rel (literal_ps l) _ _ (names₂ r) = λ fine. agree-eq _ _ _ _ l r fine
  fit-rel (literal_ps l) _ _ (pairs a b) = λ _. refl
  fit-rel wildcard_ps t u r = λ _. refl
  fit-rel constant_ps _ _ empties = λ _. refl
  fit-rel constant_ps _ _ constants = λ _. refl
  fit-rel constant_ps _ _ (names₂ r) = λ _. refl
  fit-rel constant_ps _ _ (pairs a b) = λ _. refl
  fit-rel empty_ps _ _ empties = λ _. refl
  fit-rel empty_ps _ _ constants = λ _. refl
  fit-rel empty_ps _ _ (names₂ r) = λ _. refl
  fit-rel empty_ps _ _ (pairs a b) = λ _. refl
  fit-rel (pair_ps p q) _ _ empties = λ _. refl
  fit-rel (pair_ps p q) _ _ constants = λ _. refl
  fit-rel (pair_ps p q) _ _ (names₂ r) = λ _. refl
  fit-rel (pair_ps p q) _ _ (pairs a b) = both_fit-rel _ _ _ _ (fit-rel p _ _ a) (fit-rel q _ _ b)
  fit-rel (ellipsis_ps {p = p} {p' = p'} {n = n} {q = q} {q' = q'} a b) t u r =
      both_fit-rel _ _ _ _ (enough-rel n r)
      (subst (λ c. FitRel (each_fits (fit p) (fit q) (share n t) t) (each_fits (fit p') (fit q') c u)) (share-rel n r)
      (each_fits-rel _ _ _ _ (fit-rel a) (fit-rel b) (share n t) t u r))

-- ---- what a variable takes

holds-rel : {L : Name → Name → Type 0} (k : ℕ) {p q : Pattern} → PatternOf L p q → holds k p ≡ holds k q
unfolding holds
holds-rel k variable_ps = refl
holds-rel k (literal_ps r) = refl
holds-rel k wildcard_ps = refl
holds-rel k constant_ps = refl
holds-rel k empty_ps = refl
holds-rel k (pair_ps p q) = ap₂ ◌||◌ (holds-rel k p) (holds-rel k q)
holds-rel k (ellipsis_ps p q) = ap₂ ◌||◌ (holds-rel k p) (holds-rel k q)

-- what follows the ellipsis
after-rel : {U : Name → Name → Type 0} (n : ℕ) {t u : Tree} → TreeOf U t u → TreeOf U (past (share n t) t) (past (share n u) u)
after-rel {U} n {t} {u} r = subst (λ c. TreeOf U (past (share n t) t) (past c u)) (share-rel n r) (past-rel (share n t) r)

pub part-rel : {L U : Name → Name → Type 0} {p q : Pattern} → PatternOf L p q → (k : ℕ) (is : List ℕ) {t u : Tree} → TreeOf U t u → TreeOf U (part p k is t) (part q k is u)
unfolding part
part-rel variable_ps k is r = r
part-rel (literal_ps l) k is r = empties
part-rel wildcard_ps k is r = empties
part-rel constant_ps k is r = empties
part-rel empty_ps k is r = empties
part-rel {L} {U} (pair_ps p q) k is r = cond-rel (TreeOf U) _ _ _ _ _ _ (holds-rel k p) (part-rel p k is (element-rel 0 r)) (part-rel q k is (tail-rel r))
part-rel {L} {U} (ellipsis_ps {n = n} p q) k [] {t} {u} r = cond-rel (TreeOf U) _ _ _ _ _ _ (holds-rel k p) r (part-rel q k [] (after-rel n r))
part-rel {L} {U} (ellipsis_ps {n = n} p q) k (i ∷ is) r = cond-rel (TreeOf U) _ _ _ _ _ _ (holds-rel k p) (part-rel p k is (element-rel i r)) (part-rel q k (i ∷ is) (after-rel n r))

taken_count-rel : {L U : Name → Name → Type 0} {p q : Pattern} → PatternOf L p q → (k : ℕ) (is : List ℕ) {t u : Tree} → TreeOf U t u → taken_count p k is t ≡ taken_count q k is u
unfolding taken_count
taken_count-rel variable_ps k is r = refl
taken_count-rel (literal_ps l) k is r = refl
taken_count-rel wildcard_ps k is r = refl
taken_count-rel constant_ps k is r = refl
taken_count-rel empty_ps k is r = refl
taken_count-rel (pair_ps p q) k is r = cond-rel ◌≡◌ _ _ _ _ _ _ (holds-rel k p) (taken_count-rel p k is (element-rel 0 r)) (taken_count-rel q k is (tail-rel r))
taken_count-rel (ellipsis_ps {n = n} p q) k [] r = cond-rel ◌≡◌ _ _ _ _ _ _ (holds-rel k p) (share-rel n r) (taken_count-rel q k [] (after-rel n r))
taken_count-rel (ellipsis_ps {n = n} p q) k (i ∷ is) r = cond-rel ◌≡◌ _ _ _ _ _ _ (holds-rel k p) (taken_count-rel p k is (element-rel i r)) (taken_count-rel q k (i ∷ is) (after-rel n r))

-- ---- what a template gives

all_below-cong : (f g : ℕ → Bool) → ((i : ℕ) → f i ≡ g i) → (k : ℕ) → all_below f k ≡ all_below g k
unfolding all_below
all_below-cong f g h zero = refl
all_below-cong f g h (suc k) = ap₂ ◌&&◌ (all_below-cong f g h k) (h k)

copies-rel : {S : Name → Name → Type 0} (f g : ℕ → Tree) → ((i : ℕ) → TreeOf S (f i) (g i)) → (k n : ℕ) {a b : Tree} → TreeOf S a b → TreeOf S (copies f k n a) (copies g k n b)
unfolding copies
copies-rel f g h k zero r = r
copies-rel f g h k (suc n) r = pairs (h k) (copies-rel f g h (suc k) n r)

module _ {L U : Name → Name → Type 0} {p q : Pattern} (pq : PatternOf L p q) {t u : Tree} (tu : TreeOf U t u) where
  taken-rel : (is : List ℕ) (k d : ℕ) → TreeOf U (taken p t is k d) (taken q u is k d)
  unfolding taken
  taken-rel is k d = part-rel pq k (reverse (take d is)) tu

  lengths-rel : {T : Name → Name → Type 0} (is : List ℕ) {e f : Template} → TemplateOf T e f → lengths p t is e ≡ lengths q u is f
  unfolding lengths
  lengths-rel {T} is {e} {f} r = ap (map (λ v. taken_count p v.0 (reverse (take v.1 is)) t)) (drivers-rel 0 r) ∙ go (drivers 0 f)
    where
      go : (l : List (ℕ × ℕ)) → map (λ v. taken_count p v.0 (reverse (take v.1 is)) t) l ≡ map (λ v. taken_count q v.0 (reverse (take v.1 is)) u) l
      go [] = refl
      go (v ∷ l) = ap₂ ◌∷◌ (taken_count-rel pq v.0 (reverse (take v.1 is)) tu) (go l)

  copy_count-rel : {T : Name → Name → Type 0} (is : List ℕ) {e f : Template} → TemplateOf T e f → copy_count p t is e ≡ copy_count q u is f
  unfolding copy_count
  copy_count-rel is r = ap (λ l. get_or l 0 0) (lengths-rel is r)

  pub equal_lengths-rel : {T : Name → Name → Type 0} (is : List ℕ) {e f : Template} → TemplateOf T e f → equal_lengths p t is e ≡ equal_lengths q u is f
  unfolding equal_lengths
  equal_lengths-rel is variable_ts = refl
  equal_lengths-rel is (insert_ts r) = refl
  equal_lengths-rel is constant_ts = refl
  equal_lengths-rel is empty_ts = refl
  equal_lengths-rel is (pair_ts a b) = ap₂ ◌&&◌ (equal_lengths-rel is a) (equal_lengths-rel is b)
  equal_lengths-rel is (ellipsis_ts {p = e} {p' = f} a b) =
      ap₂ ◌&&◌ (ap₂ (λ k l. all_of (eqb k) l) (copy_count-rel is a) (lengths-rel is a))
      (ap₂ ◌&&◌ (all_below-cong _ _ (λ i. equal_lengths-rel (i ∷ is) a) (copy_count p t is e) ∙ ap (all_below (λ i. equal_lengths q u (i ∷ is) f)) (copy_count-rel is a)) (equal_lengths-rel is b))

  pub transcribe-rel : {T : Name → Name → Type 0} (S : Name → Name → Type 0) → ((x y : Name) → T x y → S x y) → ((x y : Name) → U x y → S x y) → (is : List ℕ) {e f : Template} → TemplateOf T e f → TreeOf S (transcribe p t is e) (transcribe q u is f)
  unfolding transcribe
  transcribe-rel S a b is (variable_ts {k = k} {d = d}) = tree_map b (taken-rel is k d)
  transcribe-rel S a b is (insert_ts r) = names₂ (a _ _ r)
  transcribe-rel S a b is constant_ts = constants
  transcribe-rel S a b is empty_ts = empties
  transcribe-rel S a b is (pair_ts r s) = pairs (transcribe-rel S a b is r) (transcribe-rel S a b is s)
  transcribe-rel S a b is (ellipsis_ts {p = e} {p' = f} {q = g} {q' = h} r s) =
      subst (λ k. TreeOf S (copies (λ i. transcribe p t (i ∷ is) e) 0 (copy_count p t is e) (transcribe p t is g)) (copies (λ i. transcribe q u (i ∷ is) f) 0 k (transcribe q u is h))) (copy_count-rel is r)
      (copies-rel _ _ (λ i. transcribe-rel S a b (i ∷ is) r) 0 (copy_count p t is e) (transcribe-rel S a b is s))
