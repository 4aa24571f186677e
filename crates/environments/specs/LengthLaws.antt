-- Laws of driving lists on cells, one for each way through the code.
use Rattle.std.specs.Prelude.{◌≡◌, Option, Some, None, Result, Ok, Err, IsErr, ℕ, zero, suc, ◌+◌, ◌-◌, ◌<◌, ◌≤◌, true, false, cond, List, [], ◌∷◌, ◌++◌, map, ◌==◌, ◌≢◌, nat_eq, slice_index}
use Rattle.std.proofs.Math.Path.{refl, ap, subst}
use Rattle.std.proofs.Common.{sym, ◌∙◌, unwrap_or}
use Rattle.std.proofs.lemmas.Bool.{false≢true}
use mathlib.Core.List.{map-append}
use native.Mathlib.Omega.{arith}
use borrow.Author.Tests.{eq-eqb, eqb-true, eqb-false, lt-ltb, le-ltb}
use Rattle.words.specs.ListLaws.{either}
use Rattle.words.specs.Lists.{all_of}
use Rattle.expansion.specs.Rules.{drivers}
use Rattle.arena.specs.Arena.{word_at, reference_at, tree_at}
use Rattle.rule_cells.specs.Cells.{template_at}
use Rattle.rule_cells.specs.CellLaws.{template_at-variable, template_at-pair, template_at-ellipsis}
use Rattle.environments.specs.Environment.{takes, counts, lengths_by, count_by}
use Rattle.environments.specs.Entries.{entry_at, taking_of, environment_at, level, taken_in, CountsCopies}
use Rattle.environments.specs.TemplateCells.{leaf-other}
use Rattle.environments.specs.Lengths.{Driving, driving, also, after, Drives, Copies, Differs, deeper}
use Rattle.environments.specs.declared.lengths.Differ.{Differ}

-- ---- drivers of a template's cell

pub deeper-most : (tag j : ℕ) → deeper tag j ≤ j + 1
unfolding deeper
deeper-most tag j = either (tag == 7) (λ e. rw e (omega arith)) (λ e. rw e (omega arith))

module _ (work : List ℕ) (t tag : ℕ) (tag_is : tag ≡ word_at work t 1) (j : ℕ) where
  pub drivers-none : (tag ≢ 1) → (tag ≢ 6) → (tag ≢ 7) → drivers j (template_at work t) ≡ []
  unfolding drivers
  drivers-none = leaf-other (λ s. drivers j s ≡ []) (λ x. refl) (λ a. refl) refl work t tag tag_is

  pub drivers-few : (d : ℕ) → tag ≡ 1 → d ≡ word_at work t 2 → d ≤ j → drivers j (template_at work t) ≡ []
  unfolding drivers
  drivers-few d e d-is h = rw (template_at-variable work t (sym tag_is ∙ e), ← d-is, le-ltb j d h) refl

  pub drivers-one : (d k : ℕ) → tag ≡ 1 → d ≡ word_at work t 2 → k ≡ word_at work t 3 → j < d → drivers j (template_at work t) ≡ (k, d - j - 1) ∷ []
  unfolding drivers
  drivers-one d k e d-is k-is h =
      let s : d - suc j ≡ d - j - 1 = omega arith in
      rw (template_at-variable work t (sym tag_is ∙ e), ← d-is, ← k-is, lt-ltb j d h, s) refl

  pub drivers-both : (i head rest : ℕ) → 6 ≤ tag → tag ≤ 7 → i ≡ deeper tag j → head ≡ reference_at work t 3 → rest ≡ reference_at work t 2 → drivers j (template_at work t) ≡ drivers i (template_at work head) ++ drivers j (template_at work rest)
  unfolding drivers deeper
  drivers-both i head rest l h i-is head-is rest-is =
      either (tag == 7)
      (λ e. rw (template_at-ellipsis work t (sym tag_is ∙ eqb-true tag 7 e), ← head-is, ← rest-is, i-is, e) refl)
      (λ e. let s : tag ≡ 6 = omega (arith, eqb-false tag 7 e) in rw (template_at-pair work t (sym tag_is ∙ s), ← head-is, ← rest-is, i-is, e) refl)

-- ---- lists

pub after-append : (x : Driving) (a b : List ℕ) → after x (a ++ b) ≡ after (after x a) b
unfolding after
after-append x [] b = refl
after-append x (l ∷ a) b = after-append (also x l) a b

pub after-differ : (d : Differ) (ls : List ℕ) → after (Err d) ls ≡ Err d
unfolding after also
after-differ d [] = refl
after-differ d (l ∷ ls) = after-differ d ls

after-length : (c : ℕ) (ls : List ℕ) → after (Ok (Some c)) ls ≡ cond (all_of (nat_eq c) ls) (Ok (Some c)) (Err (record {}))
unfolding after also all_of
after-length c [] = refl
after-length c (l ∷ ls) = either (c == l) (λ t. rw t (after-length c ls)) (λ t. rw t (after-differ (record {}) ls))

-- what is told of lists of these lengths
abbrev pub Told : List ℕ → Driving → Type 0
Told ls (Ok None) = ls ≡ []
Told ls (Ok (Some c)) = (c ≡ slice_index ls 0) × (true ≡ all_of (nat_eq c) ls)
Told ls (Err d) = false ≡ all_of (nat_eq (slice_index ls 0)) ls

pub told : (ls : List ℕ) → Told ls (after (Ok None) ls)
unfolding after also all_of
told [] = refl
told (x ∷ xs) =
    either (all_of (nat_eq x) xs)
    (λ t. let e : Ok (Some x) ≡ after (Ok (Some x)) xs = sym (after-length x xs ∙ rw t refl) in subst (Told (x ∷ xs)) e (refl, rw (eq-eqb x x refl, t) refl))
    (λ t. let e : Err (record {}) ≡ after (Ok (Some x)) xs = sym (after-length x xs ∙ rw t refl) in subst (Told (x ∷ xs)) e (rw (eq-eqb x x refl, t) refl))

-- what `?` hands on
pub differ-passed : {A : Type 0} (r : Result A Differ) → IsErr r → r ≡ Err (record {})
differ-passed (Ok x) h = absurd (false≢true h)
differ-passed (Err d) h = refl

-- ---- driving lists

-- what a variable takes is the node of its entry
pub taken_is : (work env : List ℕ) (w k d : ℕ) → takes d (environment_at work env w k) ≡ tree_at work (taken_in env k d) w
unfolding takes environment_at taking_of entry_at taken_in level
taken_is work env w k zero = refl
taken_is work env w k (suc zero) = refl
taken_is work env w k (suc (suc d)) = refl

module _ (work env : List ℕ) where
  module _ (t tag : ℕ) (tag_is : tag ≡ word_at work t 1) (j : ℕ) where
    driving-nothing : (w : ℕ) → drivers j (template_at work t) ≡ [] → driving work env w j t ≡ []
    unfolding driving lengths_by
    driving-nothing w e = rw e refl

    driving-one : (w d k c : ℕ) → tag ≡ 1 → d ≡ word_at work t 2 → k ≡ word_at work t 3 → j < d → CountsCopies work env k (d - j - 1) c → driving work env w j t ≡ c ∷ []
    unfolding driving lengths_by
    driving-one w d k c e d-is k-is h l = rw (drivers-one work t tag tag_is j d k e d-is k-is h) (ap (λ (x : ℕ). x ∷ []) (sym (l w)))

    pub drives-none : (x : Driving) → (tag ≢ 1) → (tag ≢ 6) → (tag ≢ 7) → Drives work env j t x x
    unfolding after
    drives-none x a b c w = rw (driving-nothing w (drivers-none work t tag tag_is j a b c)) refl

    pub drives-few : (x : Driving) (d : ℕ) → tag ≡ 1 → d ≡ word_at work t 2 → d ≤ j → Drives work env j t x x
    unfolding after
    drives-few x d e d-is h w = rw (driving-nothing w (drivers-few work t tag tag_is j d e d-is h)) refl

    pub drives-one : (x : Driving) (d k c : ℕ) → tag ≡ 1 → d ≡ word_at work t 2 → k ≡ word_at work t 3 → j < d → CountsCopies work env k (d - j - 1) c → Drives work env j t x (also x c)
    unfolding after
    drives-one x d k c e d-is k-is h l w = rw (driving-one w d k c e d-is k-is h l) refl

    module _ (i head rest : ℕ) (low : 6 ≤ tag) (high : tag ≤ 7) (i-is : i ≡ deeper tag j) (head-is : head ≡ reference_at work t 3) (rest-is : rest ≡ reference_at work t 2) where
      driving-both : (w : ℕ) → driving work env w j t ≡ driving work env w i head ++ driving work env w j rest
      unfolding driving lengths_by
      driving-both w =
          let f : (ℕ × ℕ) → ℕ = λ v. counts v.1 (environment_at work env w v.0) in
          ap (map f) (drivers-both work t tag tag_is j i head rest low high i-is head-is rest-is) ∙ map-append f (drivers i (template_at work head)) (drivers j (template_at work rest))

      pub drives-both : (x y r : Driving) → Drives work env i head x y → Drives work env j rest y r → Drives work env j t x r
      drives-both x y r f g w = g w ∙ sym (ap (after x) (driving-both w) ∙ after-append x _ _ ∙ ap (λ (z : Driving). after z (driving work env w j rest)) (sym (f w)))

      -- where they differ in the first part, they do in both
      pub drives-differ : (x : Driving) (d : Differ) → Drives work env i head x (Err d) → Drives work env j t x (Err d)
      drives-differ x d f = drives-both x (Err d) (Err d) f (λ w. sym (after-differ d (driving work env w j rest)))

  -- ---- the number of copies

  module _ (e : ℕ) (r : Driving) (f : Drives work env 0 e (Ok None) r) where
    tells : (w : ℕ) → Told (driving work env w 0 e) r
    tells w = subst (Told (driving work env w 0 e)) (sym (f w)) (told (driving work env w 0 e))

    pub copies-of : (o : Option ℕ) → r ≡ Ok o → Copies work env e (unwrap_or o 0)
    unfolding count_by driving all_of
    copies-of None i =
        let no : (w : ℕ) → driving work env w 0 e ≡ [] = λ w. subst (Told (driving work env w 0 e)) i (tells w) in
        record { count = λ w. rw (no w) refl; same = λ w. rw (no w) refl }
    copies-of (Some c) i =
        let all : (w : ℕ) → Told (driving work env w 0 e) (Ok (Some c)) = λ w. subst (Told (driving work env w 0 e)) i (tells w) in
        record { count = λ w. (all w).0; same = λ w. (all w).1 }

    pub copies-differ : (d : Differ) → r ≡ Err d → Differs work env e
    unfolding count_by driving
    copies-differ d i = record { differ = λ w. subst (Told (driving work env w 0 e)) i (tells w) }
