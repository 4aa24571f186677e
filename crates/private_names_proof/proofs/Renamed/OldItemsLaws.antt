-- The items of the private name, among the names of a tree; and that no variable has a number that no name has.
use Rattle.std.specs.Prelude.{◌≡◌, Bool, ◌||◌, ℕ, ◌+◌, ◌≤◌}
use Rattle.std.proofs.Math.Path.{refl, ap, ap₂, sym}
use Rattle.std.proofs.Common.{◌∙◌}
use Rattle.std.proofs.Math.Bool.{true, false, ◌&&◌, cond}
use Rattle.std.proofs.lemmas.Bool.{false≢true}
use mathlib.Core.List.{List, [], ◌∷◌}
use native.Mathlib.Omega.{arith}
use borrow.Author.Tests.{eqb-true, eq-eqb}
use Rattle.std.proofs.Math.Dec.{eqb}
use Rattle.words.specs.Lists.{any_of}
use Rattle.words.specs.TestLaws.{or_left, or_right, any_append}
use Rattle.recipe.specs.Name.{Name}
use Rattle.recipe.specs.Tree.{Tree, empty, constant, name, pair, on_name, names}
use Rattle.recipe.specs.TreeNames.{TreeAll, all-empty, all-constant, all-name, all-pair, tree_all-map, uses}
use Rattle.expansion.specs.Rules.{variables, is_variable, depth_before}
use Rattle.private_names_proof.specs.Renamed.OldItems.{is_old}

module _ (o : ℕ) where
  -- it is one of the tree's names
  pub old-uses : (i : ℕ) (t : Tree) → any_of ((is_old o) i) (names t) ≡ true → 1 ≤ uses i t
  unfolding any_of names is_old uses
  old-uses i empty e = absurd (false≢true e)
  old-uses i (constant a) e = absurd (false≢true e)
  old-uses i (name x) e = go (eqb x.number o) (eqb x.item i) e
    where
      go : (a b : Bool) → ((a && b) || false) ≡ true → 1 ≤ cond b 1 0
      go a true e = omega arith
      go true false e = absurd (false≢true e)
      go false false e = absurd (false≢true e)
  old-uses i (pair h t) e = go (any_of ((is_old o) i) (names h)) (any_of ((is_old o) i) (names t)) (sym (any_append ((is_old o) i) (names h) (names t)) ∙ e) (old-uses i h) (old-uses i t)
    where
      go : (a b : Bool) → (a || b) ≡ true → (a ≡ true → 1 ≤ uses i h) → (b ≡ true → 1 ≤ uses i t) → 1 ≤ uses i h + uses i t
      go true b e f g = omega (arith, f refl)
      go false b e f g = omega (arith, g e)

  -- where numbers go by items, its item's number is the old one
  pub old-number : (N : ℕ → ℕ) (i : ℕ) {t : Tree} → TreeAll (λ x. x.number ≡ N x.item) t → any_of ((is_old o) i) (names t) ≡ true → N i ≡ o
  unfolding any_of names is_old
  old-number N i all-empty e = absurd (false≢true e)
  old-number N i all-constant e = absurd (false≢true e)
  old-number N i (all-name {x = x} p) e = go (eqb x.number o) (eqb x.item i) refl refl e
    where
      go : (a b : Bool) → eqb x.number o ≡ a → eqb x.item i ≡ b → ((a && b) || false) ≡ true → N i ≡ o
      go true true d f e = ap N (sym (eqb-true x.item i f)) ∙ sym p ∙ eqb-true x.number o d
      go true false d f e = absurd (false≢true e)
      go false b d f e = absurd (false≢true e)
  old-number N i (all-pair {h = h} {t = t} p q) e = go (any_of ((is_old o) i) (names h)) (any_of ((is_old o) i) (names t)) (sym (any_append ((is_old o) i) (names h) (names t)) ∙ e) (old-number N i p) (old-number N i q)
    where
      go : (a b : Bool) → (a || b) ≡ true → (a ≡ true → N i ≡ o) → (b ≡ true → N i ≡ o) → N i ≡ o
      go true b e f g = f refl
      go false b e f g = g e

  -- each name of the old number is one
  pub old-each : (t : Tree) → TreeAll (λ x. eqb x.number o ≡ true → any_of ((is_old o) x.item) (names t) ≡ true) t
  unfolding names is_old any_of
  old-each empty = all-empty
  old-each (constant a) = all-constant
  old-each (name x) = all-name (λ e. ap₂ (λ a b. (a && b) || false) e (eq-eqb x.item x.item refl))
  old-each (pair h t) = all-pair
      (tree_all-map (λ x f e. any_append ((is_old o) x.item) (names h) (names t) ∙ or_left _ _ (f e)) (old-each h))
      (tree_all-map (λ x f e. any_append ((is_old o) x.item) (names h) (names t) ∙ or_right (any_of ((is_old o) x.item) (names h)) _ (f e)) (old-each t))

  -- there is one, where a name has the old number
  pub old-some : (xs : List Name) → any_of (λ x. eqb x.number o) xs ≡ true → (i : ℕ) × (any_of ((is_old o) i) xs ≡ true)
  unfolding any_of is_old
  old-some [] e = absurd (false≢true e)
  old-some (x ∷ xs) e = go (eqb x.number o) refl e (old-some xs)
    where
      go : (b : Bool) → eqb x.number o ≡ b → (b || any_of (λ x. eqb x.number o) xs) ≡ true → (any_of (λ x. eqb x.number o) xs ≡ true → (i : ℕ) × (any_of ((is_old o) i) xs ≡ true))
          → (i : ℕ) × (any_of ((is_old o) i) (x ∷ xs) ≡ true)
      go true d e h = (x.item, or_left ((is_old o) x.item x) (any_of ((is_old o) x.item) xs) (ap₂ ◌&&◌ d (eq-eqb x.item x.item refl)))
      go false d e h = let w = h e in (w.0, or_right ((is_old o) w.0 x) (any_of ((is_old o) w.0) xs) w.1)

-- ---- no variable has a number that no name has

pub number-none : (n : ℕ) {t : Tree} → TreeAll (λ x. eqb x.number n ≡ false) t → on_name (λ x. eqb x.number n) false t ≡ false
unfolding on_name
number-none n all-empty = refl
number-none n all-constant = refl
number-none n (all-name e) = e
number-none n (all-pair p q) = refl

pub variables-none : (dots : Name → Bool) (literals : List Name) (n d : ℕ) {t : Tree} → TreeAll (λ x. eqb x.number n ≡ false) t → any_of (λ v. eqb v.0.number n) (variables dots literals d t) ≡ false
unfolding variables any_of
variables-none dots literals n d all-empty = refl
variables-none dots literals n d all-constant = refl
variables-none dots literals n d (all-name {x = x} e) = go (is_variable dots literals x)
  where
    go : (b : Bool) → any_of (λ (v : Name × ℕ). eqb v.0.number n) (cond b ((x, d) ∷ []) []) ≡ false
    go true = ap (λ c. c || false) e
    go false = refl
variables-none dots literals n d (all-pair {h = h} {t = t} p q) =
    any_append (λ v. eqb v.0.number n) (variables dots literals (depth_before dots t d) h) (variables dots literals d t)
    ∙ ap₂ ◌||◌ (variables-none dots literals n (depth_before dots t d) p) (variables-none dots literals n d q)
