-- Spelling: what one element, or the elements of a list, is spelled by is spelled by no other.
use Rattle.std.specs.Prelude.{◌≡◌, refl, List, [], ◌∷◌, ◌++◌, ℕ}
use Rattle.std.proofs.Common.{sym, ap, ap₂, ◌∙◌, append_assoc, arith}
use Rattle.std.proofs.Math.Seq.{append_snoc}
use Rattle.reading.specs.Meaning.{Meaning, ends}
use Rattle.reading.specs.RecipeText.{Element, Elements, constant_e, name_e, list_e, none_e, more_e, spelled, spelled_all}

-- no element begins with the end of a list
no_end : {P : Type 0} (x : Element) (ms ns : List Meaning) → ends ∷ ms ≡ spelled x ++ ns → P
unfolding spelled
no_end (constant_e a) ms ns h = let z : ◌≡◌ {A = ℕ} 0 1 = cc in absurd (omega arith)
no_end (name_e cs) ms ns h = let z : ◌≡◌ {A = ℕ} 0 1 = cc in absurd (omega arith)
no_end (list_e xs) ms ns h = let z : ◌≡◌ {A = ℕ} 0 1 = cc in absurd (omega arith)

mutual
  unfolding spelled spelled_all

  pub element-once : (x y : Element) (ms ns : List Meaning) → spelled x ++ ms ≡ spelled y ++ ns → (x ≡ y) × (ms ≡ ns)
  element-once (constant_e a) (constant_e b) ms ns h = (ap constant_e (cc), cc)
  element-once (constant_e a) (name_e b) ms ns h = let z : ◌≡◌ {A = ℕ} 0 1 = cc in absurd (omega arith)
  element-once (constant_e a) (list_e ys) ms ns h = let z : ◌≡◌ {A = ℕ} 0 1 = cc in absurd (omega arith)
  element-once (name_e a) (constant_e b) ms ns h = let z : ◌≡◌ {A = ℕ} 0 1 = cc in absurd (omega arith)
  element-once (name_e a) (name_e b) ms ns h = (ap name_e (cc), cc)
  element-once (name_e a) (list_e ys) ms ns h = let z : ◌≡◌ {A = ℕ} 0 1 = cc in absurd (omega arith)
  element-once (list_e xs) (constant_e b) ms ns h = let z : ◌≡◌ {A = ℕ} 0 1 = cc in absurd (omega arith)
  element-once (list_e xs) (name_e b) ms ns h = let z : ◌≡◌ {A = ℕ} 0 1 = cc in absurd (omega arith)
  element-once (list_e xs) (list_e ys) ms ns h =
      let k : spelled_all xs ++ (ends ∷ []) ++ ms ≡ spelled_all ys ++ (ends ∷ []) ++ ns = cc in
      let e = elements-once xs ys ms ns (sym (append_snoc (spelled_all xs) ends ms) ∙ k ∙ append_snoc (spelled_all ys) ends ns) in
      (ap list_e e.0, e.1)

  pub elements-once : (xs ys : Elements) (ms ns : List Meaning) → spelled_all xs ++ (ends ∷ ms) ≡ spelled_all ys ++ (ends ∷ ns) → (xs ≡ ys) × (ms ≡ ns)
  elements-once none_e none_e ms ns h = (refl, cc)
  elements-once none_e (more_e y ys) ms ns h =
      no_end y ms (spelled_all ys ++ (ends ∷ ns)) (h ∙ append_assoc (spelled y) (spelled_all ys) (ends ∷ ns))
  elements-once (more_e x xs) none_e ms ns h =
      no_end x ns (spelled_all xs ++ (ends ∷ ms)) (sym h ∙ append_assoc (spelled x) (spelled_all xs) (ends ∷ ms))
  elements-once (more_e x xs) (more_e y ys) ms ns h =
      let e = element-once x y (spelled_all xs ++ (ends ∷ ms)) (spelled_all ys ++ (ends ∷ ns))
      (sym (append_assoc (spelled x) (spelled_all xs) (ends ∷ ms)) ∙ h ∙ append_assoc (spelled y) (spelled_all ys) (ends ∷ ns)) in
      let f = elements-once xs ys ms ns e.1 in
      (ap₂ more_e e.0 f.0, f.1)
