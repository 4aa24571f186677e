-- Tidy rules: what is read from tidy trees is tidy, and so is what matching and transcribing make of tidy trees and rules.
use Rattle.std.specs.Prelude.{◌≡◌, Bool}
use Rattle.std.proofs.Common.{◌∙◌}
use Rattle.std.proofs.Math.Bool.{true, false}
use mathlib.Core.List.{List, [], ◌∷◌}
use Prim.Native.Nat.{ℕ}
use Rattle.words.specs.Each.{Each}
use Rattle.datum.specs.Constant.{Constant}
use Rattle.recipe.specs.Name.{Name}
use Rattle.expansion.specs.Rules.{Template, variable_t, insert_t, constant_t, empty_t, pair_t, ellipsis_t, Rule}

-- ---- templates: N holds of every inserted name, C of every constant, and the rest of a list is one

unfoldable pub is_rest : Template → Bool
is_rest (variable_t k d) = false
is_rest (insert_t x) = false
is_rest (constant_t a) = false
is_rest empty_t = true
is_rest (pair_t a b) = true
is_rest (ellipsis_t e r) = true

pub data TidyTemplate (N : Name → Type 0) (C : Constant → Type 0) : Template → Type 0 where
  template_variable : {k d : ℕ} → TidyTemplate N C (variable_t k d)
  template_insert : {x : Name} → N x → TidyTemplate N C (insert_t x)
  template_constant : {a : Constant} → C a → TidyTemplate N C (constant_t a)
  template_empty : TidyTemplate N C empty_t
  template_pair : {a b : Template} → TidyTemplate N C a → TidyTemplate N C b → is_rest b ≡ true → TidyTemplate N C (pair_t a b)
  template_ellipsis : {e r : Template} → TidyTemplate N C e → TidyTemplate N C r → is_rest r ≡ true → TidyTemplate N C (ellipsis_t e r)

abbrev pub TidyRules : (Name → Type 0) → (Constant → Type 0) → List Rule → Type 0
TidyRules N C = Each (λ r. TidyTemplate N C r.template)
