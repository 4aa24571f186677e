-- The form of a private name, reached in place: in each of its templates number and marks determine whether a name stems from a private
-- item, since those items are the template's of that name, and each item is once in the form.
use Rattle.std.specs.Prelude.{◌≡◌, ◌⊎◌, Bool, false, ℕ, ◌+◌, ◌≤◌}
use Rattle.std.proofs.Common.{◌∙◌}
use mathlib.Core.List.{[], ◌∷◌}
use Rattle.words.specs.Lists.{any_of}
use Rattle.datum.specs.Constant.{Constant}
use Rattle.recipe.specs.Tree.{Tree, names}
use Rattle.recipe.specs.TreeNames.{TreeAll, uses}
use Rattle.recipe.specs.Tidy.{Tidy}
use Rattle.expansion.specs.Forms.{rules_form_of}
use Rattle.private_names_proof.specs.Renamed.OldItems.{is_old}
use Rattle.private_names_proof.specs.Renamed.{template_in}

-- ---- the form

-- in place: names that never stood in a result, without marks, each of an item of its own that tells its number
pub record InPlace (C : Constant → Type 0) (number : ℕ → ℕ) (t : Tree) : Type 0 where
  pub tidy : Tidy (λ x. Unit {0}) C t
  pub unproduced : TreeAll (λ x. x.produced ≡ false) t
  pub unmarked : TreeAll (λ x. x.marks ≡ []) t
  pub numbered : TreeAll (λ x. x.number ≡ number x.item) t
  pub once : (q : ℕ) → uses q t ≤ 1

-- an item of name n in the template of rule j of macro b
unfoldable pub private_in : (b j n : ℕ) → Tree → ℕ → Bool
private_in b j n t i = any_of (is_old n i) (names (template_in j (rules_form_of b t)))
