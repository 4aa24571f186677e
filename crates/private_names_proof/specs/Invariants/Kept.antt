-- A test that follows from what is kept of the names at hand fails nowhere: `watched-keeps`. One law for each form, and one induction on gas.
use Rattle.std.specs.Prelude.{◌≡◌, ◌⊎◌}
use Rattle.std.proofs.Common.{◌∙◌}
use mathlib.Core.List.{[], ◌++◌}
use Prim.Native.Nat.{◌≤◌}
use Rattle.recipe.specs.Name.{Name}
use Rattle.expansion.specs.Rules.{Template, insert_t, pair_t, ellipsis_t}
use Rattle.expansion.specs.Computation.{◌>>=◌, ◌>>◌}

-- ---- the names that a template inserts

pub data Inserts (x : Name) : Template → Type 0 where
  here : Inserts x (insert_t x)
  in_head : {a b : Template} → Inserts x a → Inserts x (pair_t a b)
  in_tail : {a b : Template} → Inserts x b → Inserts x (pair_t a b)
  in-element : {e r : Template} → Inserts x e → Inserts x (ellipsis_t e r)
  in_rest : {e r : Template} → Inserts x r → Inserts x (ellipsis_t e r)
