use mathlib.Core.Path.{◌≡◌}
use Prim.Native.Nat.{ℕ, suc, ◌+◌}
use native.Mathlib.Omega.{arith}
use Rattle.turns.specs.Numbers.{stepped}
use Rattle.turns.proofs.answers.Reached.stepped.Goals as goal

pub returns : goal.returns
unfolding stepped
returns c =
    let steps : ℕ = c.args.self.steps in
    let one : steps + 1 ≡ suc steps = omega arith in
    rw one
