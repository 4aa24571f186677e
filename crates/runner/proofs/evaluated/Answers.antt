-- The machine from its start to its end.
use mathlib.Core.Path.{ap, ◌∙◌}
use Prim.Native.Nat.{ℕ}
use lib.ListN.{length, replicate}
use mathlib.Core.Path.{◌≡◌}
use native.Mathlib.Omega.{arith}
use Rattle.std.proofs.lemmas.Grind.{common_steps}
use Rattle.words.specs.Limits.{operations_most}
use Rattle.core_term.specs.Check.{small}
use Rattle.runner.specs.Here.{here-whole}
use Rattle.runner.specs.ServiceLaws.{starts, ran-value, ran-ground}
use Rattle.std.proofs.lemmas.Result.{err_from_is_err_and}
use Rattle.runner.proofs.evaluated.Goals as goal

pub mark-requires : goal.mark-requires
mark-requires c = let pre' = c.requires in
    (pre'.0, (pre'.1.term, here-whole operations_most small _ _ pre'.1.is))

pub go-end-requires : goal.go-end-requires
go-end-requires c = (c.mark.ensures.0, (_, starts _ c.requires.1))

pub returns-in_err-end : goal.returns-in_err-end
returns-in_err-end c =
    let zeros : c.fill.new.self ≡ replicate (length c.go-end.new.table) 0 = grind (arith, common_steps) in
    let p = err_from_is_err_and c.from_residual.result c.from_residual.ensures.1 in rw (p.1, p.2)
    (ran-ground _ c.requires.1 (zeros ∙ ap (λ (n : ℕ). replicate n 0) c.go-end.auto.table) _ _ (c.go-end.ensures _ (starts _ c.requires.1)) _ c.in_err-end.was)

pub returns : goal.returns
returns c =
    let zeros : c.fill.new.self ≡ replicate (length c.go-end.new.table) 0 = grind (arith, common_steps) in
    ran-value _ c.requires.1 (zeros ∙ ap (λ (n : ℕ). replicate n 0) c.go-end.auto.table) _ _ (c.go-end.ensures _ (starts _ c.requires.1)) _ c.in_ok-end.was _ c.whole.ensures
