-- One piece after another.
use Rattle.compare_expansions.proofs.line.refused.Goals as goal
use Rattle.writer.specs.LaidLaws.{left-room, left-stops, left-then, left_is}
use Rattle.std.proofs.Common.{ℕ, ◌∷◌, ap}
use Rattle.core_term.specs.Decimal.{decimal}

pub returns-in_err-at : goal.returns-in_err-at
returns-in_err-at c = left-stops c.copy.ensures _ c.in_err-at.was c.from_residual.ensures

pub numbered-requires : goal.numbered-requires
numbered-requires c = left-room c.copy.ensures _ c.in_ok-at.was

pub returns-in_err-to : goal.returns-in_err-to
returns-in_err-to c = left-then c.copy.ensures _ c.in_ok-at.was (left-stops (left_is (ap (λ (n : ℕ). 32 ∷ decimal n) c.number.ensures) c.numbered.ensures) _ c.in_err-to.was c.from_residual-in_err-to.ensures)

pub copy-requires-2 : goal.copy-requires-2
copy-requires-2 c = left-room c.numbered.ensures _ c.in_ok-to.was

pub returns : goal.returns
returns c = left-then c.copy.ensures _ c.in_ok-at.was (left-then (left_is (ap (λ (n : ℕ). 32 ∷ decimal n) c.number.ensures) c.numbered.ensures) _ c.in_ok-to.was c.copy-2.ensures)
