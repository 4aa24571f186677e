-- One piece after another.
use Rattle.std.proofs.Common.{ℕ, ◌∷◌, ap}
use Rattle.core_term.specs.Decimal.{decimal}
use Rattle.filing.proofs.lines.refused_line.Goals as goal
use Rattle.writer.specs.LaidLaws.{left-room, left-stops, left-then, left_is}
use Rattle.filing.specs.Lines.{refusal-laid}

pub returns-in_err-a : goal.returns-in_err-a
returns-in_err-a c = left_is (refusal-laid _ _ _) (left-stops c.copy.ensures _ c.in_err-a.was c.from_residual.ensures)

pub number-requires : goal.number-requires
number-requires c = left-room c.copy.ensures _ c.in_ok-a.was

pub returns-in_err-b : goal.returns-in_err-b
returns-in_err-b c =
    left_is (refusal-laid _ _ _)
    (left-then c.copy.ensures _ c.in_ok-a.was (left-stops (left_is (ap (λ (n : ℕ). 32 ∷ decimal n) c.number-digits.ensures) c.number.ensures) _ c.in_err-b.was c.from_residual-in_err-b.ensures))

pub counts-requires : goal.counts-requires
counts-requires c = left-room c.number.ensures _ c.in_ok-b.was

pub returns : goal.returns
returns c =
    left_is (refusal-laid _ _ _)
    (left-then c.copy.ensures _ c.in_ok-a.was (left-then (left_is (ap (λ (n : ℕ). 32 ∷ decimal n) c.number-digits.ensures) c.number.ensures) _ c.in_ok-b.was c.counts.ensures))
