use Rattle.writer.specs.WalkLaws.{close-stops, close-walked}
use Rattle.writer.proofs.term.close.Goals as goal

pub returns-in_err-end : goal.returns-in_err-end
returns-in_err-end c = λ x s. close-stops (c.finish.ensures x s) c.in_err-end.was c.from_residual.ensures

pub returns : goal.returns
returns c = λ x s. close-walked (c.finish.ensures x s) _ c.in_ok-end.was
