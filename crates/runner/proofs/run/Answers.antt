-- The tests, and the evaluation with a table of ends that is empty.
use Rattle.std.proofs.lemmas.Result.{err_from_is_err_and}
use Rattle.runner.specs.Memo.{memo-none}
use Rattle.runner.specs.ServiceLaws.{ran-unfit}
use Rattle.runner.proofs.run.Goals as goal

pub returns-in_err-fit : goal.returns-in_err-fit
returns-in_err-fit c = let p = err_from_is_err_and c.from_residual.result c.from_residual.ensures.1 in rw (p.1, p.2) (ran-unfit c.in_err-fit.ensures)

pub evaluated-requires : goal.evaluated-requires
evaluated-requires c = (memo-none _ 1024, c.in_ok-fit.ensures)

pub evaluated-requires-2 : goal.evaluated-requires-2
evaluated-requires-2 c = (memo-none _ 36864, c.in_ok-fit.ensures)
