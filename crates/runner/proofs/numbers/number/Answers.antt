-- The word of what fits, or 25.
use Rattle.std.proofs.lemmas.Result.{err_from_is_err_and}
use Rattle.runner.specs.NumberLaws.{number-some, number-none}
use Rattle.runner.proofs.numbers.number.Goals as goal

pub returns-in_err-n : goal.returns-in_err-n
returns-in_err-n c = λ z h. let r = err_from_is_err_and c.from_residual.result c.from_residual.ensures.1 in
    rw (r.1, r.2) (number-none z c.args.n h _ c.ok_or.ensures.value _ c.in_err-n.was)

pub returns : goal.returns
returns c = λ z h. rw c.cast_unsigned.ensures (number-some z c.args.n h _ c.ok_or.ensures.value _ c.in_ok-n.was)
