use Rattle.std.proofs.Common.{sym, arith, rules}
use Rattle.std.proofs.lemmas.Result.{err_from_is_err_and}
use lib.Seq.{length-take-le}
use Rattle.supplier.specs.ServiceLaws.{items-within, text-held, text-few, names-slots, text-kept, text-zeroed, text-unread}
use Rattle.supplier.proofs.held.Goals as goal

pub returns-in_err-counts : goal.returns-in_err-counts
returns-in_err-counts c =
    let p = err_from_is_err_and c.from_residual.result c.from_residual.ensures.1 in
    rw (p.1, p.2) (text-unread _ _ _ _ _ _ c.in_err-counts.ensures _ _ c.args.operations.now)

pub overflow_mul-counts : goal.overflow_mul-counts
overflow_mul-counts c =
    let h = items-within _ _ _ _ _ _ c.in_ok-counts.ensures in
    record { fits = omega arith }

pub slice_bounds-decided-end : goal.slice_bounds-decided-end
slice_bounds-decided-end c = items-within _ _ _ _ _ _ c.in_ok-counts.ensures

pub slice_bounds-decided-end-2 : goal.slice_bounds-decided-end-2
slice_bounds-decided-end-2 c = sym (length-take-le _ _ (items-within _ _ _ _ _ _ c.in_ok-counts.ensures))

pub decided-answer-requires : goal.decided-answer-requires
decided-answer-requires c = (
  text-held _ _ _ _ _ _ c.in_ok-counts.ensures,
  text-few _ _ _ _ _ _ c.in_ok-counts.ensures,
  (names-slots _ _ _ _ _ _ c.in_ok-counts.ensures, c.requires),
)

pub returns-then-is_err : goal.returns-then-is_err
returns-then-is_err c =
    text-zeroed _ _ _ _ _ _ c.in_ok-counts.ensures _ _ c.args.operations.now _ c.decided-answer.ensures (search rules) _ _ (search rules) (search rules)

pub returns-else-is_err : goal.returns-else-is_err
returns-else-is_err c = text-kept _ _ _ _ _ _ c.in_ok-counts.ensures _ _ c.args.operations.now _ c.decided-answer.ensures (search rules)
