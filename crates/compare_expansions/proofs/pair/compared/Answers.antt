-- Both tables begin with what the recipe gives: three words an item, a slot a name.
use Rattle.std.proofs.Common.{sym, arith, ◌*◌, ◌≤◌, length, length-take-le}
use Rattle.compare_expansions.proofs.pair.compared.Goals as goal
use Rattle.program_laws.specs.ReadLaws.{items-front, names-front}
use Rattle.compare_expansions.specs.PairLaws.{compared-read, compared-refused}

pub overflow_mul-words : goal.overflow_mul-words
overflow_mul-words c =
    let h : 3 * c.in-Ok.counts.items ≤ length c.read.new.items =
    (items-front _ _ _ _ _ _ c.read.ensures _ c.in-Ok.is).0 in
    record { fits = omega arith }

pub overflow_mul-bytes : goal.overflow_mul-bytes
overflow_mul-bytes c =
    let h : 64 * c.in-Ok.counts.names ≤ length c.read.new.names =
    (names-front _ _ _ _ _ _ c.read.ensures _ c.in-Ok.is).0 in
    record { fits = omega arith }

pub slice_bounds-held-end : goal.slice_bounds-held-end
slice_bounds-held-end c =
    (items-front _ _ _ _ _ _ c.read.ensures _ c.in-Ok.is).0

pub slice_bounds-held-end-in-Ok : goal.slice_bounds-held-end-in-Ok
slice_bounds-held-end-in-Ok c =
    sym (length-take-le _ _ (items-front _ _ _ _ _ _ c.read.ensures _ c.in-Ok.is).0)

pub slice_bounds-held-end-in-Ok-2 : goal.slice_bounds-held-end-in-Ok-2
slice_bounds-held-end-in-Ok-2 c =
    (names-front _ _ _ _ _ _ c.read.ensures _ c.in-Ok.is).0

pub slice_bounds-held-end-in-Ok-3 : goal.slice_bounds-held-end-in-Ok-3
slice_bounds-held-end-in-Ok-3 c =
    sym (length-take-le _ _ (names-front _ _ _ _ _ _ c.read.ensures _ c.in-Ok.is).0)

pub returns-in-Ok : goal.returns-in-Ok
returns-in-Ok c =
    compared-read _ _ _ _ _ _ c.read.ensures _ _ _ _ _ c.in-Ok.is _ c.held.ensures

pub returns-in-Err : goal.returns-in-Err
returns-in-Err c =
    compared-refused _ _ _ _ _ _ c.read.ensures _ _ _ _ _ c.in-Err.is
