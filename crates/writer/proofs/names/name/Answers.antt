use Rattle.std.proofs.Common.{arith}
use Rattle.writer.specs.LaidLaws.{left_is}
use Rattle.writer.specs.OpenedLaws.{slot_of, name-cut}
use Rattle.writer.proofs.names.name.Goals as goal

pub overflow_mul-start : goal.overflow_mul-start
overflow_mul-start c = let s = slot_of _ _ c.requires.1 in omega (arith, s.few)

pub overflow_add-from : goal.overflow_add-from
overflow_add-from c = let s = slot_of _ _ c.requires.1 in omega (arith, s.few)

pub bounds-names-start : goal.bounds-names-start
bounds-names-start c = let s = slot_of _ _ c.requires.1 in omega (arith, s.there)

pub overflow_add-to : goal.overflow_add-to
overflow_add-to c = let s = slot_of _ _ c.requires.1 in omega (arith, s.few, s.short, c.from.ensures)

pub slice_bounds-copy-end : goal.slice_bounds-copy-end
slice_bounds-copy-end c = let s = slot_of _ _ c.requires.1 in omega (arith, s.there, s.short, c.from.ensures)

pub returns : goal.returns
returns c = left_is (name-cut c.args.names.now _ _ c.from.ensures) c.copy.ensures
