use Rattle.std.proofs.Common.{arith}
use Rattle.datum.specs.NameTable.{length_at}
use Rattle.reader.proofs.OfCode.StoredLaws.{spelled-same}
use Rattle.reader.proofs.names.spells.Goals as goal

pub slice_bounds-eq-end : goal.slice_bounds-eq-end
unfolding length_at
slice_bounds-eq-end c = omega (arith, c.requires.0, c.requires.1, c.from.ensures)

pub returns : goal.returns
unfolding length_at
returns c = spelled-same c.args.names.now c.args.number c.args.word.now _ _ (omega (arith, c.from.ensures)) c.eq.ensures
