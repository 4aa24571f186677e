-- The names are noted, as many as there are.
use Rattle.writer.specs.Called.{called_by}
use Rattle.writer.specs.WroteLaws.{is-told}
use Rattle.writer.proofs.write_noting.Goals as goal

pub note-requires : goal.note-requires
note-requires c = (is-told c.args.words.now c.args.operations c.args.names.now c.requires.0, c.requires.1, c.requires.2)

pub write_called-requires : goal.write_called-requires
unfolding called_by
write_called-requires c = (c.requires.0, tt, c.note.ensures)
