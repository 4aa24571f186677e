use Rattle.std.proofs.Common.{sym, ap, ◌∙◌, arith}
use Rattle.datum.specs.NameTable.{name_at, has_name}
use Rattle.writer.specs.LaidLaws.{left-room, left-stops, left-then, left_is}
use Rattle.writer.specs.Called.{said_of}
use Rattle.writer.specs.PiecesLaws.{variable-text}
use Rattle.writer.specs.OpenedLaws.{naming-slot}
use Rattle.writer.proofs.names.variable.Goals as goal

pub returns-in_err-a : goal.returns-in_err-a
returns-in_err-a c =
    let a = c.args in
    left_is (sym (variable-text (said_of a.pen) _)) (left-stops c.numbered.ensures _ c.in_err-a.was c.from_residual.ensures)

pub byte-requires : goal.byte-requires
byte-requires c = left-room c.numbered.ensures _ c.in_ok-a.was

pub returns-in_err-b : goal.returns-in_err-b
returns-in_err-b c =
    let a = c.args in
    left_is (sym (variable-text (said_of a.pen) _)) (left-then c.numbered.ensures _ c.in_ok-a.was (left-stops c.byte.ensures _ c.in_err-b.was c.from_residual-in_err-b.ensures))

pub name_of-requires : goal.name_of-requires
name_of-requires c = (c.requires.1.many, c.requires.2)

pub name-requires : goal.name-requires
name-requires c =
    let a = c.args in
    (left-room c.byte.ensures _ c.in_ok-b.was, ap (has_name a.pen.names.now) c.name_of.ensures ∙ naming-slot (said_of a.pen) _ _ c.requires.1 (omega arith))

pub returns : goal.returns
returns c =
    let a = c.args in
    left_is (sym (variable-text (said_of a.pen) _))
    (left-then c.numbered.ensures _ c.in_ok-a.was (left-then c.byte.ensures _ c.in_ok-b.was (left_is (ap (name_at a.pen.names.now) c.name_of.ensures) c.name.ensures)))
