use Rattle.std.proofs.Common.{sym}
use Rattle.writer.specs.LaidLaws.{left-room, left-stops, left-then, left_is}
use Rattle.writer.specs.PiecesLaws.{name-inner, name-quoted}
use Rattle.writer.specs.Called.{said}
use Rattle.writer.proofs.pieces.name_opening.Goals as goal

pub returns-then-inner : goal.returns-then-inner
returns-then-inner c = λ v. left_is (sym (name-inner (said _ v) _ _ c.if-inner.true)) c.name.ensures

pub returns-in_err-a : goal.returns-in_err-a
returns-in_err-a c =
    λ v. left_is (sym (name-quoted (said _ v) _ _ c.if-inner.false)) (left-stops c.copy.ensures _ c.in_err-a.was c.from_residual.ensures)

pub name-requires-2 : goal.name-requires-2
name-requires-2 c = (left-room c.copy.ensures _ c.in_ok-a.was, c.requires.1)

pub returns-in_err-b : goal.returns-in_err-b
returns-in_err-b c =
    λ v. left_is (sym (name-quoted (said _ v) _ _ c.if-inner.false)) (left-then c.copy.ensures _ c.in_ok-a.was (left-stops c.name-2.ensures _ c.in_err-b.was c.from_residual-in_err-b.ensures))

pub byte-requires : goal.byte-requires
byte-requires c = left-room c.name-2.ensures _ c.in_ok-b.was

pub returns : goal.returns
returns c =
    λ v. left_is (sym (name-quoted (said _ v) _ _ c.if-inner.false)) (left-then c.copy.ensures _ c.in_ok-a.was (left-then c.name-2.ensures _ c.in_ok-b.was c.byte.ensures))
