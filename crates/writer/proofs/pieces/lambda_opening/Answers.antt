use Rattle.std.proofs.Common.{sym}
use Rattle.writer.specs.LaidLaws.{left-room, left-stops, left-then, left_is}
use Rattle.writer.specs.PiecesLaws.{lambda-bytes}
use Rattle.writer.proofs.pieces.lambda_opening.Goals as goal

pub returns-in_err-a : goal.returns-in_err-a
returns-in_err-a c = left_is (sym (lambda-bytes _ _ _)) (left-stops c.copy.ensures _ c.in_err-a.was c.from_residual.ensures)

pub formals-requires : goal.formals-requires
formals-requires c =
    let r = c.requires in
    (left-room c.copy.ensures _ c.in_ok-a.was, r.1, r.2, r.3)

pub returns-in_err-b : goal.returns-in_err-b
returns-in_err-b c =
    left_is (sym (lambda-bytes _ _ _)) (left-then c.copy.ensures _ c.in_ok-a.was (left-stops c.formals.ensures _ c.in_err-b.was c.from_residual-in_err-b.ensures))

pub copy-requires-2 : goal.copy-requires-2
copy-requires-2 c = left-room c.formals.ensures _ c.in_ok-b.was

pub returns : goal.returns
returns c =
    left_is (sym (lambda-bytes _ _ _)) (left-then c.copy.ensures _ c.in_ok-a.was (left-then c.formals.ensures _ c.in_ok-b.was c.copy-2.ensures))
