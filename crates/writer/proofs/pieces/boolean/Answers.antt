use Rattle.writer.specs.LaidLaws.{left_is}
use Rattle.writer.specs.PiecesLaws.{boolean-false, boolean-true}
use Rattle.writer.proofs.pieces.boolean.Goals as goal

pub returns-then-w-eq0 : goal.returns-then-w-eq0
returns-then-w-eq0 c = left_is (boolean-false _ c.if-w-eq0.true) c.copy.ensures

pub returns : goal.returns
returns c = left_is (boolean-true _ c.if-w-eq0.false) c.copy-2.ensures
