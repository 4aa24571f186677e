use Rattle.std.proofs.Common.{sym}
use Rattle.writer.specs.LaidLaws.{left_is}
use Rattle.writer.specs.PiecesLaws.{list-inner, list-quoted}
use Rattle.writer.proofs.pieces.list_opening.Goals as goal

pub returns-then-inner : goal.returns-then-inner
returns-then-inner c = λ s n. left_is (sym (list-inner s _ n c.if-inner.true)) c.byte.ensures

pub returns : goal.returns
returns c = λ s n. left_is (sym (list-quoted s _ n c.if-inner.false)) c.copy.ensures
