use Rattle.writer.specs.LaidLaws.{left_is}
use Rattle.writer.specs.PiecesLaws.{inner-closes, quoted-closes}
use Rattle.writer.proofs.pieces.list_closing.Goals as goal

pub returns-then-inner : goal.returns-then-inner
returns-then-inner c = λ n. left_is (inner-closes _ n c.if-inner.true) c.byte.ensures

pub returns : goal.returns
returns c = λ n. left_is (quoted-closes _ n c.if-inner.false) c.copy.ensures
