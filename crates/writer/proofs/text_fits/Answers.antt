use Rattle.std.proofs.Common.{sym, ◌∙◌, arith}
use Rattle.writer.specs.WroteLaws.{room-measured, walk-told}
use Rattle.writer.proofs.text_fits.Goals as goal

pub returns-then-has_room : goal.returns-then-has_room
returns-then-has_room c = λ operations t k. room-measured _ operations _ t k _ (sym c.has_room.ensures ∙ c.if-has_room.true)

pub term-requires : goal.term-requires
term-requires c = (omega arith, c.requires.0, c.requires.1)

pub returns : goal.returns
returns c = λ operations t k. walk-told _ operations _ _ c.requires.2 c.term.ensures c.is_some.ensures t k
