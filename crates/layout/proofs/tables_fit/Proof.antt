-- `tables_fit` answers ground 9: the room of one table and of the other.
use borrow.Author.Rules.{rules}
use Rattle.layout.proofs.tables_fit.Statement.{statement}
use Rattle.layout.proofs.tables_fit.Tie as tie
use mathlib.Core.Path.{sym, ◌∙◌}

returns : tie.Need-returns-then-has_room
returns c = rw (sym c.has_room.ensures ∙ c.if-has_room.true) c.has_room-then-has_room.ensures

returns-2 : tie.Need-returns-else-has_room
returns-2 c = rw (sym c.has_room.ensures ∙ c.if-has_room.false) (search rules)

pub tables_fit_spec : {M : Type 1} → statement M
tables_fit_spec =
    tie.close
    (tie.spec
    (λ c κs. search rules)  -- has-room-requires
    (λ c κs. search rules)  -- has-room-requires-2
    returns
    returns-2)
