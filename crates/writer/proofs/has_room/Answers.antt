-- Each test decides the definition's.
use Rattle.std.proofs.Common.{le-leb}
use borrow.Author.Tests.{lt-leb}
use Rattle.writer.specs.Wrote.{has_room}
use Rattle.writer.proofs.has_room.Goals as goal

pub returns-then-count-gt-TEXT_WORDS : goal.returns-then-count-gt-TEXT_WORDS
unfolding has_room
returns-then-count-gt-TEXT_WORDS c = rw (lt-leb _ _ c.if-count-gt-TEXT_WORDS.true)

pub returns : goal.returns
unfolding has_room
returns c = rw (le-leb _ _ c.if-count-gt-TEXT_WORDS.false)
