-- A variable that is bound, and noted where it is in the window.
use Rattle.std.proofs.Common.{refl}
use borrow.Author.Tests.{lt-ltb, le-leb}
use Rattle.core_term.specs.Code.WindowLaws.{noted-below, noted-flag, noted-past}
use Rattle.core_term.proofs.flags.in_scope.Goals as goal

pub returns-then-k-base : goal.returns-then-k-base
returns-then-k-base c = rw (lt-ltb _ _ c.if-k-bound.false, noted-below _ _ _ c.if-k-base.true)

pub returns-then-i-flags : goal.returns-then-i-flags
returns-then-i-flags c = rw (lt-ltb _ _ c.if-k-bound.false, noted-past _ _ _ c.if-k-base.false c.if-i-flags.true, le-leb _ _ c.if-i-flags.true) refl

pub returns-else-i-flags : goal.returns-else-i-flags
returns-else-i-flags c = rw (lt-ltb _ _ c.if-k-bound.false, noted-flag _ _ c.args.flags.now c.if-k-base.false c.if-i-flags.false)
