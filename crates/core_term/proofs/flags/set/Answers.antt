-- One flag, or none where the variable is outside the window.
use mathlib.Core.Path.{sym}
use Rattle.core_term.specs.Code.WindowLaws.{put-below, put_in, put-past}
use Rattle.core_term.proofs.flags.set.Goals as goal

pub returns-then-k-base : goal.returns-then-k-base
returns-then-k-base c = sym (put-below _ _ _ _ c.if-k-base.true)

pub returns-then-i-flags : goal.returns-then-i-flags
returns-then-i-flags c = sym (put-past _ _ _ _ c.if-k-base.false c.if-i-flags.true)

pub returns : goal.returns
returns c = sym (put_in _ _ _ _ c.if-k-base.false)
