-- The text fits, or it does not and the output is as it was; what fits is laid.
use Rattle.std.proofs.Common.{arith}
use borrow.Author.Tests.{not-true, not-false}
use Rattle.writer.specs.WroteLaws.{term-begins, no_room, no_second, wrote-text}
use Rattle.writer.proofs.write_called.Goals as goal

pub text_fits-requires : goal.text_fits-requires
text_fits-requires c = (term-begins c.args.words.now _ _ c.requires.0 _ c.requires.2, c.requires.1, c.requires.2)

pub returns-then-not-text_fits : goal.returns-then-not-text_fits
returns-then-not-text_fits c = no_room c.args.words.now _ _ c.requires.0 c.text_fits.ensures (not-true c.text_fits.result c.if-not-text_fits.true-raw)

pub term-requires : goal.term-requires
term-requires c = (omega arith, term-begins c.args.words.now _ _ c.requires.0 _ c.requires.2, c.requires.1)

pub returns-in_default : goal.returns-in_default
returns-in_default c =
    no_second c.args.words.now _ _ c.requires.0 c.text_fits.ensures (not-false c.text_fits.result c.if-not-text_fits.false-raw) _ c.requires.2 c.term.ensures c.in_default.is

pub returns : goal.returns
returns c =
    wrote-text c.args.words.now _ _ c.requires.0 c.text_fits.ensures (not-false c.text_fits.result c.if-not-text_fits.false-raw) _ c.requires.2 c.term.ensures _ c.in-Some.is
