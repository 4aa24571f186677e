use Rattle.std.proofs.Common.{arith, refl}
use Rattle.reading.specs.Meaning.{refused}
use Rattle.words.specs.ListLaws.{length_part}
use Rattle.lexer.specs.ToldLaws.{byte-stands, foreign-taken, run_none, run-stands}
use Rattle.lexer.proofs.token.run_at.Goals as goal

pub returns-then-to-at : goal.returns-then-to-at
returns-then-to-at c =
    let text = c.args.text.now in
    let at = c.args.at in
    let pre = c.requires in
    let none = run_none text at c.run_end-to.result c.run_end-to.ensures pre.in_text c.if-to-at.true in
    (refl, byte-stands text at pre.in_text (refused 3) (foreign-taken text at pre.in_text none pre.no_separator pre.alone.0 pre.alone.1 pre.alone.2))

pub run_token-requires : goal.run_token-requires
run_token-requires c =
    omega (arith, length_part c.args.at c.run_end-to.result c.args.text.now c.run_end-to.ensures.low c.run_end-to.ensures.high, c.run_end-to.ensures.low, c.if-to-at.false)

pub returns : goal.returns
returns c =
    (refl, run-stands c.args.text.now c.args.at c.run_end-to.result c.run_end-to.ensures (omega (arith, c.run_end-to.ensures.low, c.if-to-at.false)) _ c.run_token.ensures)
