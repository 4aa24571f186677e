use Rattle.std.proofs.Common.{arith, ◌∙◌}
use Rattle.lexer.specs.NumberLaws.{dot-within, no-dot, other_byte, dot-taken}
use Rattle.lexer.proofs.number.unsigned_of.Goals as goal

pub returns-then-dot-word : goal.returns-then-dot-word
returns-then-dot-word c =
    no-dot c.args.word.now c.digits_after-whole.result c.digits_after-whole.ensures c.args.negative _ c.if-dot-word.true c.signed.ensures

pub bounds-word-dot : goal.bounds-word-dot
bounds-word-dot c = dot-within _ _ c.digits_after-whole.ensures c.if-dot-word.false

pub returns-then-word-dot-ne46 : goal.returns-then-word-dot-ne46
returns-then-word-dot-ne46 c =
    let within = dot-within _ _ c.digits_after-whole.ensures c.if-dot-word.false in
    other_byte c.args.word.now c.digits_after-whole.result c.digits_after-whole.ensures within c.args.negative c.if-word-dot-ne46.true

pub returns : goal.returns
returns c =
    let within = dot-within _ _ c.digits_after-whole.ensures c.if-dot-word.false in
    c.decimal_of.ensures ∙ dot-taken c.args.word.now c.digits_after-whole.result c.digits_after-whole.ensures within c.args.negative c.if-word-dot-ne46.false
