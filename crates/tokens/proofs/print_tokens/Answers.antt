-- A token is past its offset, and ends in the text.
use Rattle.std.proofs.Common.{arith}
use Rattle.lexer.specs.AnsweredLaws.{answered-told, answered-range}
use Rattle.tokens.proofs.print_tokens.Goals as goal

pub print_lexeme-requires : goal.print_lexeme-requires
print_lexeme-requires g c =
    let text = c.args.text.now in
    let told = answered-told text c.loop-lexeme.at _ c.token_from.ensures c.loop-lexeme.invariant _ c.in-Some.is in
    (omega (arith, answered-range text c.loop-lexeme.at _ c.token_from.ensures _ c.in-Some.is), told.1.high)

pub loop-lexeme-smaller : goal.loop-lexeme-smaller
loop-lexeme-smaller g c =
    let told = answered-told c.args.text.now c.loop-lexeme.at _ c.token_from.ensures c.loop-lexeme.invariant _ c.in-Some.is in
    omega (arith, told.1.low, told.1.high)

pub loop-lexeme-preserved : goal.loop-lexeme-preserved
loop-lexeme-preserved g c =
    (answered-told c.args.text.now c.loop-lexeme.at _ c.token_from.ensures c.loop-lexeme.invariant _ c.in-Some.is).1.high
