use Rattle.std.proofs.Common.{◌≡◌, true, false, length, get_or, sym, ◌∙◌, arith, rules}
use Rattle.reading.specs.Token.{is_digit}
use Rattle.reading.proofs.Laws.Offsets.{leading-more, leading-stops, leading-ends}
use Rattle.lexer.specs.NumberLaws.{value_none, value-more}
use Rattle.lexer.proofs.number.digits_after.Goals as goal

pub loop-i-init : goal.loop-i-init
loop-i-init c = (omega arith, value_none c.args.before c.requires)

pub returns-then-not-is_digit : goal.returns-then-not-is_digit
returns-then-not-is_digit c =
    let d : is_digit (get_or c.args.run.now c.loop-i.i 0) ≡ false = search rules in
    record { count = sym (leading-stops is_digit c.args.run.now c.loop-i.i c.loop-i-test.true d) ∙ c.loop-i.invariant.0; value = c.loop-i.invariant.1 }

pub loop-i-preserved : goal.loop-i-preserved
loop-i-preserved c =
    let args = c.args in
    let d : is_digit (get_or c.args.run.now c.loop-i.i 0) ≡ true = search rules in (
      sym (leading-more is_digit args.run.now c.loop-i.i c.loop-i-test.true d) ∙ c.loop-i.invariant.0,
      value-more args.before args.run.now c.loop-i.i c.loop-i.value _ c.loop-i-test.true c.loop-i.invariant.1 c.appended-value.ensures,
    )

pub returns : goal.returns
returns c =
    let args = c.args in
    let e : c.loop-i.i ≡ length args.run.now = omega (arith, c.loop-i-test.false, c.loop-i.auto.i-end) in
    rw (← e) (record { count = sym (leading-ends is_digit args.run.now c.loop-i.i e) ∙ c.loop-i.invariant.0; value = c.loop-i.invariant.1 })
