use Rattle.std.proofs.Common.{◌≡◌, true, false, length, get_or, ◌∙◌, arith, rules}
use Rattle.reading.specs.Token.{is_separating}
use Rattle.lexer.specs.ToldLaws.{separator-step, separator-start, token-start, end-start}
use Rattle.lexer.proofs.token.skip.Goals as goal

pub returns-then-not-is_separating : goal.returns-then-not-is_separating
returns-then-not-is_separating c =
    let r : is_separating (get_or c.args.text.now c.loop-at.at 0) ≡ false = search rules in
    record {
      low = omega (arith, c.loop-at.auto.at);
      high = c.loop-at.invariant.0;
      same = c.loop-at.invariant.1;
      start = c.loop-at.invariant.2 ∙ token-start c.args.text.now c.loop-at.at c.loop-at-test.true r;
      stops = λ h. r;
    }

pub loop-at-preserved : goal.loop-at-preserved
loop-at-preserved c =
    let r : is_separating (get_or c.args.text.now c.loop-at.at 0) ≡ true = search rules in (
      omega arith,
      c.loop-at.invariant.1 ∙ separator-step c.args.text.now c.loop-at.at c.loop-at-test.true r,
      c.loop-at.invariant.2 ∙ separator-start c.args.text.now c.loop-at.at c.loop-at-test.true r,
    )

pub returns : goal.returns
returns c =
    let e : c.loop-at.at ≡ length c.args.text.now = omega (arith, c.loop-at-test.false, c.loop-at.invariant.0) in
    rw (← e)
    (record {
      low = omega (arith, c.loop-at.auto.at);
      high = c.loop-at.invariant.0;
      same = c.loop-at.invariant.1;
      start = c.loop-at.invariant.2 ∙ end-start c.args.text.now c.loop-at.at e;
      stops = λ h. absurd (omega arith);
    })
