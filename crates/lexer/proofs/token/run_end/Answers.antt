use Rattle.std.proofs.Common.{◌≡◌, true, false, length, get_or, arith, rules}
use Rattle.words.specs.Lists.{all_of}
use Rattle.words.specs.ListLaws.{part_none}
use Rattle.reading.specs.Token.{is_running}
use Rattle.lexer.specs.ToldLaws.{run_step, run-stops, end-stops}
use Rattle.lexer.proofs.token.run_end.Goals as goal

pub loop-at-init : goal.loop-at-init
unfolding all_of
loop-at-init c = (c.requires, rw (part_none c.args.from c.args.text.now))

pub returns-then-not-is_running : goal.returns-then-not-is_running
returns-then-not-is_running c =
    let r : is_running (get_or c.args.text.now c.loop-at.at 0) ≡ false = search rules in
    record {
      low = omega (arith, c.loop-at.auto.at);
      high = c.loop-at.invariant.0;
      runs = c.loop-at.invariant.1;
      stops = run-stops c.args.text.now c.loop-at.at c.loop-at-test.true r;
    }

pub loop-at-preserved : goal.loop-at-preserved
loop-at-preserved c =
    let r : is_running (get_or c.args.text.now c.loop-at.at 0) ≡ true = search rules in
    (omega arith, run_step c.args.text.now c.loop-at.at c.loop-at-test.true c.args.from (omega (arith, c.loop-at.auto.at)) c.loop-at.invariant.1 r)

pub returns : goal.returns
returns c =
    let e : c.loop-at.at ≡ length c.args.text.now = omega (arith, c.loop-at-test.false, c.loop-at.invariant.0) in
    rw (← e)
    (record {
      low = omega (arith, c.loop-at.auto.at);
      high = c.loop-at.invariant.0;
      runs = c.loop-at.invariant.1;
      stops = end-stops c.args.text.now c.loop-at.at e;
    })
