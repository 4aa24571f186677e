use Rattle.std.proofs.Common.{sym, refl, arith, length-set}
use borrow.Author.Tests.{not-true, not-false}
use Rattle.core_term.proofs.DecimalLaws.{decimal-one}
use Rattle.writer.specs.LaidLaws.{left_is}
use Rattle.writer.specs.DigitsLaws.{digits-full, digits-dry, digits-laid, most-first, most-laid}
use Rattle.writer.proofs.numbers.digits.Goals as goal

pub returns-then-n-lt10 : goal.returns-then-n-lt10
returns-then-n-lt10 c = left_is (sym (decimal-one _ c.if-n-lt10.true)) c.byte.ensures

pub returns-then-out-at : goal.returns-then-out-at
returns-then-out-at c =
    let k = c.places-k.ensures in
    digits-full _ _ c.if-n-lt10.false k.1 k.2 c.args.ink c.args.at c.args.out.now (omega arith)

pub returns-then-not-ink : goal.returns-then-not-ink
returns-then-not-ink c =
    let k = c.places-k.ensures in
    digits-dry _ _ c.if-n-lt10.false k.1 k.2 c.args.ink c.args.at c.args.out.now (omega arith) (not-true c.args.ink c.if-not-ink.true-raw)

pub overflow_sub-n : goal.overflow_sub-n
overflow_sub-n c = omega (arith, c.power.ensures, most-first c.args.n _ c.places-k.ensures.1 c.if-k-eq19.true)

pub lay-requires : goal.lay-requires
lay-requires c = (refl, omega arith, omega (arith, c.power.ensures), omega (arith, length-set c.args.out.now c.args.at 49))

pub returns-then-k-eq19 : goal.returns-then-k-eq19
returns-then-k-eq19 c =
    let k = c.places-k.ensures in
    digits-laid _ _ c.if-n-lt10.false k.1 k.2 c.args.ink c.args.at c.args.out.now (omega arith) _ (not-false c.args.ink c.if-not-ink.false-raw)
    (most-laid c.args.n _ _ c.args.at c.args.out.now _ k.1 (omega arith) c.if-k-eq19.true c.power.ensures (omega arith) c.lay.ensures)

pub returns : goal.returns
returns c =
    let k = c.places-k.ensures in
    digits-laid _ _ c.if-n-lt10.false k.1 k.2 c.args.ink c.args.at c.args.out.now (omega arith) _ (not-false c.args.ink c.if-not-ink.false-raw) c.lay-2.ensures
