use Rattle.std.proofs.Common.{ap, length, arith}
use Rattle.forms.specs.QuoteLaws.{written_as, quoted-empty, quoted-name, quoted-constant, constant-small, quoted-pair, quoted-list, walked_end, after-falls, first-low, first-quotable, walked-room, walked_more}
use Rattle.forms.proofs.quotes.+quote_quote_all.Goals as goal

pub quote-put-n-requires : goal.quote-put-n-requires
quote-put-n-requires t c =
    let a = c.args in
    omega (arith, c.requires.0, ap length (quoted-pair a.work.now a.node _ c.word-kind.ensures c.if-kind-eq-PAIR.true _ c.count-count.ensures))

pub quote-quote_all-requires : goal.quote-quote_all-requires
quote-quote_all-requires t c =
    let a = c.args in
    (omega (arith, c.decreases), (omega (arith, c.requires.0, ap length (quoted-pair a.work.now a.node _ c.word-kind.ensures c.if-kind-eq-PAIR.true _ c.count-count.ensures), c.put-n.ensures.end, c.put-n.auto.core), c.requires.1))

pub quote-returns-then-kind-eq-PAIR : goal.quote-returns-then-kind-eq-PAIR
quote-returns-then-kind-eq-PAIR t c =
    let a = c.args in
    quoted-list a.work.now a.node _ c.word-kind.ensures c.if-kind-eq-PAIR.true _ c.count-count.ensures a.core.now _ _ a.at _ _ c.requires.0 c.put-n.ensures c.quote_all.ensures

pub quote-put-requires : goal.quote-put-requires
quote-put-requires t c =
    let a = c.args in
    omega (arith, c.requires.0, ap length (quoted-name a.work.now a.node _ c.word-kind.ensures c.if-kind-eq-NAME.true _ c.number_of-number.ensures))

pub quote-returns-then-kind-eq-NAME : goal.quote-returns-then-kind-eq-NAME
quote-returns-then-kind-eq-NAME t c =
    let a = c.args in
    written_as _ _ a.core.now _ a.at _ (quoted-name a.work.now a.node _ c.word-kind.ensures c.if-kind-eq-NAME.true _ c.number_of-number.ensures) c.put.ensures

pub quote-put-requires-then-kind-eq-EMPTY : goal.quote-put-requires-then-kind-eq-EMPTY
quote-put-requires-then-kind-eq-EMPTY t c =
    let a = c.args in
    omega (arith, c.requires.0, ap length (quoted-empty a.work.now a.node _ c.word-kind.ensures c.if-kind-eq-EMPTY.true))

pub quote-returns-then-kind-eq-EMPTY : goal.quote-returns-then-kind-eq-EMPTY
quote-returns-then-kind-eq-EMPTY t c =
    let a = c.args in
    written_as _ _ a.core.now _ a.at _ (quoted-empty a.work.now a.node _ c.word-kind.ensures c.if-kind-eq-EMPTY.true) c.put-then-kind-eq-EMPTY.ensures

pub quote-put_constant-requires : goal.quote-put_constant-requires
quote-put_constant-requires t c =
    let a = c.args in
    let w = c.word-kind.ensures in
    let x = c.if-kind-eq-EMPTY.false in
    let y = c.if-kind-eq-NAME.false in
    let z = c.if-kind-eq-PAIR.false in
    (omega (arith, c.requires.0, ap length (quoted-constant a.work.now a.node _ w x y z _ _ c.word-first.ensures c.word-second.ensures)), constant-small a.work.now a.node _ w x y z c.requires.1)

pub quote-returns : goal.quote-returns
quote-returns t c =
    let a = c.args in
    written_as _ _ a.core.now _ a.at _ (quoted-constant a.work.now a.node _ c.word-kind.ensures c.if-kind-eq-EMPTY.false c.if-kind-eq-NAME.false c.if-kind-eq-PAIR.false _ _ c.word-first.ensures c.word-second.ensures) c.put_constant.ensures

pub quote_all-quote-n-requires : goal.quote_all-quote-n-requires
quote_all-quote-n-requires t c =
    let a = c.args in (
      omega (arith, c.decreases, first-low a.work.now a.list a.at a.core.now _ _ _ c.loop-first.invariant _ c.word.ensures c.loop-first-test.true _ c.reference-first.ensures),
      (
        walked-room a.work.now a.list a.at a.core.now _ _ _ c.loop-first.invariant _ c.word.ensures c.loop-first-test.true _ c.reference-first.ensures c.requires.0,
        first-quotable a.work.now a.list a.at a.core.now _ _ _ c.loop-first.invariant _ c.word.ensures c.loop-first-test.true _ c.reference-first.ensures,
      ),
    )

pub quote_all-loop-first-smaller : goal.quote_all-loop-first-smaller
quote_all-loop-first-smaller t c =
    let a = c.args in
    after-falls a.work.now a.list a.at a.core.now _ _ _ c.loop-first.invariant _ c.word.ensures c.loop-first-test.true _ c.reference-first.ensures _ c.reference-rest.ensures

pub quote_all-loop-first-preserved : goal.quote_all-loop-first-preserved
quote_all-loop-first-preserved t c =
    let a = c.args in
    walked_more a.work.now a.list a.at a.core.now _ _ _ c.loop-first.invariant _ c.word.ensures c.loop-first-test.true _ c.reference-first.ensures c.requires.0 _ c.reference-rest.ensures _ _ c.quote-n.auto.core c.quote-n.ensures

pub quote_all-returns : goal.quote_all-returns
quote_all-returns t c =
    let a = c.args in
    walked_end a.work.now a.list a.at a.core.now _ _ _ c.loop-first.invariant _ c.word.ensures c.loop-first-test.false
