use Rattle.lexer.specs.NumberLaws.{places-malformed, places-none, places-many, places-other, with-places}
use Rattle.lexer.proofs.number.decimal_of.Goals as goal

pub returns-then-places-eq0 : goal.returns-then-places-eq0
returns-then-places-eq0 c = let args = c.args in
    places-malformed args.negative args.whole args.places.now (places-none args.places.now c.if-places-eq0.true)

pub returns-then-places : goal.returns-then-places
returns-then-places c = let args = c.args in
    places-malformed args.negative args.whole args.places.now (places-many args.places.now c.if-places.true)

pub returns-then-digits-places : goal.returns-then-digits-places
returns-then-digits-places c = let args = c.args in
    places-malformed args.negative args.whole args.places.now
    (places-other args.places.now c.if-places-eq0.false c.if-places.false c.digits_after-digits.result.count c.digits_after-digits.ensures.count c.if-digits-places.true)

pub returns : goal.returns
returns c = let args = c.args in
    with-places args.places.now c.if-places-eq0.false c.if-places.false c.digits_after-digits.result.count c.digits_after-digits.ensures.count
    args.negative args.whole _ _ c.if-digits-places.false c.signed.ensures c.digits_after-digits.ensures.value
