-- `quotes::put_constant`: two words, or a decimal's three.
use Rattle.forms.specs.QuoteLaws.{decimal-room, other-room, written-decimal, written-other}
use Rattle.forms.proofs.quotes.put_constant.Goals as goal

pub put-requires : goal.put-requires
put-requires c =
    let a = c.args in
    other-room a.core.now a.at a.kind a.first a.second c.requires.0 c.if-kind-ne-DECIMAL.true

pub returns-then-kind-ne-DECIMAL : goal.returns-then-kind-ne-DECIMAL
returns-then-kind-ne-DECIMAL c =
    let a = c.args in
    written-other a.core.now a.at a.kind a.first a.second c.requires.0 c.if-kind-ne-DECIMAL.true _ _ c.put.ensures

pub put-requires-2 : goal.put-requires-2
put-requires-2 c =
    let a = c.args in
    decimal-room a.core.now a.at a.kind a.first a.second c.requires.0 c.if-kind-ne-DECIMAL.false

pub returns : goal.returns
returns c =
    let a = c.args in
    written-decimal a.core.now a.at a.kind a.first a.second c.requires.0 c.if-kind-ne-DECIMAL.false _ _ c.put-2.ensures
