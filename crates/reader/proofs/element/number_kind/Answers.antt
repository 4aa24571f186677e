use Rattle.reader.specs.Code.MovedLaws.{some-places, no-places}
use Rattle.reader.proofs.element.number_kind.Goals as goal

pub returns-then-places-eq0 : goal.returns-then-places-eq0
returns-then-places-eq0 c = no-places c.args.places c.if-places-eq0.true

pub returns-else-places-eq0 : goal.returns-else-places-eq0
returns-else-places-eq0 c = some-places c.args.places c.if-places-eq0.false
