use Rattle.reader.specs.Code.StepLaws.{close-refused, close-went}
use Rattle.reader.proofs.place.close_list.Goals as goal

pub returns-then-place-eq0 : goal.returns-then-place-eq0
returns-then-place-eq0 c = λ r bytes h. close-refused r c.args.place c.args.items.now bytes h _ c.if-place-eq0.true

pub returns : goal.returns
returns c = λ r bytes h. close-went r c.args.place c.args.items.now bytes h c.if-place-eq0.false
