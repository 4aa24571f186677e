-- A value in its row.
use Rattle.runner.specs.BeginLaws.{pushed}
use Rattle.runner.proofs.state.push.Goals as goal

pub returns : goal.returns
returns c = λ ws budget whole g. rw c.put_value.ensures (pushed c.args.s c.args.v g)
