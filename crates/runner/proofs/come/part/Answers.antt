-- The frame waits for the part that begins.
use Rattle.runner.specs.ComeLaws.{parting-begins}
use Rattle.runner.proofs.come.part.Goals as goal

pub returns : goal.returns
returns c = λ budget whole x. rw c.put_frame.ensures (parting-begins c.args.s c.args.f x _ (c.after.ensures x.first x.parts.one))
