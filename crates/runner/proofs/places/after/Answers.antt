-- What the table keeps is true; else the words tell.
use Rattle.runner.proofs.places.after.Goals as goal

pub returns-then-end-ne0 : goal.returns-then-end-ne0
returns-then-end-ne0 c = c.requires.0.known c.args.at c.if-end-ne0.true
