-- One digit, fewer digits than places, or all of the digits.
use Rattle.std.proofs.Common.{arith}
use Rattle.writer.specs.PointLaws.{least-one, least-few, places-few}
use Rattle.writer.proofs.numbers.places_least.Goals as goal

pub returns-then-n-lt10 : goal.returns-then-n-lt10
returns-then-n-lt10 c = (omega arith, omega arith, least-one c.args.n c.args.least c.if-n-lt10.true, λ l. absurd (omega arith))

pub returns-then-k-least : goal.returns-then-k-least
returns-then-k-least c = (omega arith, omega arith, least-few c.args.n _ c.args.least c.if-k-least.true c.places-k.ensures.2, λ l. absurd (omega arith))

pub returns : goal.returns
returns c = (c.if-k-least.false, places-few c.args.n _ c.requires.1 c.places-k.ensures.1, c.places-k.ensures.2, λ l. c.places-k.ensures.1)
