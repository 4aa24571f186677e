use Rattle.writer.specs.LaidLaws.{left_is}
use Rattle.writer.specs.PointLaws.{pointed-cut}
use Rattle.writer.proofs.numbers.point.Goals as goal

pub returns : goal.returns
returns c =
    left_is (pointed-cut c.args.n _ c.args.count c.requires.2 c.places_least-k.ensures.0 c.places_least-k.ensures.2 c.places_least-k.ensures.3 _ _ c.lay.ensures) c.dotted.ensures
