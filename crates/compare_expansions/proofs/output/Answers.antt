-- The tables have document 01's lengths.
use Rattle.std.proofs.Common.{rules}
use Rattle.compare_expansions.proofs.output.Goals as goal
use Rattle.compare_expansions.specs.PairLaws.{output-told}

pub returns : goal.returns
returns c =
    output-told _ _ _ _ _ _ _ _ _ _ _ _ c.compared-answer.ensures (search rules) (search rules) (search rules) (search rules) (search rules) (search rules) c.line.ensures
