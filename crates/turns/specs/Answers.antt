-- How an expression, and one turn of it, end in the code: as the numbers reached say, or refused.
use Rattle.std.specs.Prelude.{◌≡◌, ℕ, Result}
use Rattle.words.specs.Code.Ground.{number_of}
use Rattle.words.specs.declared.ground.Ground.{Ground}
use Rattle.turns.specs.declared.answers.Reached.{Reached}
use Rattle.turns.specs.declared.answers.Refused.{Refused}
use Rattle.turns.specs.declared.answers.Turn.{Turn}

-- the expansion of an expression or of operands
abbrev pub Ended : Type 0
Ended = Result Reached Refused

-- one turn
abbrev pub TurnEnd : Type 0
TurnEnd = Result Turn Refused

-- ground g with the counts so far
pub record Refuses (g : ℕ) (r : Reached) (x : Refused) : Type 0 where
  pub ground-is : number_of x.ground ≡ g
  pub steps-are : x.steps ≡ r.steps
  pub sum_is : x.sum ≡ r.sum

-- on this ground, before the first step
pub record Unbegun (g : Ground) (x : Refused) : Type 0 where
  pub ground-is : x.ground ≡ g
  pub steps-are : x.steps ≡ 0
  pub sum_is : x.sum ≡ 0
