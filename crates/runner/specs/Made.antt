-- What an operation on two numbers answers.
use Rattle.std.specs.Prelude.{◌≡◌, List, ℕ, Result, Ok, Err}
use Rattle.std.proofs.Common.{subst}
use Rattle.evaluation.specs.Computation.{Answer, answer, ground_number}
use Rattle.evaluation.specs.Evaluate.{Value}
use Rattle.runner.specs.Domain.{Number}
use Rattle.runner.specs.Rows.{ValueIs}
use Rattle.runner.specs.declared.rows.Value as R
use Rattle.words.specs.declared.ground.Ground.{Ground}
use Rattle.words.specs.Code.Ground.{number_of}

-- the value's words, whatever the table; or the ground
abbrev pub MadeIs : Answer (Value Number) → Result R.Value Ground → Type 0
MadeIs (answer v) (Ok x) = (ws t : List ℕ) (top : ℕ) → ValueIs ws t top x v
MadeIs (answer v) (Err g) = ⊥
MadeIs (ground_number h) (Ok x) = ⊥
MadeIs (ground_number h) (Err g) = number_of g ≡ h

-- the same answer
pub made_by : {o o' : Answer (Value Number)} (r : Result R.Value Ground) → o ≡ o' → MadeIs o r → MadeIs o' r
made_by r e m = subst (λ (o : Answer (Value Number)). MadeIs o r) e m
