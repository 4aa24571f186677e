-- Writing, as document 01 has it: the ground, the length and the output of every call.
use Rattle.std.specs.Prelude.{ℕ, cond, List, [], ◌++◌, length, drop, nat_le}
use Rattle.std.proofs.Math.Option.{Option, none, some}
use Rattle.words.specs.Tables.{Stage, testing, left_at}
use Rattle.datum.specs.NameTable.{name_at, has_name}
use Rattle.core_term.specs.Term.{Plain}
use Rattle.core_term.specs.Check.{term_of}
use Rattle.core_term.specs.Text.{text}
use Rattle.std.specs.Prelude.{Result, Ok, Err}
use Rattle.words.specs.declared.ground.Ground.{Ground}
use Rattle.words.specs.Code.Ground.{number_of}

-- ---- the answer's numbers

-- 0 where it is accepted
unfoldable pub ground_of : Result ℕ Ground → ℕ
ground_of (Ok n) = 0
ground_of (Err g) = number_of g

unfoldable pub length_of : Result ℕ Ground → ℕ
length_of (Ok n) = n
length_of (Err g) = 0

-- ---- the definition

unfoldable pub text_for : List ℕ → Option Plain → Option (List ℕ)
text_for names none = none
text_for names (some t) = some (text (name_at names) t)

-- the text of the words' term; none is ground 19
unfoldable pub text_of : List ℕ → ℕ → List ℕ → Option (List ℕ)
text_of ws operations names = text_for names (term_of operations (has_name names) ws)

-- a text that is laid, or the stage and the ground at which a call is refused
pub data Outcome : Type 0 where
  laid : (text : List ℕ) → Outcome
  refused_on : (stage : Stage) (ground_number : ℕ) → Outcome

-- 19, then 20: both are tests, made before a byte is laid
unfoldable pub outcome : (out : List ℕ) → Option (List ℕ) → Outcome
outcome out none = refused_on testing 19
outcome out (some x) = cond (nat_le (length x) (length out)) (laid x) (refused_on testing 20)

unfoldable pub ground_number : Outcome → ℕ
ground_number (laid x) = 0
ground_number (refused_on stage g) = g

unfoldable pub size : Outcome → ℕ
size (laid x) = length x
size (refused_on stage g) = 0

-- the text, then the output as it was lent
unfoldable pub after : Outcome → List ℕ → List ℕ
unfolding left_at
after (laid x) out = x ++ drop (length x) out
after (refused_on stage g) out = left_at stage [] out
