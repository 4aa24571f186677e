-- The line that is printed, as it is laid; any line fits.
use Rattle.std.specs.Prelude.{◌≡◌, refl, Bool, true, false, List, [], ◌∷◌, ◌++◌, ℕ, ◌≤◌, ◌<◌, length, Option, Some, None, Result, Ok, Err}
use Rattle.std.proofs.Common.{ap, subst, ◌∙◌, append_assoc, arith, length-append}
use Rattle.words.specs.Text.{bytes}
use Rattle.words.specs.declared.ground.Ground.{Ground}
use Rattle.words.specs.declared.ground.Ground.TheVariants as G
use Rattle.words.specs.Code.Ground.{number_of}
use Rattle.core_term.specs.Decimal.{decimal}
use Rattle.core_term.specs.Text.{spaced_after, spaced}
use Rattle.core_term.specs.TextRoom.{limit}
use Rattle.core_term.proofs.TextRoomLaws.{number-room}
use Rattle.comparison.specs.Compare.{yes, no, refused_on}
use Rattle.output.specs.Output.{line}
use Rattle.comparison_output.specs.Output.{refused_line, recipe_refused, verdict_line}
use Rattle.writer.specs.Laid.{Left}
use Rattle.writer.specs.LaidLaws.{laid-first, done-is, full_is, left-done}
use Rattle.program_laws.specs.Printed.{Printed}
use Rattle.compare_expansions.specs.declared.line.Fault.{Fault}
use Rattle.compare_expansions.specs.declared.line.Fault.TheVariants.{Recipe, Text}

-- bytes that hold any line: refused, a number of ten digits and recipe, each behind a space, and LF
abbrev pub line_most : ℕ
line_most = 26

-- refused, the ground, and what stands behind it
abbrev pub refusal : (ground_number : ℕ) (behind : List ℕ) → List ℕ
refusal ground_number behind = (114 ∷ 101 ∷ 102 ∷ 117 ∷ 115 ∷ 101 ∷ 100 ∷ []) ++ ((32 ∷ decimal ground_number) ++ behind)

-- what is printed for an answer
unfoldable pub line_of : Result Bool Fault → List ℕ
line_of (Ok true) = verdict_line yes
line_of (Ok false) = verdict_line no
line_of (Err (Recipe g)) = recipe_refused (number_of g)
line_of (Err (Text g)) = verdict_line (refused_on (number_of g))

pub yes-laid : 121 ∷ 101 ∷ 115 ∷ 10 ∷ [] ≡ verdict_line yes
unfolding verdict_line line spaced spaced_after bytes
yes-laid = refl

pub no-laid : 110 ∷ 111 ∷ 10 ∷ [] ≡ verdict_line no
unfolding verdict_line line spaced spaced_after bytes
no-laid = refl

pub text-laid : (ground_number : ℕ) → refusal ground_number (32 ∷ 116 ∷ 101 ∷ 120 ∷ 116 ∷ 10 ∷ []) ≡ verdict_line (refused_on ground_number)
unfolding verdict_line refused_line line spaced spaced_after bytes
text-laid ground_number = simp append_assoc

pub recipe-laid : (ground_number : ℕ) → refusal ground_number (32 ∷ 114 ∷ 101 ∷ 99 ∷ 105 ∷ 112 ∷ 101 ∷ 10 ∷ []) ≡ recipe_refused ground_number
unfolding recipe_refused refused_line line spaced spaced_after bytes
recipe-laid ground_number = simp append_assoc

-- the line of an answer that is known

pub yes-line : (a : Result Bool Fault) (b : Bool) → a ≡ Ok b → b ≡ true → 121 ∷ 101 ∷ 115 ∷ 10 ∷ [] ≡ line_of a
unfolding line_of
yes-line a b e f = rw (e, f) yes-laid

pub no-line : (a : Result Bool Fault) (b : Bool) → a ≡ Ok b → b ≡ false → 110 ∷ 111 ∷ 10 ∷ [] ≡ line_of a
unfolding line_of
no-line a b e f = rw (e, f) no-laid

pub recipe-line : (a : Result Bool Fault) (x : Fault) (g : Ground) → a ≡ Err x → x ≡ Recipe g → refusal (number_of g) (32 ∷ 114 ∷ 101 ∷ 99 ∷ 105 ∷ 112 ∷ 101 ∷ 10 ∷ []) ≡ line_of a
unfolding line_of
recipe-line a x g e f = rw (e, f) (recipe-laid (number_of g))

pub text-line : (a : Result Bool Fault) (x : Fault) (g : Ground) → a ≡ Err x → x ≡ Text g → refusal (number_of g) (32 ∷ 116 ∷ 101 ∷ 120 ∷ 116 ∷ 10 ∷ []) ≡ line_of a
unfolding line_of
text-line a x g e f = rw (e, f) (text-laid (number_of g))

-- the room of a refusal
pub refusal-room : (ground_number : ℕ) (behind : List ℕ) → ground_number < limit → length behind ≤ 8 → length (refusal ground_number behind) ≤ line_most
refusal-room ground_number behind h k = omega (arith, length-append (32 ∷ decimal ground_number) behind, number-room ground_number h)

number-few : (g : Ground) → number_of g ≤ 27
number-few G.ShortTables = omega arith
number-few G.LongText = omega arith
number-few G.BadToken = omega arith
number-few G.NumberOutOfRange = omega arith
number-few G.Unbalanced = omega arith
number-few G.TooMany = omega arith
number-few G.BadLayout = omega arith
number-few G.TooMuchFuel = omega arith
number-few G.SmallTables = omega arith
number-few G.BadOperations = omega arith
number-few G.Unbound = omega arith
number-few G.BareForm = omega arith
number-few G.BadForm = omega arith
number-few G.DoubleName = omega arith
number-few G.BadRules = omega arith
number-few G.NoRule = omega arith
number-few G.UnequalLists = omega arith
number-few G.OutOfFuel = omega arith
number-few G.NoTerm = omega arith
number-few G.NoRoom = omega arith
number-few G.OutsideGrammar = omega arith
number-few G.OpenName = omega arith
number-few G.WrongKind = omega arith
number-few G.WrongCount = omega arith
number-few G.OutOfBudget = omega arith

-- the room of any line
line-room : (a : Result Bool Fault) → length (line_of a) ≤ line_most
unfolding line_of
line-room (Ok true) = omega (arith, ap length yes-laid)
line-room (Ok false) = omega (arith, ap length no-laid)
line-room (Err (Recipe g)) = omega (arith, ap length (recipe-laid (number_of g)), refusal-room (number_of g) (32 ∷ 114 ∷ 101 ∷ 99 ∷ 105 ∷ 112 ∷ 101 ∷ 10 ∷ []) (omega (arith, number-few g)) (omega arith))
line-room (Err (Text g)) = omega (arith, ap length (text-laid (number_of g)), refusal-room (number_of g) (32 ∷ 116 ∷ 101 ∷ 120 ∷ 116 ∷ 10 ∷ []) (omega (arith, number-few g)) (omega arith))

-- a line, laid where any line has room
module _ (a : Result Bool Fault) (d e : List ℕ) (r : Option ℕ) (room : line_most ≤ length d) (l : Left true (line_of a) 0 d e r) where
  pub line-printed : (to : ℕ) → r ≡ Some to → Printed (line_of a) d e to
  line-printed to h = let k = done-is (left-done l to h) in record { size = omega (arith, k.0); bytes = k.2 ∙ laid-first (line_of a) d }

  pub line-fits : r ≡ None → ⊥
  line-fits h = let k = full_is (subst (Left true (line_of a) 0 d e) h l) in omega (arith, k.0, line-room a)
