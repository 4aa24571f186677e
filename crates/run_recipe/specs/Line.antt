-- What is printed for the runner's answer, as it is laid; any output fits.
use Rattle.std.specs.Prelude.{◌≡◌, refl, true, false, Option, Some, None, IsSome, Result as Answer, Ok, Err, List, [], ◌∷◌, ◌++◌, ℕ, ◌≤◌, ◌<◌, ℤ, length}
use Rattle.std.proofs.Common.{ap, ◌∙◌, arith, lt-ltb, to_z}
use Rattle.std.specs.Int.Signed.{mag}
use Rattle.std.specs.Int.{w32}
use Rattle.std.proofs.Math.Facts.{sfits_to_z}
use Rattle.words.specs.Text.{bytes}
use Rattle.core_term.specs.Decimal.{integer_text}
use Rattle.core_term.specs.Text.{spaced_after, spaced}
use Rattle.output.specs.Output.{line}
use Rattle.evaluation.specs.Numbers.{in_range}
use Rattle.evaluation.specs.Run.{Result, number, boolean, datum, closure, operation}
use Rattle.run_output.specs.Output.{refusal, boolean_text, value_line, acceptance}
use Rattle.run_output.specs.Laid.{output_most, counted}
use Rattle.run_output.proofs.LaidLaws.{number-laid, datum-laid, acceptance-laid}
use Rattle.run_output.proofs.LaidLaws as LaidLaws
use Rattle.writer.specs.Laid.{Left}
use Rattle.writer.specs.LaidLaws.{laid-first, done-is, full_is, left-done}
use Rattle.words.specs.declared.ground.Ground.{Ground}
use Rattle.words.specs.Code.Ground.{number_of}
use Rattle.runner.specs.declared.Value.{Value}
use Rattle.runner.specs.declared.Value.TheVariants as V
use Rattle.runner.specs.declared.Outcome.{Outcome}
use Rattle.program_laws.specs.Printed.{Printed}

-- what is printed for an answer
unfoldable pub value_of : Value → ℕ → List ℕ
value_of (V.Integer w) u = acceptance (number (to_z w32 w)) u
value_of (V.Boolean b) u = acceptance (boolean b) u
value_of (V.Datum at) u = acceptance (datum at) u
value_of V.Closure u = acceptance closure u
value_of V.Operation u = acceptance operation u

unfoldable pub line_of : Answer Outcome Ground → List ℕ
line_of (Ok o) = value_of o.value o.units
line_of (Err g) = refusal (number_of g)

-- ---- as it is laid

-- an output at the beginning, of which no more are printed than there is room for
pub record Laid (x d e : List ℕ) (r : Option ℕ) : Type 0 where
  pub left : Left true x 0 d e r
  pub room : length x ≤ output_most

-- accepted and the units
abbrev pub header : ℕ → List ℕ
header units = counted (97 ∷ 99 ∷ 99 ∷ 101 ∷ 112 ∷ 116 ∷ 101 ∷ 100 ∷ []) units

value-laid : (r : Result ℤ) (units : ℕ) → header units ++ value_line r ≡ acceptance r units
unfolding bytes
value-laid r units = acceptance-laid r units

pub integer-laid : (w units : ℕ) → header units ++ (integer_text w ++ (10 ∷ [])) ≡ acceptance (number (to_z w32 w)) units
integer-laid w units = ap (λ (x : List ℕ). header units ++ x) (number-laid w) ∙ value-laid (number (to_z w32 w)) units

pub true-laid : (units : ℕ) → header units ++ (35 ∷ 116 ∷ 10 ∷ []) ≡ acceptance (boolean true) units
unfolding value_line boolean_text line spaced spaced_after bytes
true-laid units = value-laid (boolean true) units

pub false-laid : (units : ℕ) → header units ++ (35 ∷ 102 ∷ 10 ∷ []) ≡ acceptance (boolean false) units
unfolding value_line boolean_text line spaced spaced_after bytes
false-laid units = value-laid (boolean false) units

pub place-laid : (at units : ℕ) → header units ++ counted (100 ∷ 97 ∷ 116 ∷ 117 ∷ 109 ∷ []) at ≡ acceptance (datum at) units
unfolding bytes
place-laid at units = ap (λ (x : List ℕ). header units ++ x) (datum-laid at) ∙ value-laid (datum at) units

pub closure-laid : (units : ℕ) → header units ++ (99 ∷ 108 ∷ 111 ∷ 115 ∷ 117 ∷ 114 ∷ 101 ∷ 10 ∷ []) ≡ acceptance closure units
unfolding value_line line spaced spaced_after bytes
closure-laid units = value-laid closure units

pub operation-laid : (units : ℕ) → header units ++ (111 ∷ 112 ∷ 101 ∷ 114 ∷ 97 ∷ 116 ∷ 105 ∷ 111 ∷ 110 ∷ 10 ∷ []) ≡ acceptance operation units
unfolding value_line line spaced spaced_after bytes
operation-laid units = value-laid operation units

pub refusal-laid : (ground_number : ℕ) → counted (114 ∷ 101 ∷ 102 ∷ 117 ∷ 115 ∷ 101 ∷ 100 ∷ []) ground_number ≡ refusal ground_number
unfolding bytes
refusal-laid ground_number = LaidLaws.refusal-laid ground_number

-- ---- room

-- a word is an integer of 32 bits
pub word_fits : (w : ℕ) → w < 4294967296 → in_range (to_z w32 w) ≡ true
unfolding in_range
word_fits w h = lt-ltb (mag (to_z w32 w)) 2147483648 (sfits_to_z {w = w32} {n = w} (record { fits = h })).sfits

-- an output that is laid where any has room is printed
module _ {x d e : List ℕ} {r : Option ℕ} (l : Laid x d e r) where
  pub laid-some : output_most ≤ length d → IsSome r
  laid-some h = go r l.left
    where
      go : (s : Option ℕ) → Left true x 0 d e s → IsSome s
      go (Some n) k = refl
      go None k = let f = full_is k in absurd (omega (arith, f.0, l.room))

  pub laid-printed : (n : ℕ) → r ≡ Some n → Printed x d e n
  laid-printed n h = let k = done-is (left-done l.left n h) in record { size = omega (arith, k.0); bytes = k.2 ∙ laid-first x d }
