-- The output as a program lays it, piece by piece; and that any output fits.
use Rattle.std.specs.Prelude.{◌≡◌, refl, true, false, List, [], ◌∷◌, ◌++◌, ℕ, suc, ◌+◌, ◌≤◌, ◌<◌, ℤ, pos, negsuc, length}
use Rattle.std.proofs.Common.{sym, ap, append_assoc, arith, length-append, ltb-true, to_z}
use Rattle.std.specs.Int.{w32}
use Rattle.words.specs.Text.{bytes}
use Rattle.core_term.specs.Decimal.{decimal, signed, integer_text}
use Rattle.core_term.proofs.DecimalLaws.{decimal-count, decimal-word}
use Rattle.core_term.specs.Text.{spaced_after, spaced}
use Rattle.output.specs.Output.{line}
use Rattle.evaluation.specs.Numbers.{in_range}
use Rattle.evaluation.specs.Run.{Result, number, boolean, datum, closure, operation}
use Rattle.run_output.specs.Output.{refusal, boolean_text, value_line, acceptance}
use Rattle.run_output.specs.Laid.{Fits, counted, output_most}

-- ---- pieces

pub line-counted : (word : List ℕ) (n : ℕ) → counted word n ≡ line (word ∷ decimal n ∷ [])
unfolding line spaced spaced_after
line-counted word n = sym (append_assoc word (32 ∷ decimal n) (10 ∷ []))

-- a word and LF
pub line-one : (word : List ℕ) → word ++ (10 ∷ []) ≡ line (word ∷ [])
unfolding line spaced spaced_after
line-one word = refl

pub refusal-laid : (ground_number : ℕ) → counted (bytes "refused") ground_number ≡ refusal ground_number
unfolding refusal
refusal-laid ground_number = line-counted (bytes "refused") ground_number

-- an integer by its word
pub number-laid : (w : ℕ) → integer_text w ++ (10 ∷ []) ≡ value_line (number (to_z w32 w))
unfolding value_line integer_text
number-laid w = line-one (integer_text w)

pub datum-laid : (at : ℕ) → counted (bytes "datum") at ≡ value_line (datum at)
unfolding value_line
datum-laid at = line-counted (bytes "datum") at

pub acceptance-laid : (r : Result ℤ) (units : ℕ) → counted (bytes "accepted") units ++ value_line r ≡ acceptance r units
unfolding acceptance
acceptance-laid r units = ap (λ (x : List ℕ). x ++ value_line r) (line-counted (bytes "accepted") units)

-- ---- room

counted-room : (word : List ℕ) (n : ℕ) → n < 18446744073709551616 → length (line (word ∷ decimal n ∷ [])) ≤ length word + 22
unfolding line spaced spaced_after
counted-room word n h =
    omega (arith, decimal-count 19 n (omega arith), length-append (word ++ (32 ∷ decimal n)) (10 ∷ []), length-append word (32 ∷ decimal n))

signed-room : (z : ℤ) → in_range z ≡ true → length (signed decimal z) ≤ 11
unfolding signed in_range
signed-room (pos n) h = let l : n < 2147483648 = ltb-true n 2147483648 h in omega (arith, decimal-word n (omega arith))
signed-room (negsuc n) h = let l : n < 2147483648 = ltb-true n 2147483648 h in omega (arith, decimal-word (suc n) (omega arith))

value_room : (r : Result ℤ) → Fits r → length (value_line r) ≤ 27
unfolding value_line boolean_text line spaced spaced_after bytes
value_room (number z) h = omega (arith, signed-room z h, length-append (signed decimal z) (10 ∷ []))
value_room (boolean true) h = omega arith
value_room (boolean false) h = omega arith
value_room (datum at) h = counted-room (bytes "datum") at h
value_room closure h = omega arith
value_room operation h = omega arith

pub acceptance-room : (r : Result ℤ) (units : ℕ) → Fits r → units < 18446744073709551616 → length (acceptance r units) ≤ output_most
unfolding acceptance bytes
acceptance-room r units h k =
    omega (arith, value_room r h, counted-room (bytes "accepted") units k, length-append (line (bytes "accepted" ∷ decimal units ∷ [])) (value_line r))

pub refusal-room : (ground_number : ℕ) → ground_number < 18446744073709551616 → length (refusal ground_number) ≤ output_most
unfolding refusal bytes
refusal-room ground_number h = omega (arith, counted-room (bytes "refused") ground_number h)
