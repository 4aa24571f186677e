-- The output as a program lays it, piece by piece; and that any output fits.
use Rattle.std.specs.Prelude.{◌≡◌, true, List, [], ◌∷◌, ◌++◌, ℕ, ◌+◌, ◌≤◌, ◌<◌, ℤ}
use Rattle.core_term.specs.Decimal.{decimal}
use Rattle.evaluation.specs.Numbers.{in_range}
use Rattle.evaluation.specs.Run.{Result, number, boolean, datum, closure, operation}

-- bytes that hold any output: accepted and datum, each with a number of twenty digits behind a space, and two LF
abbrev pub output_most : ℕ
output_most = 57

-- ---- pieces

-- a word, a number behind a space, and LF
abbrev pub counted : (word : List ℕ) (n : ℕ) → List ℕ
counted word n = word ++ ((32 ∷ decimal n) ++ (10 ∷ []))

-- ---- room

-- what a result has room for: an integer of 32 bits, a place in 64
abbrev pub Fits : Result ℤ → Type 0
Fits (number z) = in_range z ≡ true
Fits (boolean b) = Unit {0}
Fits (datum at) = at < 18446744073709551616
Fits closure = Unit {0}
Fits operation = Unit {0}
