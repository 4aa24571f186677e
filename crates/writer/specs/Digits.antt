-- Digits from a power of ten down, by subtracting; what they are is padded of core_term/specs/Decimal.antt.
use Rattle.std.specs.Prelude.{ℕ, ◌/◌, ◌%◌, List, [], ◌∷◌}

-- the powers of ten up to the tenth. POWERS of src/numbers.rt has the same numbers
abbrev pub tens : List ℕ
tens = 1 ∷ 10 ∷ 100 ∷ 1000 ∷ 10000 ∷ 100000 ∷ 1000000 ∷ 10000000 ∷ 100000000 ∷ 1000000000 ∷ 10000000000 ∷ []

-- how often p is in n, and what is left
abbrev pub quotient : ℕ → ℕ → ℕ
quotient n p = n / p

abbrev pub remainder : ℕ → ℕ → ℕ
remainder n p = n % p
