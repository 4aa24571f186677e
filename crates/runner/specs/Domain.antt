-- The numbers that the machine computes with: integers (request L11), each in one word.
use Rattle.std.specs.Prelude.{ℕ, ℤ}
use Rattle.std.specs.Int.{w32}
use Rattle.std.proofs.Common.{to_z}
use Rattle.evaluation.specs.Numbers.{Numbers, integers}

abbrev pub Number : Type 0
Number = ℤ

abbrev pub numbers : Numbers Number
numbers = integers

-- the number that the two words of a value are
abbrev pub number_in : (a b : ℕ) → Number
number_in a b = to_z w32 a
