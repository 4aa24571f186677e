-- Numbers as text: integers in decimal, and decimals.
use Rattle.std.specs.Prelude.{List, [], ◌∷◌, ◌++◌, ℕ, zero, suc, ◌+◌, ◌*◌, ◌-◌, ◌/◌, ◌%◌, ◌^◌, ℤ, pos, negsuc}
use Rattle.std.specs.Int.{w32}
use Rattle.std.proofs.Common.{to_z}

-- no zeros lead
unfoldable pub leading : (ℕ → List ℕ) → ℕ → List ℕ
leading digits zero = []
leading digits (suc n) = digits (suc n)

-- the digits of n, where gas is above it
unfoldable pub digits_by : ℕ → ℕ → List ℕ
digits_by zero n = []
digits_by (suc gas) n = leading (digits_by gas) (n / 10) ++ ((48 + n % 10) ∷ [])

unfoldable pub decimal : ℕ → List ℕ
decimal n = digits_by (suc n) n

-- the number that digits show, after a number that earlier ones show
unfoldable pub value_after : ℕ → List ℕ → ℕ
value_after n [] = n
value_after n (c ∷ cs) = value_after (10 * n + (c - 48)) cs

unfoldable pub value : List ℕ → ℕ
value = value_after 0

-- k + 1 digits of a number below 10 to the k + 1, zeros that lead among them
unfoldable pub padded : ℕ → ℕ → List ℕ
padded zero n = (48 + n) ∷ []
padded (suc k) n = (48 + n / 10 ^ suc k) ∷ padded k (n % 10 ^ suc k)

-- the whole part, with no zero that leads but its own, a dot, and as many digits as places
unfoldable pub pointed : (places n : ℕ) → List ℕ
pointed places n = decimal (n / 10 ^ places) ++ (46 ∷ padded (places - 1) (n % 10 ^ places))

-- a size's text, with a minus below 0
unfoldable pub signed : (ℕ → List ℕ) → ℤ → List ℕ
signed text (pos n) = text n
signed text (negsuc n) = 45 ∷ text (suc n)

-- the integer with a word's two's complement bits
unfoldable pub integer_text : ℕ → List ℕ
integer_text w = signed decimal (to_z w32 w)

-- the decimal whose value without the dot has these bits
unfoldable pub decimal_text : (w places : ℕ) → List ℕ
decimal_text w places = signed (pointed places) (to_z w32 w)
