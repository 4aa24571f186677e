-- What a token means by itself: a parenthesis, a constant, a name, or ground 3 or 4. The interface is Meaning and meaning_of.
use Rattle.std.specs.Prelude.{Bool, true, false, not, ◌&&◌, cond, List, [], ◌∷◌, ◌++◌, ℕ, zero, suc, ◌+◌, ◌*◌, ◌-◌, eqb, leb, pos, neg_ℤ, length, get_or, take, drop}
use Rattle.std.specs.Int.{w32}
use Rattle.std.proofs.Common.{of_z}
use Rattle.words.specs.Limits.{name_length_most, places_most}
use Rattle.words.specs.Lists.{within, all_of, equal}
use Rattle.datum.specs.Constant.{Constant, integer, boolean, decimal}
use Rattle.reading.specs.Token.{Token, open', close', bad, flag, run, is_digit}
use Rattle.reading.specs.Offset.{leading}

-- a list begins or ends, a constant, a name, or the ground on which the token is refused
pub data Meaning : Type 0 where
  begins ends : Meaning
  constant : Constant → Meaning
  name : List ℕ → Meaning
  refused : (ground_number : ℕ) → Meaning

-- ---- numbers

-- a run that starts with a minus, which is 45
unfoldable pub is_negative : List ℕ → Bool
is_negative cs = eqb (get_or cs 0 0) 45

-- a run without its minus
unfoldable pub unsigned : List ℕ → List ℕ
unsigned cs = cond (is_negative cs) (drop 1 cs) cs

-- a run that starts with a digit, or with a minus and a digit
unfoldable pub is_numeral : List ℕ → Bool
is_numeral cs = is_digit (get_or (unsigned cs) 0 0)

-- of a run without its minus: the digits that it begins with, and what stands behind them
unfoldable pub whole : List ℕ → List ℕ
whole cs = take (leading is_digit cs) cs

unfoldable pub fraction : List ℕ → List ℕ
fraction cs = drop (leading is_digit cs) cs

-- a decimal's places are one to four digits
unfoldable pub are_places : List ℕ → Bool
are_places cs = within 1 places_most (length cs) && all_of is_digit cs

-- behind a number's digits stands nothing, or a dot, which is 46, and places
unfoldable pub is_fraction : List ℕ → Bool
is_fraction [] = true
is_fraction (c ∷ cs) = eqb c 46 && are_places cs

-- what stands behind the dot
unfoldable pub places : List ℕ → List ℕ
places cs = drop 1 (fraction cs)

-- the number that digits after n spell
unfoldable pub value_from : ℕ → List ℕ → ℕ
value_from n [] = n
value_from n (c ∷ cs) = value_from (10 * n + (c - 48)) cs

-- the number without its sign and its dot
unfoldable pub size : List ℕ → ℕ
size cs = value_from 0 (whole cs ++ places cs)

-- a number by its value without the dot and its places, of which an integer has none
unfoldable pub number : (w places : ℕ) → Constant
number w zero = integer w
number w (suc p) = decimal w (suc p)

-- without the dot from -2147483648 to 2147483647, as a two's complement word
unfoldable pub signed : (negative : Bool) → (size places : ℕ) → Meaning
signed true n p = cond (leb n 2147483648) (constant (number (of_z w32 (neg_ℤ (pos n))) p)) (refused 4)
signed false n p = cond (leb n 2147483647) (constant (number (of_z w32 (pos n)) p)) (refused 4)

-- past an optional minus: digits, for a decimal also a dot and its places, within the range
unfoldable pub numeral_of : (negative : Bool) → List ℕ → Meaning
numeral_of negative cs = cond (is_fraction (fraction cs)) (signed negative (size cs) (length (places cs))) (refused 3)

-- ---- names

-- 1 to 63 bytes, and not a single dot, which is 46
unfoldable pub is_name : List ℕ → Bool
is_name cs = within 1 name_length_most (length cs) && not (equal cs (46 ∷ []))

-- other runs are names, or ground 3
unfoldable pub name_of : List ℕ → Meaning
name_of cs = cond (is_name cs) (name cs) (refused 3)

-- ---- tokens

-- each token by itself
unfoldable pub meaning_of : Token → Meaning
unfolding is_negative unsigned is_numeral leading whole fraction are_places is_fraction places value_from size number signed numeral_of is_name name_of is_digit within all_of equal integer boolean decimal
meaning_of open' = begins
meaning_of close' = ends
meaning_of bad = refused 3
meaning_of (flag b) = constant (boolean b)
meaning_of (run cs) = cond (is_numeral cs) (numeral_of (is_negative cs) (unsigned cs)) (name_of cs)
