-- Constants: integers and booleans (document 01), and decimals (request L1). All that depends on which kinds there are stands here.
use Rattle.std.specs.Prelude.{Bool, cond, ◌&&◌, List, [], ◌∷◌, ℕ, suc, eqb, ltb}
use Rattle.words.specs.Limits.{places_most}
use Rattle.words.specs.Lists.{within}

-- a constant has its item's three words: its kind; an integer's value, two's complement, a boolean's, 0 or 1, or a decimal's without
-- the dot, two's complement; and a decimal's places
pub record Constant : Type 0 where
  pub kind : ℕ
  pub first : ℕ
  pub second : ℕ

abbrev pub integer_kind : ℕ
integer_kind = 1

abbrev pub boolean_kind : ℕ
boolean_kind = 2

abbrev pub decimal_kind : ℕ
decimal_kind = 5

-- the three words are those of a constant (ground 7)
unfoldable pub is_constant : Constant → Bool
is_constant a =
    cond (eqb a.kind integer_kind) (eqb a.second 0)
    (cond (eqb a.kind boolean_kind) (ltb a.first 2 && eqb a.second 0)
    (eqb a.kind decimal_kind && within 1 places_most a.second))

-- a pattern's constant matches one of the same kind, value and places (request L13): integers and booleans have no places
unfoldable pub matches : Constant → Constant → Bool
matches a b = eqb a.kind b.kind && (eqb a.first b.first && eqb a.second b.second)

-- ---- words

-- its words in the core term: code 2 integer, code 3 boolean, code 9 decimal with its places (request L1)
unfoldable pub constant_words : Constant → List ℕ
constant_words a = cond (eqb a.kind decimal_kind) (9 ∷ a.first ∷ a.second ∷ []) (suc a.kind ∷ a.first ∷ [])

unfoldable pub integer : ℕ → Constant
integer w = record { kind = integer_kind; first = w; second = 0 }

unfoldable pub boolean : ℕ → Constant
boolean w = record { kind = boolean_kind; first = w; second = 0 }

unfoldable pub decimal : (w places : ℕ) → Constant
decimal w p = record { kind = decimal_kind; first = w; second = p }
