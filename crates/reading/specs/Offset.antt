-- Tokens by their offsets: where the first token from an offset on stands, which it is, and where the next one is looked for.
-- That these, one after another, are the tokens of the text stands in Laws.Offsets.
use Rattle.std.specs.Prelude.{Bool, cond, List, [], ◌∷◌, ℕ, zero, suc, ◌+◌, length, get_or, take, drop}
use Rattle.std.proofs.Math.Option.{Option, none, some}
use Rattle.reading.specs.Token.{Class, separating, opening, closing, sharp, running, foreign, is_running, is_separating, class_of, Token, open', close', bad, run, flag_of}

-- how many bytes from the left pass a test
unfoldable pub leading : (ℕ → Bool) → List ℕ → ℕ
leading f [] = 0
leading f (b ∷ bs) = cond (f b) (suc (leading f bs)) 0

-- ---- the token that bytes begin with

-- byte b of a class, and the bytes behind it; what is in no token is bad by itself
unfoldable pub token_of : Class → ℕ → List ℕ → Token
token_of separating b bs = bad
token_of opening b bs = open'
token_of closing b bs = close'
token_of sharp b bs = flag_of (get_or bs 0 0)
token_of running b bs = run (b ∷ take (leading is_running bs) bs)
token_of foreign b bs = bad

-- how many bytes it takes; a # takes the byte behind it, where there is one
unfoldable pub width_of : Class → List ℕ → ℕ
width_of separating bs = 1
width_of opening bs = 1
width_of closing bs = 1
width_of sharp bs = suc (length (take 1 bs))
width_of running bs = suc (leading is_running bs)
width_of foreign bs = 1

-- none at the end of the text
unfoldable pub first_of : List ℕ → Option Token
first_of [] = none
first_of (b ∷ bs) = some (token_of (class_of b) b bs)

unfoldable pub first_width : List ℕ → ℕ
first_width [] = 0
first_width (b ∷ bs) = width_of (class_of b) bs

-- ---- offsets

-- where the first token from an offset on stands: past the separators
unfoldable pub start_at : List ℕ → ℕ → ℕ
start_at text at = at + leading is_separating (drop at text)

-- that token
unfoldable pub token_at : List ℕ → ℕ → Option Token
token_at text at = first_of (drop (start_at text at) text)

-- the offset past it
unfoldable pub next_at : List ℕ → ℕ → ℕ
next_at text at = start_at text at + first_width (drop (start_at text at) text)

-- ---- one after another

-- a token, where there is one, before others
unfoldable pub before : Option Token → List Token → List Token
before none ts = []
before (some t) ts = t ∷ ts

-- at most n tokens, one after another from an offset on
unfoldable pub taken : ℕ → List ℕ → ℕ → List Token
taken zero text at = []
taken (suc n) text at = before (token_at text at) (taken n text (next_at text at))
