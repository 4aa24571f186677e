-- Tokens, taken from the text one after another. The interface is Token and tokens; what a token means stands in Meaning.
use Rattle.std.specs.Prelude.{Bool, ◌||◌, cond, List, [], ◌∷◌, ◌++◌, ℕ, eqb}
use Rattle.words.specs.Lists.{within, any_of}
use Rattle.words.specs.Text.{bytes}

-- ---- bytes

-- a separator, ( or ) or #, a byte of a run, or none of these
pub data Class : Type 0 where
  separating opening closing sharp running foreign : Class

-- digits
unfoldable pub is_digit : ℕ → Bool
is_digit b = within 48 57 b

-- lower-case letters, digits and ! ? * < = > / + - . _
unfoldable pub is_running : ℕ → Bool
is_running b = within 97 122 b || (is_digit b || any_of (eqb b) (bytes "!?*<=>/+-._"))

-- space, tab, LF and CR
unfoldable pub is_separating : ℕ → Bool
is_separating b = any_of (eqb b) (bytes " \t\n\r")

-- a byte's class; 40 is (, 41 is ), 35 is #
unfoldable pub class_of : ℕ → Class
class_of b =
    cond (is_running b) running
    (cond (is_separating b) separating
    (cond (eqb b 40) opening
    (cond (eqb b 41) closing
    (cond (eqb b 35) sharp foreign))))

-- ---- tokens

-- ( or ), #t or #f by the boolean's word, a longest run, or what is no token
pub data Token : Type 0 where
  open' close' bad : Token
  flag : ℕ → Token
  run : List ℕ → Token

-- what has been taken of a token that is not complete: nothing, a #, or a run so far
pub data Pending : Type 0 where
  nothing hash : Pending
  among : List ℕ → Pending

-- #t and #f; 116 is t, 102 is f
unfoldable pub flag_of : ℕ → Token
flag_of b = cond (eqb b 116) (flag 1) (cond (eqb b 102) (flag 0) bad)

-- the token that a byte is by itself
unfoldable pub alone : Class → List Token
alone separating = []
alone opening = open' ∷ []
alone closing = close' ∷ []
alone sharp = []
alone running = []
alone foreign = bad ∷ []

-- a byte goes on with a run or ends it
unfoldable pub after_run : List ℕ → Class → List Token
after_run cs separating = run cs ∷ []
after_run cs opening = run cs ∷ open' ∷ []
after_run cs closing = run cs ∷ close' ∷ []
after_run cs sharp = run cs ∷ []
after_run cs running = []
after_run cs foreign = run cs ∷ bad ∷ []

-- the tokens that are complete once byte b is taken
unfoldable pub completed : Pending → ℕ → List Token
completed nothing b = alone (class_of b)
completed hash b = flag_of b ∷ []
completed (among cs) b = after_run cs (class_of b)

-- what is pending after a byte of a class, with cs the run before it
unfoldable pub begun : List ℕ → ℕ → Class → Pending
begun cs b separating = nothing
begun cs b opening = nothing
begun cs b closing = nothing
begun cs b sharp = hash
begun cs b running = among (cs ++ (b ∷ []))
begun cs b foreign = nothing

-- what is pending once byte b is taken
unfoldable pub next : Pending → ℕ → Pending
next nothing b = begun [] b (class_of b)
next hash b = nothing
next (among cs) b = begun cs b (class_of b)

-- at the end of the text
unfoldable pub ended : Pending → List Token
ended nothing = []
ended hash = bad ∷ []
ended (among cs) = run cs ∷ []

-- the tokens of the bytes after what is pending
unfoldable pub tokens_after : Pending → List ℕ → List Token
tokens_after p [] = ended p
tokens_after p (b ∷ bs) = completed p b ++ tokens_after (next p b) bs

-- the tokens of a text, from the left
unfoldable pub tokens : List ℕ → List Token
unfolding is_digit is_running is_separating class_of flag_of alone after_run completed begun next ended tokens_after within any_of bytes
tokens text = tokens_after nothing text
