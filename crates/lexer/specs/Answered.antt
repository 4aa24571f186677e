-- What the token reader's answers say in the definition's terms, and the tokens that a reader takes one after another.
use Rattle.std.specs.Prelude.{◌≡◌, List, [], ◌∷◌, ℕ, Some, None}
use Rattle.std.specs.declared.option.Option as O
use Rattle.std.proofs.Math.Option.{Option, none, some}
use Rattle.lexer.specs.declared.token_reader.TokenReader.{TokenReader}
use Rattle.lexer.specs.declared.token.Lexeme.{Lexeme}
use Rattle.lexer.specs.Told.{meaning_in}
use Rattle.reading.specs.Token.{Token}
use Rattle.reading.specs.Offset.{start_at, token_at, next_at}
use Rattle.reading.specs.Meaning.{Meaning, meaning_of}

-- what an answer means, and the offset past it; none at the end
abbrev pub meant : List ℕ → O.Option Lexeme → Option (Meaning × ℕ)
meant text None = none
meant text (Some l) = some (meaning_in text l, l.next)

-- the offset past an answer, or another at the end
abbrev pub past_or : ℕ → O.Option Lexeme → ℕ
past_or at None = at
past_or at (Some l) = l.next

-- where an answer starts, or another place at the end
abbrev pub start_or : ℕ → O.Option Lexeme → ℕ
start_or start None = start
start_or start (Some l) = l.from

-- what a token means, where there is one, and the offset past it
unfoldable pub meaning : ℕ → Option Token → Option (Meaning × ℕ)
meaning next none = none
meaning next (some t) = some (meaning_of t, next)

-- the same of the token that the definition has at an offset
unfoldable pub meaning_at : List ℕ → ℕ → Option (Meaning × ℕ)
unfolding meaning
meaning_at text at = meaning (next_at text at) (token_at text at)

-- an answer is the definition's
pub record Answered (text : List ℕ) (at : ℕ) (t : O.Option Lexeme) : Type 0 where
  pub means : meant text t ≡ meaning_at text at
  pub starts : start_or (start_at text at) t ≡ start_at text at

-- the meanings that a caller takes from a reader one after another: it asks for the token and moves the reader past it, up to the end
pub data Takes : TokenReader → List Meaning → Type 0 where
  ended : {r : TokenReader} {t : O.Option Lexeme} → Answered r.text.now r.at t → meant r.text.now t ≡ none → Takes r []
  further : {r q : TokenReader} {t : O.Option Lexeme} {m : Meaning} {next : ℕ} {ms : List Meaning} → Answered r.text.now r.at t
      → meant r.text.now t ≡ some (m, next) → (q.text ≡ r.text) × (q.at ≡ next) → Takes q ms → Takes r (m ∷ ms)
