-- What the token reader answers, in document 01's terms: the next meaning, and the meanings of what follows its cursor.
use Rattle.std.specs.Prelude.{◌≡◌, true, false, cond, List, [], ◌∷◌, map, ℕ, ◌+◌, ◌≤◌, ◌<◌, length, get_or, drop, Option, Some, None, Result, Ok, Err}
use Rattle.std.specs.Int.{w32}
use Rattle.std.proofs.Common.{of_z}
use Rattle.words.specs.Code.Ground.{number_of}
use Rattle.words.specs.declared.ground.Ground.{Ground}
use Rattle.words.specs.Lists.{all_of}
use Rattle.words.specs.Parts.{part}
use Rattle.datum.specs.Constant.{boolean}
use Rattle.lexer.specs.declared.token.Token as T
use Rattle.lexer.specs.declared.token.Token.TheVariants as TV
use Rattle.lexer.specs.declared.token.Lexeme.{Lexeme}
use Rattle.reading.specs.Token.{nothing, tokens_after, is_running, is_separating}
use Rattle.reading.specs.Offset.{first_width, start_at, next_at}
use Rattle.reading.specs.Meaning.{Meaning, begins, ends, constant, name, refused, number, meaning_of}
use Rattle.reading.specs.RecipeText.{EndsRun}

-- the meanings of the tokens from a place on
unfoldable pub meanings_from : List ℕ → ℕ → List Meaning
meanings_from text at = map meaning_of (tokens_after nothing (drop at text))

-- to stands past the separators from a place on
pub record Skipped (text : List ℕ) (from to : ℕ) : Type 0 where
  pub low : from ≤ to
  pub high : to ≤ length text
  pub same : meanings_from text from ≡ meanings_from text to
  pub start : start_at text from ≡ to
  pub stops : to < length text → is_separating (get_or text to 0) ≡ false

-- to is where a run from a place on ends
pub record RunTo (text : List ℕ) (from to : ℕ) : Type 0 where
  pub low : from ≤ to
  pub high : to ≤ length text
  pub runs : all_of is_running (part from to text) ≡ true
  pub stops : EndsRun (drop to text)

-- the token that stands first from at on means m, and the next one is looked for from next
pub record Took (text : List ℕ) (at : ℕ) (m : Meaning) (next : ℕ) : Type 0 where
  pub low : at < next
  pub high : next ≤ length text
  pub means : meanings_from text at ≡ m ∷ meanings_from text next
  pub ends : next ≡ next_at text at

-- what a token says, by its word
abbrev pub said : List ℕ → Result T.Token Ground → Meaning
said word (Ok TV.Open) = begins
said word (Ok TV.Close) = ends
said word (Ok (TV.Boolean b)) = constant (boolean (cond b 1 0))
said word (Ok (TV.Number n)) = constant (number (of_z w32 n.value) n.places)
said word (Ok TV.Name) = name word
said word (Err g) = refused (number_of g)

abbrev pub meaning_in : List ℕ → Lexeme → Meaning
meaning_in text l = said (part l.from l.next text) l.token

-- the answer at a place
abbrev pub Told : List ℕ → ℕ → Option Lexeme → Type 0
Told text at None = meanings_from text at ≡ []
Told text at (Some l) = (l.from ≡ start_at text at) × Took text at (meaning_in text l) l.next

-- the token that stands at a place, where there is no separator
pub record Stands (text : List ℕ) (at : ℕ) (m : Meaning) (next : ℕ) : Type 0 where
  pub low : at < next
  pub high : next ≤ length text
  pub means : meanings_from text at ≡ m ∷ meanings_from text next
  pub ends : next ≡ at + first_width (drop at text)

abbrev pub Lexed : List ℕ → ℕ → Lexeme → Type 0
Lexed text at l = (l.from ≡ at) × Stands text at (meaning_in text l) l.next
