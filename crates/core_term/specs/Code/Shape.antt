-- What the checker says of words: a term, or terms in a row, that take so many words and bind so many variables, or none.
use Rattle.std.specs.Prelude.{◌≡◌, Bool, true, List, ◌++◌, ℕ, ◌+◌, ◌-◌, ◌≤◌, length, get_or, drop, Some, None}
use Rattle.std.specs.declared.option.Option.{Option}
use Rattle.core_term.specs.declared.term.Checked.{Checked}
use Rattle.core_term.specs.Term.{Plain, Plains, count, variables, variables_all}
use Rattle.core_term.specs.Words.{encode, encode_all}
use Rattle.core_term.specs.Every.{Asked, every, every_term}
use Rattle.core_term.specs.Parts.{is_datum, are_data}

module _ (A : Asked (List ℕ)) (quoted : Bool) (flags : List ℕ) (b : ℕ) (ws : List ℕ) where
  -- the words begin with a term; a datum, where one is wanted
  pub record Whole (used after : ℕ) : Type 0 where
    pub term : Plain
    pub datum : quoted ≡ true → is_datum term ≡ true
    pub fine : every A flags b term ≡ true
    pub words : ws ≡ encode term ++ drop used ws
    pub size : used ≡ length (encode term)
    pub bound : after ≡ b + variables term

  -- they begin with none
  abbrev pub NoWhole : Type 0
  NoWhole = (t : Plain) (r : List ℕ) → (quoted ≡ true → is_datum t ≡ true) → every A flags b t ≡ true → ws ≡ encode t ++ r → ⊥

  abbrev pub Shaped : Option Checked → Type 0
  Shaped (Some c) = Whole c.used c.bound
  Shaped None = NoWhole

module _ (A : Asked (List ℕ)) (quoted : Bool) (flags : List ℕ) (b : ℕ) (ws : List ℕ) (at n : ℕ) where
  -- n terms stand in a row from `at` on
  pub record Row (used after : ℕ) : Type 0 where
    pub terms : Plains
    pub many : count terms ≡ n
    pub data' : quoted ≡ true → are_data terms ≡ true
    pub fine : every_term A flags b terms ≡ true
    pub words : drop at ws ≡ encode_all terms ++ drop used ws
    pub size : used ≡ at + length (encode_all terms)
    pub bound : after ≡ b + variables_all terms

  -- fewer do
  abbrev pub NoRow : Type 0
  NoRow = (ts : Plains) (r : List ℕ) → count ts ≡ n → (quoted ≡ true → are_data ts ≡ true) → every_term A flags b ts ≡ true → drop at ws ≡ encode_all ts ++ r → ⊥

  abbrev pub InRow : Option Checked → Type 0
  InRow (Some c) = Row c.used c.bound
  InRow None = NoRow

-- a term leaves the flags as they were
abbrev pub Kept : Option Checked → List ℕ → List ℕ → Type 0
Kept (Some c) flags flags' = flags' ≡ flags
Kept None flags flags' = Unit {0}

-- no flag is set of a variable that is not yet bound
abbrev pub Clear : ℕ → ℕ → List ℕ → Type 0
Clear base b flags = (k : ℕ) → b ≤ k → base ≤ k → get_or flags (k - base) 0 ≡ 0
