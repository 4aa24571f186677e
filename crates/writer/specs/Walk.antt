-- A walk through a term's words that lays its text.
use Rattle.std.specs.Prelude.{◌≡◌, ℕ, Bool, true, ◌&&◌, List, ◌++◌, Some, None}
use Rattle.core_term.specs.Node.{is_node}
use Rattle.core_term.specs.Term.{Plain}
use Rattle.core_term.specs.Words.{encode}
use Rattle.core_term.specs.Every.{Asked, every}
use Rattle.core_term.specs.Parts.{is_datum}
use Rattle.std.specs.declared.option.Option.{Option}
use Rattle.writer.specs.declared.term.Step.{Step}
use Rattle.writer.specs.Laid.{Left}
use Rattle.writer.specs.Called.{Said}
use Rattle.writer.specs.Opened.{named}

-- every node is one, and its name has a slot
unfoldable pub spelling : Said → Asked (Unit {0})
spelling said = record { test = λ e b x. is_node x && named said x; enter = λ e b x. e }

-- a term that can be written; inside quote, a datum
pub record Fits (said : Said) (inner : Bool) (t : Plain) : Type 0 where
  pub before : ℕ
  pub fine : every (spelling said) tt before t ≡ true
  pub datum : inner ≡ true → is_datum t ≡ true

-- words that begin with one
pub record Begins (said : Said) (inner : Bool) (ws : List ℕ) : Type 0 where
  pub term : Plain
  pub rest : List ℕ
  pub fits : Fits said inner term
  pub words : ws ≡ encode term ++ rest

-- n words walked through and text x laid
pub data Walked (ink : Bool) (x : List ℕ) (n at : ℕ) (d e : List ℕ) : Option Step → Type 0 where
  walked : {s : Step} → s.used ≡ n → Left ink x at d e (Some s.end) → Walked ink x n at d e (Some s)
  stopped : Left ink x at d e None → Walked ink x n at d e None
