-- decode, then encode: a term that is read from words is well-formed, and they begin with its words.
use Rattle.std.specs.Prelude.{◌≡◌}
use Rattle.std.proofs.Math.Bool.{true}
use mathlib.Core.List.{List, ◌++◌}
use Prim.Native.Nat.{ℕ}
use Rattle.core_term.specs.Term.{Plain}
use Rattle.core_term.specs.Words.{encode}
use Rattle.core_term.specs.Every.{every, proper}

pub record TermRead (ws : List ℕ) (t : Plain) (r : List ℕ) : Type 0 where
  pub words : ws ≡ encode t ++ r
  pub fine : (b : ℕ) → every proper tt b t ≡ true
