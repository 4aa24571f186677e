-- What a computation spends, of a tree of size k: gas of k and the fuel left is enough; every step is paid for; core words are at most
-- 3 × (k + the fuel spent), and new variables and macros together at most k + the fuel spent.
use Rattle.std.specs.Prelude.{◌≡◌, ℕ, ◌+◌, ◌*◌, ◌≤◌, length}
use Rattle.std.proofs.Common.{◌∙◌}
use mathlib.Core.List.{[], ◌∷◌}
use Rattle.words.specs.Limits.{core_rate}
use Rattle.recipe.specs.Name.{Name}
use Rattle.recipe.specs.Tree.{Tree, size}
use Rattle.core_term.specs.Term.{Term}
use Rattle.expansion.specs.Computation.{State, Out, M}
use Rattle.expansion.specs.Run.{words_of}
use Rattle.expansion.specs.Outcomes.{Holds}

-- ---- what is spent

-- every step is paid for, and the sum is at most the fuel
pub record Solvent (fuel : ℕ) (s : State) : Type 0 where
  pub paid : s.steps ≤ s.sum
  pub bounded : s.sum ≤ fuel

-- n words from a tree of size k, on the way from s to t
pub record Spent (fuel k : ℕ) (s : State) (n : ℕ) (t : State) : Type 0 where
  pub grown : s.sum ≤ t.sum
  pub solvent : Solvent fuel t
  pub words : n + core_rate * s.sum ≤ core_rate * k + core_rate * t.sum
  pub bindings : t.variables + length t.macros + s.sum ≤ s.variables + length s.macros + k + t.sum

-- of an outcome: it is not starved, a refusal is solvent, and what is done spends at most this
abbrev pub Spends : {A : Type 0} (fuel k : ℕ) (s : State) → (A → ℕ) → Out A → Type 0
Spends fuel k s words o = Holds ⊥ (λ g u l. Solvent fuel u) (λ a u l. Spent fuel k s (words a) u) o

abbrev pub SpendsTerm : (fuel k : ℕ) (s : State) → Out (Term Name) → Type 0
SpendsTerm fuel k s = Spends fuel k s (λ w. length (words_of w))

-- an expander for which gas bounds the tree and the fuel left
abbrev pub Thrifty : (fuel gas : ℕ) → (Tree → M (Term Name)) → Type 0
Thrifty fuel gas rec = (t : Tree) (s : State) → Solvent fuel s → size t + fuel ≤ gas + s.sum → SpendsTerm fuel (size t) s (rec t s)
