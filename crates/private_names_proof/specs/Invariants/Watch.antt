-- A run that tests each expression before it expands it, and refuses on ground 0, which no expansion does, where the test fails.
-- Where no test fails it is the run itself: `watched-is`.
use Rattle.std.specs.Prelude.{◌≡◌, Bool, cond, List, []}
use Prim.Native.Nat.{ℕ, zero, suc}
use Rattle.recipe.specs.Name.{Name}
use Rattle.recipe.specs.Tree.{Tree}
use Rattle.core_term.specs.Term.{Term}
use Rattle.expansion.specs.Computation.{State, Events, Out, refused, starved, M, ◌>>=◌, ◌>>◌, refuse}
use Rattle.expansion.specs.Forms.{expand_tree}

-- the expansion of an expression, tested before it is expanded and so each expression that it comes to
unfoldable pub watched : (test : Tree → State → Bool) (limit inner : ℕ) (operations : List ℕ) (fuel gas : ℕ) → Tree → M (Term Name)
watched test limit inner operations fuel zero t = λ s. starved []
watched test limit inner operations fuel (suc gas) t = λ s. cond (test t s) (expand_tree limit operations fuel (watched test inner inner operations fuel gas) t) (refuse 0) s

-- no test failed
abbrev pub FailsNowhere : {A : Type 0} → Out A → Type 0
FailsNowhere {A} o = (s : State) (l : Events) → o ≡ refused 0 s l → ⊥
