-- How a computation ends, without what it shows: code answers for ends, and events are the definition's business.
use Rattle.std.specs.Prelude.{Bool, cond, List, ◌++◌, ℕ, suc, ◌+◌}
use Rattle.std.proofs.Math.Option.{Option, none, some}
use Rattle.expansion.specs.Rules.{Rule}
use Rattle.expansion.specs.Computation.{State, Out, done, refused, starved}

pub data End (A : Type 0) : Type 0 where
  finished : A → State → End A
  refused_end : (ground_number : ℕ) → State → End A
  halted : End A

unfoldable pub end_of : {A : Type 0} → Out A → End A
end_of (done a s l) = finished a s
end_of (refused g s l) = refused_end g s
end_of (starved l) = halted

-- what comes after an end
unfoldable pub then : {A B : Type 0} → (A → State → End B) → End A → End B
then f (finished a s) = f a s
then f (refused_end g s) = refused_end g s
then f halted = halted

-- the end e, where the test of ground g passes
unfoldable pub needs : {A : Type 0} → (ground_number : ℕ) → Bool → State → End A → End A
needs g b s e = cond b e (refused_end g s)

-- what f makes of an answer; ground g where it is missing
unfoldable pub given : {A B : Type 0} → (ground_number : ℕ) → State → (A → End B) → Option A → End B
given g s f none = refused_end g s
given g s f (some a) = f a

-- ---- states

unfoldable pub with_variables : ℕ → State → State
with_variables n s = record { steps = s.steps; sum = s.sum; variables = s.variables + n; macros = s.macros }

unfoldable pub with_macros : List (List Rule) → State → State
with_macros rules s = record { steps = s.steps; sum = s.sum; variables = s.variables; macros = s.macros ++ rules }

unfoldable pub with_step : ℕ → State → State
with_step n s = record { steps = suc s.steps; sum = s.sum + n; variables = s.variables; macros = s.macros }
