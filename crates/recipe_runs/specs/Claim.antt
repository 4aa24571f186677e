-- An expansion runs as its term, proved.
use Rattle.std.specs.Prelude.{◌≡◌, refl, Bool, true, false, List, ℕ, ◌+◌, ◌*◌, leb, ℤ}
use Rattle.std.proofs.Common.{sym, ap, ◌∙◌, arith}
use Rattle.std.proofs.Math.Option.{some}
use Rattle.words.specs.Limits.{operations_most, budget_most, run_rate}
use Rattle.recipe.specs.Name.{Name}
use Rattle.core_term.specs.Term.{Term, Plain}
use Rattle.core_term.specs.Check.{term_of, small}
use Rattle.expansion.specs.Run as X
use Rattle.expansion.specs.Run.{told, core_of}
use Rattle.expansion.proofs.Bounds.Gas.{kept-accepted}
use Rattle.expansion.proofs.Ways.Grounds.{ground-range, run-ground}
use Rattle.expansion.specs.CoreTerm.{CoreTerm}
use Rattle.expansion.proofs.CoreTermLaws.{run-operations, run-term-within}
use Rattle.evaluation.specs.Computation.{Out, done, refused}
use Rattle.evaluation.specs.Evaluate.{Value}
use Rattle.evaluation.specs.Run as R
use Rattle.evaluation.specs.Run.{Result, Outcome, unfit, require}
use Rattle.recipe_runs.specs.RecipeRun.{after_expansion, recipe_run, term_run}
use Rattle.recipe_runs.specs.Statement.{RunsAsTerm, Never19}

-- an accepted run's words pass ground 19 where no count of operations is given
pub run-most : (items : List ℕ) (fuel work core : ℕ) → (X.run items fuel work core).outcome ≡ X.accepted → CoreTerm operations_most small (X.run items fuel work core)
run-most items fuel work core h = run-term-within items fuel work core operations_most (run-operations items fuel work core h) (omega arith) h

-- ---- calls of the runner

-- the words of a term, past ground 19
pub term-run : (words : List ℕ) (t : Plain) (budget table : ℕ) → term_of operations_most small words ≡ some t → R.run words budget table ≡ term_run t budget table
unfolding R.run R.tested R.with_term term_run
term-run words t budget table e = rw e

-- a term's run is not 19
pub term-never-19 : (t : Plain) (budget table : ℕ) → term_run t budget table ≡ unfit 19 → ⊥
unfolding term_run require R.ended
term-never-19 t budget table = go (leb budget budget_most) (leb (run_rate * (budget + 1)) table) (R.evaluated _ budget _)
  where
    go : (b c : Bool) (o : Out (Value ℤ)) → require 8 b (require 9 c (R.ended o)) ≡ unfit 19 → ⊥
    go false c o e = let z : ◌≡◌ {A = ℕ} 8 19 = cc in omega arith
    go true false o e = let z : ◌≡◌ {A = ℕ} 9 19 = cc in omega arith
    go true true (done v u) e = let z : ◌≡◌ {A = ℕ} 0 1 = cc in omega arith
    go true true (refused g u) e = let z : ◌≡◌ {A = ℕ} 0 1 = cc in omega arith

-- ---- recipes

pub runs-as-term : RunsAsTerm
unfolding RunsAsTerm recipe_run after_expansion
runs-as-term items fuel work core t e budget table =
    let h = kept-accepted items fuel work core t e in
    let c = run-most items fuel work core h in
    let i : some c.term ≡ some t = sym c.given ∙ e in
    let j : c.term ≡ t = cc in
    rw h (term-run (core_of (X.run items fuel work core)) (told c.term) budget table c.passes ∙ ap (λ (u : Term Name). term_run (told u) budget table) j)

pub never-19 : Never19
unfolding Never19 recipe_run after_expansion
never-19 items fuel work core budget table = go (X.run items fuel work core).outcome refl
  where
    go : (o : X.Outcome) → (X.run items fuel work core).outcome ≡ o → after_expansion o (R.run (core_of (X.run items fuel work core)) budget table) ≡ unfit 19 → ⊥
    go X.accepted h e =
        let c = run-most items fuel work core h in
        term-never-19 (told c.term) budget table (sym (term-run (core_of (X.run items fuel work core)) (told c.term) budget table c.passes) ∙ e)
    go (X.refused_on w g) h e = let z : g ≡ 19 = cc in omega (arith, (ground-range w g (run-ground items fuel work core w g h)).1)
    go X.unfinished h e = let z : ◌≡◌ {A = ℕ} 4294967296 19 = cc in omega arith
