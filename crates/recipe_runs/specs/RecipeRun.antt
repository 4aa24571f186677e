-- A recipe run (request L11): its items are expanded, and the core term's words are run.
use Rattle.std.specs.Prelude.{List, ℕ, ◌+◌, ◌*◌, leb, ℤ}
use Rattle.words.specs.Limits.{budget_most, run_rate}
use Rattle.core_term.specs.Term.{Plain}
use Rattle.expansion.specs.Run as X
use Rattle.expansion.specs.Run.{core_of}
use Rattle.evaluation.specs.Code.{code_at}
use Rattle.evaluation.specs.Numbers.{integers}
use Rattle.evaluation.specs.Run.{Result, Outcome, unfit, require, ended, evaluated, run}

-- a recipe that expansion refuses is turned back before evaluation, on that ground; no run is unfinished (`run-finished`), and its number is
-- no ground's
unfoldable pub after_expansion : X.Outcome → Outcome (Result ℤ) → Outcome (Result ℤ)
after_expansion X.accepted o = o
after_expansion (X.refused_on stage g) o = unfit g
after_expansion X.unfinished o = unfit 4294967296

-- items, fuel, the lengths of the work and core tables; budget, and the length of the runner's table
unfoldable pub recipe_run : (items : List ℕ) (fuel work core budget table : ℕ) → Outcome (Result ℤ)
recipe_run items fuel work core budget table =
    let r = X.run items fuel work core in
    after_expansion r.outcome (run (core_of r) budget table)

-- a term run: what a call does past ground 19, the tests of the budget (8) and of the lent table (9) and then evaluation
unfoldable pub term_run : Plain → (budget table : ℕ) → Outcome (Result ℤ)
term_run t budget table = require 8 (leb budget budget_most) (require 9 (leb (run_rate * (budget + 1)) table) (ended (evaluated integers budget (code_at 0 t))))
