-- Larger budgets over plain numbers, each condition an argument of its own, from `more-budget` and `least-budget`, whose conditions stand in
-- a record; and both claims at terms with known answers.
use Rattle.std.specs.Prelude.{◌≡◌, refl, List, [], ◌∷◌, ℕ, ◌+◌, ◌*◌, ◌≤◌, ◌<◌, ℤ, pos}
use Rattle.std.proofs.Common.{sym, ◌∙◌, arith}
use Rattle.evaluation.specs.Run.{Result, number, Outcome, refused_on, accepted, run}
use Rattle.evaluation.specs.Rows.{computed}
use Rattle.evaluation.specs.MoreBudget.{Try, tried, MoreBudget, LeastBudget}
use Rattle.evaluation.proofs.BudgetClaim.{more-budget, least-budget}

-- a try by all that it asks: a budget up to 65,535, and 16 words of the lent table for each unit and one more
module _ {budget table : ℕ} where
  abbrev try : budget ≤ 65535 → 16 * (budget + 1) ≤ table → Try
  try most room = record { budget = budget; table = table; most = most; room = room }

module _ (words : List ℕ) (budget other table table' : ℕ)
    -- budgets and lent tables that pass grounds 8 and 9
    (most : budget ≤ 65535) (room : 16 * (budget + 1) ≤ table)
    (most' : other ≤ 65535) (room' : 16 * (other + 1) ≤ table') where
  -- any outcome but 27 stands at every larger budget
  pub more-budget-said : (run words budget table ≡ refused_on 27 → ⊥) → budget ≤ other → run words other table' ≡ run words budget table
  unfolding MoreBudget tried
  more-budget-said enough h = more-budget words (try most room) (try most' room') h enough

  -- and where the term is accepted, the units are the least budget that serves
  module _ (result : Result ℤ) (units : ℕ) (is : run words budget table ≡ accepted result units) where
    pub from-units-said : units ≤ other → run words other table' ≡ accepted result units
    unfolding LeastBudget tried
    from-units-said h = (least-budget words (try most room) (try most' room') result units is).from-units h ∙ is

    pub below-units-said : other < units → run words other table' ≡ refused_on 27
    unfolding LeastBudget tried
    below-units-said h = (least-budget words (try most room) (try most' room') result units is).below-units h

-- ---- the claims at terms, in tables just long enough

abbrev try_of : (budget : ℕ) → budget ≤ 65535 → Try
try_of budget most = record { budget = budget; table = 16 * (budget + 1); most = most; room = omega arith }

abbrev at : List ℕ → ℕ → Outcome (Result ℤ)
at words budget = run words budget (16 * (budget + 1))

27-only : {a : Result ℤ} {u : ℕ} → ◌≡◌ {A = Outcome (Result ℤ)} (accepted a u) (refused_on 27) → ⊥
27-only e = let z : ◌≡◌ {A = ℕ} 0 1 = cc in omega arith

-- the sum of the numbers up to 2, by recursion (L11.40): 44 units
abbrev up_to2 : List ℕ
up_to2 = 8 ∷ 2 ∷ 7 ∷ 0 ∷ 2 ∷ 9 ∷ 9 ∷ 8 ∷ 2 ∷ 0 ∷ 0 ∷ 0 ∷ 0 ∷ 0 ∷ 1 ∷ 7 ∷ 2 ∷ 2 ∷ 9 ∷ 9 ∷ 6 ∷ 8 ∷ 2 ∷ 1 ∷ 2 ∷ 0 ∷ 3 ∷ 2 ∷ 1 ∷ 2 ∷ 0 ∷ 8 ∷ 2 ∷ 1 ∷ 0 ∷ 0 ∷ 3 ∷ 8 ∷ 2 ∷ 0 ∷ 2 ∷ 0 ∷ 2 ∷ 8 ∷ 2 ∷ 1 ∷ 1 ∷ 0 ∷ 3 ∷ 2 ∷ 1 ∷ 2 ∷ 2 ∷ []

is-3 : at up_to2 44 ≡ accepted (number (pos 3)) 44
unfolding computed
is-3 = refl

-- the same at 65,535
pub from-44-to-65535 : MoreBudget → at up_to2 65535 ≡ at up_to2 44
unfolding MoreBudget tried
from-44-to-65535 claim = claim up_to2 (try_of 44 (omega arith)) (try_of 65535 (omega arith)) (omega arith) (λ e. 27-only (sym is-3 ∙ e))

-- and 27 at 43
pub below-44 : LeastBudget → at up_to2 43 ≡ refused_on 27
unfolding LeastBudget tried
below-44 claim = (claim up_to2 (try_of 44 (omega arith)) (try_of 43 (omega arith)) (number (pos 3)) 44 is-3).below-units (omega arith)

-- a refusal on another ground stands too: `(1)` is 25 from 2 units on
abbrev no_head : List ℕ
no_head = 8 ∷ 0 ∷ 2 ∷ 1 ∷ []

is-25 : at no_head 2 ≡ refused_on 25
unfolding computed
is-25 = refl

pub from-2-to-65535 : MoreBudget → at no_head 65535 ≡ at no_head 2
unfolding MoreBudget tried
from-2-to-65535 claim =
    claim no_head (try_of 2 (omega arith)) (try_of 65535 (omega arith)) (omega arith)
    (λ e. let f : ◌≡◌ {A = Outcome (Result ℤ)} (refused_on 25) (refused_on 27) = sym is-25 ∙ e in let z : ◌≡◌ {A = ℕ} 25 27 = cc in omega arith)
