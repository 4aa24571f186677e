-- The tables while an expression is expanded, and how they meet the definition. The work table holds the arena, up to `top`;
-- the core table the words so far, up to `at`; a third, one word a macro, refers to each one's rules.
use Rattle.std.specs.Prelude.{◌≡◌, List, [], ◌∷◌, ◌++◌, ℕ, zero, suc, ◌+◌, ◌*◌, ◌-◌, ◌^◌, ◌≤◌, ◌<◌, length, get_or, take}
use Rattle.words.specs.Limits.{fuel_most, core_rate}
use Rattle.words.specs.Each.{Each}
use Rattle.recipe.specs.Tree.{Tree, elements}
use Rattle.recipe.specs.Tidy.{Tidy}
use Rattle.recipe.specs.TableTidy.{IsConstant}
use Rattle.core_term.specs.Node.{application_code}
use Rattle.expansion.specs.Rules.{Rule}
use Rattle.expansion.specs.TidyRules.{TidyRules}
use Rattle.expansion.specs.Computation.{State}
use Rattle.arena.specs.Arena.{tree_at}
use Rattle.rule_cells.specs.Cells.{rules_at}
use Rattle.environments.specs.Sound.{SoundRule}
use Rattle.forms.specs.Quotes.{Written}
use Rattle.turns.specs.declared.answers.Reached.{Reached}
use Rattle.turns.specs.Numbers.{moved}

pub record Tables : Type 0 where
  pub work : List ℕ
  pub core : List ℕ
  pub macros : List ℕ

abbrev pub tables : (work core macros : List ℕ) → Tables
tables work core macros = record { work = work; core = core; macros = macros }

-- ---- the definition's state

-- the rules of the first n macros
unfoldable pub macros_at : (work macros : List ℕ) → ℕ → List (List Rule)
macros_at work macros zero = []
macros_at work macros (suc n) = macros_at work macros n ++ (rules_at work (get_or macros n 0) ∷ [])

unfoldable pub state_at : Tables → Reached → State
state_at t r = record { steps = r.steps; sum = r.sum; variables = r.variables; macros = macros_at t.work t.macros r.macros }

-- ---- core words

pub record CoreRoom (core : List ℕ) (at n : ℕ) : Type 0 where
  pub fits : at + n ≤ length core
  pub small : at + n < 2 ^ 32

-- words are written from r.at, and nothing else is done
pub record Moved (words : List ℕ) (r : Reached) (before after : List ℕ) (q : Reached) : Type 0 where
  pub is : q ≡ moved q.at r
  pub put : Written words before after r.at q.at

-- an application's header and its named head, whatever waits on the list of operands
abbrev pub HeaderMoved : (list code number : ℕ) (r : Reached) (work before after : List ℕ) (q : Reached) → Type 0
HeaderMoved list code number r work before after q = (w : ℕ) → Moved (application_code ∷ length (elements (tree_at work list w)) ∷ code ∷ number ∷ []) r before after q

-- ---- the budget

-- words of the work table for each item of the tree at hand and each unit of fuel left
abbrev pub item_rate : ℕ
item_rate = 9

abbrev pub fuel_rate : ℕ
fuel_rate = 16

-- items that a form has for each of its macros, at the least
abbrev pub macro_items : ℕ
macro_items = 6

-- the most that an expansion's numbers reach
abbrev pub number_most : ℕ
number_most = 400000

-- what an expansion of a tree of n items may still take: of the work table, the core table, variables, macros
unfoldable pub work_need : (fuel n : ℕ) → Reached → ℕ
work_need fuel n r = r.top + item_rate * n + fuel_rate * (fuel - r.sum)

unfoldable pub core_need : (fuel n : ℕ) → Reached → ℕ
core_need fuel n r = r.at + core_rate * n + core_rate * (fuel - r.sum)

unfoldable pub variable_need : (fuel n : ℕ) → Reached → ℕ
variable_need fuel n r = r.variables + n + (fuel - r.sum)

unfoldable pub macro_need : (fuel n : ℕ) → Reached → ℕ
macro_need fuel n r = macro_items * r.macros + n + (fuel - r.sum)

-- ---- what an expansion relies on, and what it keeps

-- trees whose tails are lists and whose constants are constants, as all that a run has at hand
abbrev pub Proper : Tree → Type 0
Proper = Tidy (λ x. Unit {0}) IsConstant

-- the macros so far: their rules stand below the top, insert proper trees, and are sound
pub record Macros (r : Reached) (t : Tables) : Type 0 where
  pub below : (k : ℕ) → k < r.macros → get_or t.macros k 0 ≤ r.top
  pub proper : Each (TidyRules (λ x. Unit {0}) IsConstant) (macros_at t.work t.macros r.macros)
  pub sound : Each (Each SoundRule) (macros_at t.work t.macros r.macros)

-- a tree of n items may be expanded from r
pub record Ready (fuel n : ℕ) (r : Reached) (t : Tables) : Type 0 where
  pub fuelled : fuel ≤ fuel_most
  pub spent : r.sum ≤ fuel
  pub stepped : r.steps ≤ r.sum
  pub room : work_need fuel n r ≤ length t.work
  pub core-room : core_need fuel n r ≤ length t.core
  pub macro-room : macro_need fuel n r ≤ macro_items * length t.macros
  pub small : work_need fuel n r ≤ number_most
  pub core-small : core_need fuel n r ≤ number_most
  pub few : variable_need fuel n r ≤ number_most
  pub macros-few : macro_need fuel n r ≤ number_most
  pub macros-are : Macros r t

-- the expression or list at hand
pub record Placed (work : List ℕ) (top node w : ℕ) : Type 0 where
  pub node-below : node ≤ top
  pub wrap-below : w ≤ top
  pub proper : Proper (tree_at work node w)

-- from r to q, where m of n items are left to expand; in the difference form, so that siblings need nothing
pub record Kept (fuel n m : ℕ) (r q : Reached) (before after : Tables) : Type 0 where
  pub work-long : length after.work ≡ length before.work
  pub core-long : length after.core ≡ length before.core
  pub macros-long : length after.macros ≡ length before.macros
  pub arena : take r.top after.work ≡ take r.top before.work
  pub known : take r.macros after.macros ≡ take r.macros before.macros
  pub top-grows : r.top ≤ q.top
  pub macros-grow : r.macros ≤ q.macros
  pub sum-grows : r.sum ≤ q.sum
  pub spent : q.sum ≤ fuel
  pub stepped : q.steps ≤ q.sum
  pub work-spent : work_need fuel m q ≤ work_need fuel n r
  pub core-spent : core_need fuel m q ≤ core_need fuel n r
  pub variables-spent : variable_need fuel m q ≤ variable_need fuel n r
  pub macros-spent : macro_need fuel m q ≤ macro_need fuel n r
  pub macros-are : Macros q after
