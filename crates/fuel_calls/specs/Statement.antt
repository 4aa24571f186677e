-- Request L9 for two calls of the expansion service on the same items, each with a fuel, lent tables and words in them of its own.
-- Nothing is proved here.
use Rattle.std.specs.Prelude.{◌≡◌, ◌⊎◌, List, [], ℕ, ◌+◌, ◌*◌, ◌≤◌, ◌<◌, length}
use Rattle.words.specs.Limits.{fuel_most, work_rate, core_rate}
use Rattle.words.specs.Tables.{testing, begun, filled}
use Rattle.recipe.specs.Table.{item_count}
use Rattle.expansion.specs.RunLaws.{GroundIn}
use Rattle.expander.specs.Service.{Expansion, numbers_of, Served}

-- a call with a fuel up to 8,192 and lent tables that pass ground 9 for it: what it is lent, what it leaves, its answer, and its promise
pub record Call (items : List ℕ) : Type 0 where
  pub fuel : ℕ
  pub work : List ℕ
  pub work' : List ℕ
  pub core : List ℕ
  pub core' : List ℕ
  pub answer : Expansion
  pub most : fuel ≤ fuel_most
  pub work-room : work_rate * (item_count items + fuel) ≤ length work
  pub core-room : core_rate * (item_count items + fuel) ≤ length core
  pub served : Served items fuel work work' core core' answer

-- the grounds of tests, which touch nothing
abbrev pub Early : (ground_number : ℕ) → Type 0
Early g = GroundIn testing g

-- accepted (0), and the grounds of a run that has begun
abbrev pub Late : (ground_number : ℕ) → Type 0
Late g = (g ≡ 0) ⊎ GroundIn begun g

module _ {items : List ℕ} where
  -- the ground and the sum of its answer
  abbrev pub call_ground : Call items → ℕ
  call_ground c = (numbers_of c.answer).ground_number

  abbrev pub call_sum : Call items → ℕ
  call_sum c = (numbers_of c.answer).sum

  -- its tables are as they were lent
  pub record Kept (c : Call items) : Type 0 where
    pub core : c.core' ≡ c.core
    pub work : c.work' ≡ c.work

  -- its core table has these words and zeros behind them, its work table zeros
  pub record Wrote (words : List ℕ) (c : Call items) : Type 0 where
    pub fits : length words ≤ length c.core
    pub core : c.core' ≡ filled words c.core
    pub work : c.work' ≡ filled [] c.work

  -- both leave their tables alone, or both write the same words
  pub data Left (once again : Call items) : Type 0 where
    kept : Early (call_ground once) → Kept once → Kept again → Left once again
    wrote : Late (call_ground once) → (words : List ℕ) → Wrote words once → Wrote words again → Left once again

  -- equal answers, equal core words up to the lengths lent, work zero
  pub record Same (once again : Call items) : Type 0 where
    pub numbers : numbers_of again.answer ≡ numbers_of once.answer
    pub left : Left once again

  -- the sum of the first is the least fuel that serves
  pub record Least (once again : Call items) : Type 0 where
    pub from-sum : call_sum once ≤ again.fuel → Same once again
    pub below-sum : again.fuel < call_sum once → call_ground again ≡ 18

-- where the first call is not refused on ground 18, and the second has no less fuel
unfoldable pub MoreFuelCalls : Type 0
MoreFuelCalls = (items : List ℕ) (once again : Call items) → once.fuel ≤ again.fuel → (call_ground once ≡ 18 → ⊥) → Same once again

-- where it is not, whatever the second's fuel
unfoldable pub LeastFuelCalls : Type 0
LeastFuelCalls = (items : List ℕ) (once again : Call items) → (call_ground once ≡ 18 → ⊥) → Least once again
