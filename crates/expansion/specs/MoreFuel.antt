-- Request L9, 'Trying with more fuel', stated over the definition of a run, in the words of document 02. Nothing is proved here.
pub mod Tries
pub mod Said
use Rattle.std.specs.Prelude.{◌≡◌, List, ℕ, ◌+◌, ◌*◌, ◌≤◌, ◌<◌}
use Rattle.words.specs.Limits.{fuel_most, work_rate, core_rate}
use Rattle.words.specs.Tables.{begun}
use Rattle.recipe.specs.Table.{item_count}
use Rattle.expansion.specs.Run.{refused_on, Run, run}

-- one try of an item table: a fuel up to 8,192, and lent tables that pass ground 9 for it
pub record Try (items : List ℕ) : Type 0 where
  pub fuel : ℕ
  pub work : ℕ
  pub core : ℕ
  pub most : fuel ≤ fuel_most
  pub work-room : work_rate * (item_count items + fuel) ≤ work
  pub core-room : core_rate * (item_count items + fuel) ≤ core

-- what it gives
unfoldable pub tried : (items : List ℕ) → Try items → Run
tried items t = run items t.fuel t.work t.core

-- any outcome other than ground 18
unfoldable pub Enough : Run → Type 0
Enough r = r.outcome ≡ refused_on begun 18 → ⊥

-- any outcome other than ground 18 at one fuel is the outcome at every larger fuel up to 8,192, with equal counts and term, where the
-- lent tables pass ground 9 for both (each for its own fuel) and the items are unchanged: the whole run, what it shows with it
unfoldable pub MoreFuel : Type 0
MoreFuel =
    (items : List ℕ) (once again : Try items)
    → once.fuel ≤ again.fuel
    → Enough (tried items once)
    → tried items again ≡ tried items once

-- so the sum is the least fuel that serves. Where r is such a run, and r' that of the same items with another fuel:
pub record Least (r : Run) (fuel : ℕ) (r' : Run) : Type 0 where
  -- at every fuel from its sum on it is the same run
  pub from-sum : r.sum ≤ fuel → r' ≡ r
  -- and at every fuel below it is 18
  pub below-sum : fuel < r.sum → r'.outcome ≡ refused_on begun 18

unfoldable pub LeastFuel : Type 0
LeastFuel =
    (items : List ℕ) (once again : Try items)
    → Enough (tried items once)
    → Least (tried items once) again.fuel (tried items again)
