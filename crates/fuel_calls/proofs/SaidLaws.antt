-- Request L9 for two calls, over plain numbers and tables, each condition an argument of its own. From `more-fuel-calls` and
-- `least-fuel-calls`, whose conditions stand in a record.
use Rattle.std.specs.Prelude.{◌≡◌, List, ℕ, ◌+◌, ◌*◌, ◌≤◌, ◌<◌, length}
use Rattle.recipe.specs.Table.{item_count}
use Rattle.expander.specs.Service.{Expansion, numbers_of, Served}
use Rattle.fuel_calls.specs.Statement.{Call, Same, MoreFuelCalls, LeastFuelCalls}
use Rattle.fuel_calls.proofs.Calls.{more-fuel-calls, least-fuel-calls}
use Rattle.fuel_calls.specs.Said.{called}

module _ (items : List ℕ) (fuel more : ℕ) (work work₁ core core₁ : List ℕ) (first : Expansion) (work' work₂ core' core₂ : List ℕ) (second : Expansion)
    -- a first call that passes grounds 8 and 9
    (most : fuel ≤ 8192) (work-room : 24 * (item_count items + fuel) ≤ length work) (core-room : 3 * (item_count items + fuel) ≤ length core)
    (served : Served items fuel work work₁ core core₁ first)
    -- and a second on the same items
    (most' : more ≤ 8192) (work-room' : 24 * (item_count items + more) ≤ length work') (core-room' : 3 * (item_count items + more) ≤ length core')
    (served' : Served items more work' work₂ core' core₂ second)
    -- where the first is not refused on ground 18
    (enough : (numbers_of first).ground_number ≡ 18 → ⊥) where
  abbrev once : Call items
  once = called most work-room core-room served

  abbrev again : Call items
  again = called most' work-room' core-room' served'

  pub more-fuel-calls-said : fuel ≤ more → Same once again
  unfolding MoreFuelCalls
  more-fuel-calls-said h = more-fuel-calls items once again h enough

  pub from-sum-calls-said : (numbers_of first).sum ≤ more → Same once again
  unfolding LeastFuelCalls
  from-sum-calls-said h = (least-fuel-calls items once again enough).from-sum h

  pub below-sum-calls-said : more < (numbers_of first).sum → (numbers_of second).ground_number ≡ 18
  unfolding LeastFuelCalls
  below-sum-calls-said h = (least-fuel-calls items once again enough).below-sum h
