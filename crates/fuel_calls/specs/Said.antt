-- Request L9 for two calls, over plain numbers and tables, each condition an argument of its own. From `more-fuel-calls` and
-- `least-fuel-calls`, whose conditions stand in a record.
use Rattle.std.specs.Prelude.{◌≡◌, List, ℕ, ◌+◌, ◌*◌, ◌≤◌, ◌<◌, length}
use Rattle.recipe.specs.Table.{item_count}
use Rattle.expander.specs.Service.{Expansion, Served}
use Rattle.fuel_calls.specs.Statement.{Call}

-- a call by all that it asks: a fuel up to 8,192, and for each item and unit of fuel 24 words of work and 3 of core
module _ {items : List ℕ} {fuel : ℕ} {work work' core core' : List ℕ} {answer : Expansion} where
  abbrev pub called : fuel ≤ 8192 → 24 * (item_count items + fuel) ≤ length work → 3 * (item_count items + fuel) ≤ length core → Served items fuel work work' core core' answer → Call items
  called most work-room core-room served = record {
    fuel = fuel;
    work = work;
    work' = work';
    core = core;
    core' = core';
    answer = answer;
    most = most;
    work-room = work-room;
    core-room = core-room;
    served = served;
  }
