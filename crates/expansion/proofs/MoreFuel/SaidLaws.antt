-- Request L9 over plain numbers, each condition an argument of its own, from `more-fuel` and `least-fuel`, whose conditions stand in a
-- record; and the claims at one recipe, from fuel 21 to 8,192.
use Rattle.std.specs.Prelude.{◌≡◌, refl, List, ℕ, ◌+◌, ◌*◌, ◌≤◌, ◌<◌}
use Rattle.std.proofs.Common.{sym, ◌∙◌, arith}
use Rattle.words.specs.Tables.{begun}
use Rattle.recipe.specs.Table.{item_count}
use Rattle.expansion.specs.Run.{accepted, refused_on, Run, run}
use Rattle.expansion.proofs.RunLaws.{accepted≢refused_on}
use Rattle.expansion.specs.Computed.{computed}
use Rattle.expansion.specs.MoreFuel.{Try, tried, Enough, MoreFuel, LeastFuel}
use Rattle.expansion.proofs.MoreFuel.Claim.{more-fuel, least-fuel}
use Rattle.expansion.specs.MoreFuel.Said.{or2}

-- a try by all that it asks: a fuel up to 8,192, and for each item and unit of fuel 24 words of work and 3 of core
module _ {items : List ℕ} {fuel work core : ℕ} where
  abbrev try : fuel ≤ 8192 → 24 * (item_count items + fuel) ≤ work → 3 * (item_count items + fuel) ≤ core → Try items
  try most work-room core-room = record { fuel = fuel; work = work; core = core; most = most; work-room = work-room; core-room = core-room }

module _ (items : List ℕ) (fuel more work core work' core' : ℕ)
    -- lent tables that pass ground 9 for both fuels
    (most : fuel ≤ 8192) (work-room : 24 * (item_count items + fuel) ≤ work) (core-room : 3 * (item_count items + fuel) ≤ core)
    (most' : more ≤ 8192) (work-room' : 24 * (item_count items + more) ≤ work') (core-room' : 3 * (item_count items + more) ≤ core')
    -- any outcome other than ground 18
    (enough : (run items fuel work core).outcome ≡ refused_on begun 18 → ⊥) where
  pub more-fuel-said : fuel ≤ more → run items more work' core' ≡ run items fuel work core
  unfolding MoreFuel Enough tried
  more-fuel-said h = more-fuel items (try most work-room core-room) (try most' work-room' core-room') h enough

  pub from-sum-said : (run items fuel work core).sum ≤ more → run items more work' core' ≡ run items fuel work core
  unfolding LeastFuel Enough tried
  from-sum-said h = (least-fuel items (try most work-room core-room) (try most' work-room' core-room') enough).from-sum h

  pub below-sum-said : more < (run items fuel work core).sum → (run items more work' core').outcome ≡ refused_on begun 18
  unfolding LeastFuel Enough tried
  below-sum-said h = (least-fuel items (try most work-room core-room) (try most' work-room' core-room') enough).below-sum h

-- ---- an instance: recipe F1, whose sum is 21

-- in tables just long enough
abbrev at : ℕ → Run
at fuel = run or2 fuel (24 * (item_count or2 + fuel)) (3 * (item_count or2 + fuel))

accepted-at-21 : (at 21).outcome ≡ accepted
unfolding or2 computed
accepted-at-21 = refl

sum-at-21 : (at 21).sum ≡ 21
unfolding or2 computed
sum-at-21 = refl

enough-at-21 : (at 21).outcome ≡ refused_on begun 18 → ⊥
enough-at-21 e = accepted≢refused_on begun 18 (sym accepted-at-21 ∙ e)

abbrev try_at : (fuel : ℕ) → fuel ≤ 8192 → Try or2
try_at fuel most = record {
  fuel = fuel;
  work = 24 * (item_count or2 + fuel);
  core = 3 * (item_count or2 + fuel);
  most = most;
  work-room = omega arith;
  core-room = omega arith;
}

-- the claims at it: the same run at 8,192 as at 21, and 18 at 20
pub from-21-to-8192 : MoreFuel → at 8192 ≡ at 21
unfolding MoreFuel Enough tried
from-21-to-8192 claim = claim or2 (try_at 21 (omega arith)) (try_at 8192 (omega arith)) (omega arith) enough-at-21

pub below-21 : LeastFuel → (at 20).outcome ≡ refused_on begun 18
unfolding LeastFuel Enough tried
below-21 claim = (claim or2 (try_at 21 (omega arith)) (try_at 20 (omega arith)) enough-at-21).below-sum (omega (arith, sum-at-21))
