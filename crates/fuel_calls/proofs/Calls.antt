-- Request L9 for two calls, proved: by their promises their answers and tables are those of two runs, and these are one.
use Rattle.std.specs.Prelude.{◌≡◌, List, [], ℕ, ◌≤◌, ◌<◌}
use Rattle.std.proofs.Math.Path.{refl, ap, subst}
use Rattle.std.proofs.Common.{sym, ◌∙◌, inl, inr, arith}
use Rattle.std.proofs.Math.ListN.{length}
use Rattle.words.specs.Tables.{testing, begun, left_at}
use Rattle.expansion.specs.Run.{Outcome, accepted, refused_on, unfinished, stage_of, Run, core_of, run}
use Rattle.expansion.proofs.Bounds.{run-sum, run-core-fits}
use Rattle.expansion.proofs.Bounds.Gas.{run-finished}
use Rattle.expansion.specs.RunLaws.{GroundIn}
use Rattle.expansion.proofs.Ways.Grounds.{run-ground}
use Rattle.expansion.specs.MoreFuel.{Try, tried, Enough, LeastFuel}
use Rattle.expansion.proofs.MoreFuel.Claim.{least-fuel}
use Rattle.expander.specs.Service.{Numbers, ground_of, run_numbers, core_after, work_after}
use Rattle.fuel_calls.specs.Statement.{Call, Early, Late, call_ground, call_sum, Kept, Wrote, Left, kept, wrote, Same, MoreFuelCalls, LeastFuelCalls}

module _ {items : List ℕ} where
  try_of : Call items → Try items
  try_of c = record { fuel = c.fuel; work = length c.work; core = length c.core; most = c.most; work-room = c.work-room; core-room = c.core-room }

  -- its run
  abbrev run_of : Call items → Run
  run_of c = run items c.fuel (length c.work) (length c.core)

  -- ---- what a call leaves, by its run's stage

  module _ (c : Call items) (r : Run) (e : run_of c ≡ r) where
    core-left : c.core' ≡ left_at (stage_of r.outcome) (core_of r) c.core
    unfolding core_after
    core-left = c.served.core-after ∙ ap (λ z. core_after z c.core) e

    work-left : c.work' ≡ left_at (stage_of r.outcome) [] c.work
    unfolding work_after
    work-left = c.served.work-after ∙ ap (λ z. work_after z c.work) e

    leaves_kept : stage_of r.outcome ≡ testing → Kept c
    unfolding left_at
    leaves_kept h = record { core = core-left ∙ rw h; work = work-left ∙ rw h }

    leaves-wrote : stage_of r.outcome ≡ begun → Wrote (core_of r) c
    unfolding left_at
    leaves-wrote h = record {
      fits = subst (λ (z : Run). length (core_of z) ≤ length c.core) e (run-core-fits items c.fuel (length c.work) (length c.core));
      core = core-left ∙ rw h;
      work = work-left ∙ rw h;
    }

  ground-is : (c : Call items) (o : Outcome) → (run_of c).outcome ≡ o → call_ground c ≡ ground_of o
  unfolding run_numbers
  ground-is c o e = ap (λ (n : Numbers). n.ground_number) c.served.numbers ∙ ap ground_of e

  sum_is : (c : Call items) → call_sum c ≡ (run_of c).sum
  unfolding run_numbers
  sum_is c = ap (λ (n : Numbers). n.sum) c.served.numbers

  -- ---- two calls whose runs are one

  module _ (once again : Call items) (same : run_of again ≡ run_of once) where
    both-kept : stage_of (run_of once).outcome ≡ testing → Early (call_ground once) → Left once again
    both-kept h g = kept g (leaves_kept once (run_of once) refl h) (leaves_kept again (run_of once) same h)

    both-wrote : stage_of (run_of once).outcome ≡ begun → Late (call_ground once) → Left once again
    both-wrote h g = wrote g (core_of (run_of once)) (leaves-wrote once (run_of once) refl h) (leaves-wrote again (run_of once) same h)

    both_left : Left once again
    unfolding stage_of ground_of
    both_left = by (run_of once).outcome refl
      where
        by : (o : Outcome) → (run_of once).outcome ≡ o → Left once again
        by accepted e = both-wrote (rw e) (inl (ground-is once accepted e))
        by (refused_on testing g) e = both-kept (rw e) (subst (GroundIn testing) (sym (ground-is once _ e)) (run-ground items once.fuel _ _ testing g e))
        by (refused_on begun g) e = both-wrote (rw e) (inr (subst (GroundIn begun) (sym (ground-is once _ e)) (run-ground items once.fuel _ _ begun g e)))
        by unfinished e = absurd (run-finished items once.fuel _ _ e)

    same-calls : Same once again
    same-calls = record { numbers = again.served.numbers ∙ ap run_numbers same ∙ sym once.served.numbers; left = both_left }

pub least-fuel-calls : LeastFuelCalls
unfolding LeastFuelCalls LeastFuel Enough tried ground_of try_of
least-fuel-calls items once again enough =
    let least = least-fuel items (try_of once) (try_of again) λ o. enough (ground-is once (refused_on begun 18) o) in
    record {
      from-sum = λ h. same-calls once again (least.from-sum (omega (arith, h, sum_is once)));
      below-sum = λ h. ground-is again (refused_on begun 18) (least.below-sum (omega (arith, h, sum_is once)));
    }

pub more-fuel-calls : MoreFuelCalls
unfolding MoreFuelCalls LeastFuelCalls
more-fuel-calls items once again h enough =
    (least-fuel-calls items once again enough).from-sum (omega (arith, sum_is once, run-sum items once.fuel (length once.work) (length once.core)))
