-- What the claim says of recipes: each row is an instance of `PrivateRuns` itself, in tables just long enough for its fuel and budget. The
-- hypotheses hold by computing, and so the second recipe's outcome is the one that the row has. A claim that says less, or that asks for
-- more, gives no such row.
use Rattle.std.specs.Prelude.{◌≡◌, refl, Bool, true, ◌+◌, ◌*◌, ℤ}
use Rattle.std.proofs.Common.{ap, ◌∙◌}
use mathlib.Core.List.{List, [], ◌∷◌, map, head-eq_of_cons-eq, tail-eq_of_cons-eq}
use Rattle.words.specs.Limits.{work_rate, core_rate}
use Rattle.words.specs.Each.{Each, none_of, also}
use Rattle.private_names.specs.Witnesses.{found}
use Rattle.evaluation.specs.Run.{Result, Outcome}
use Rattle.recipe_runs.specs.Rows.{computed}
use Rattle.private_runs.specs.Statement.{PrivateRuns}
use Rattle.private_runs.specs.Instances.{Row, Says, claimed, needed, row, rows, run_by}

abbrev known : Row → Bool × Outcome (Result ℤ)
known r = (true, r.is)

-- the claim itself, at each row
says : PrivateRuns → (rs : List Row) → map claimed rs ≡ map known rs → Each Says rs
unfolding PrivateRuns run_by claimed
says claim [] e = none_of
says claim (r ∷ rs) e =
    let here : claimed r ≡ known r = head-eq_of_cons-eq e in
    also (claim r.items r.fuel (needed r work_rate) (needed r core_rate) r.choice r.budget (16 * (r.budget + 1)) (ap (λ x. x.0) here) ∙ ap (λ x. x.1) here)
    (says claim rs (tail-eq_of_cons-eq e))

-- ---- rows

rows-claimed : map claimed rows ≡ map known rows
unfolding claimed rows row run_by computed found
rows-claimed = refl

pub rows-hold : PrivateRuns → Each Says rows
rows-hold claim = says claim rows rows-claimed
