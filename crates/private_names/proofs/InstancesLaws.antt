-- What the claim says of recipes: each row is an instance of `PrivateNames` itself, at a fuel of its own and in tables just long enough
-- for it. All hypotheses hold by computing, and so both conclusions are the answers that the row has. A claim that says less, or that
-- asks for more, gives no such row.
use Rattle.std.specs.Prelude.{◌≡◌, refl, Bool, true, ◌&&◌, ◌+◌, ◌*◌}
use Rattle.std.proofs.Common.{ap, ◌∙◌}
use mathlib.Core.List.{List, [], ◌∷◌, map, head-eq_of_cons-eq, tail-eq_of_cons-eq}
use Rattle.words.specs.Limits.{work_rate, core_rate}
use Rattle.words.specs.Each.{Each, none_of, also}
use Rattle.recipe.specs.Table.{item_count}
use Rattle.expansion.specs.Computed.{computed}
use Rattle.private_names.specs.Statement.{Answer, core_with, formal_number, answer_with, PrivateNames}
use Rattle.private_names.specs.Witnesses.{found}
use Rattle.private_names.specs.Instances.{Row, Says, claimed, deep, forms, links, rows, run_by}

abbrev known : Row → Bool × Answer × Answer
known r = (true, r.first, r.second)

-- the claim itself, at each row
says : PrivateNames → (rs : List Row) → map claimed rs ≡ map known rs → Each Says rs
unfolding PrivateNames run_by claimed
says claim [] e = none_of
says claim (r ∷ rs) e =
    let here : claimed r ≡ known r = head-eq_of_cons-eq e in
    let c = claim r.items r.fuel (work_rate * (item_count r.items + r.fuel)) (core_rate * (item_count r.items + r.fuel)) r.choice (ap (λ x. x.0) here) in
    also (c.0 ∙ ap (λ x. x.1) here, c.1 ∙ ap (λ x. x.2) here) (says claim rs (tail-eq_of_cons-eq e))

-- ---- rows

rows-claimed : map claimed rows ≡ map known rows
unfolding claimed rows links forms deep run_by computed found formal_number core_with answer_with
rows-claimed = refl

pub rows-hold : PrivateNames → Each Says rows
rows-hold claim = says claim rows rows-claimed
