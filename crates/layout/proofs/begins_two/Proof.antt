-- `begins_two` answers how item 0 begins: one law of `Begins` for each way.
use borrow.Author.Rules.{rules}
use Rattle.layout.proofs.begins_two.Statement.{statement}
use Rattle.layout.proofs.begins_two.Tie as tie
use mathlib.Core.Path.{◌≡◌, ap, sym, ◌∙◌}
use native.Mathlib.Omega.{arith}
use Rattle.recipe.specs.Table.{kind_at}
use Rattle.recipe.specs.TreeFrom.{tail_at}
use Rattle.recipe.specs.Layout.{is_list_kind, PairItem}
use Rattle.layout.specs.Begins.{list-kind, pair_at, none, one, three, two}

returns : tie.Need-returns-then-kind-ne-PAIR
returns c =
    let a = c.args in let k : kind_at a.table.now 0 ≡ 4 → ⊥ = λ q. c.if-kind-ne-PAIR.true (c.kind.ensures ∙ q) in
    sym (none a.table.now a.n c.requires.0 c.requires.2 c.requires.1 k)

-- item 0, once it is known to be a pair
kind0 : (c : tie.After-tail-second) → kind_at c.args.table.now 0 ≡ 4
kind0 c = sym c.kind.ensures ∙ c.if-kind-ne-PAIR.false

pair0 : (c : tie.After-tail-second) → PairItem c.args.table.now c.args.n 0
pair0 c = pair_at c.args.table.now c.args.n c.requires.0 c.requires.2 0 c.requires.1 (kind0 c)

kind-requires-2 : tie.Need-kind-requires-2
kind-requires-2 c κs =
    omega (arith, (pair0 c).tail_below)

returns-2 : tie.Need-returns-then-kind-ne-PAIR-2
returns-2 c =
    let a = c.args in let ws = a.table.now in let k : kind_at ws (tail_at ws 0) ≡ 4 → ⊥ = λ q. c.if-kind-ne-PAIR-2.true (c.kind-2.ensures ∙ (ap (kind_at ws) c.tail-second.ensures ∙ q)) in
    sym (one ws a.n c.requires.0 c.requires.2 c.requires.1 (kind0 c.before.before) (pair0 c.before.before).tail_below k)

tail-requires-2 : tie.Need-tail-end-requires
tail-requires-2 c κs =
    omega (arith, (pair0 c.before.before).tail_below)

-- its tail, once that is known to be a pair too
kind1 : (c : tie.After-tail-end) → kind_at c.args.table.now (tail_at c.args.table.now 0) ≡ 4
kind1 c =
    sym (c.kind-2.ensures ∙ ap (kind_at c.args.table.now) c.tail-second.ensures) ∙ c.if-kind-ne-PAIR-2.false

pair1 : (c : tie.After-tail-end) → PairItem c.args.table.now c.args.n (tail_at c.args.table.now 0)
pair1 c =
    let ws = c.args.table.now in
    pair_at ws c.args.n c.requires.0 c.requires.2 (tail_at ws 0) (pair0 c.before.before.before).tail_below (kind1 c)

end : (c : tie.After-tail-end) → c.tail-end.result ≡ tail_at c.args.table.now (tail_at c.args.table.now 0)
end c = c.tail-end.ensures ∙ ap (tail_at c.args.table.now) c.tail-second.ensures

kind-requires-3 : tie.Need-kind-requires-3
kind-requires-3 c κs =
    omega (arith, (pair1 c).tail_below, end c)

returns-3 : tie.Need-returns-then-kind-ne-EMPTY
returns-3 c =
    let a = c.args in let ws = a.table.now in let k = list-kind (kind_at ws (tail_at ws (tail_at ws 0))) (pair1 c.before.before).tail_kind (λ q. c.if-kind-ne-EMPTY.true (c.kind-3.ensures ∙ (ap (kind_at ws) (end c.before.before) ∙ q))) in
    sym (three ws a.n c.requires.0 c.requires.2 c.requires.1 (kind0 c.before.before.before.before.before) (pair0 c.before.before.before.before.before).tail_below (kind1 c.before.before) (pair1 c.before.before).tail_below k)

kind-requires-4 : tie.Need-kind-requires-4
kind-requires-4 c κs =
    omega (arith, (pair0 c.before.before.before.before.before.before).head_below)

returns-4 : tie.Need-returns
returns-4 c =
    let a = c.args in let ws = a.table.now in let k : kind_at ws (tail_at ws (tail_at ws 0)) ≡ 0 = sym (c.kind-3.ensures ∙ ap (kind_at ws) (end c.before.before.before.before.before)) ∙ c.if-kind-ne-EMPTY.false in
    c.is_list_kind.ensures ∙ ap is_list_kind (c.kind-4.ensures ∙ ap (kind_at ws) c.head-first.ensures)
    ∙ sym (two ws a.n c.requires.0 c.requires.2 c.requires.1 (kind0 c.before.before.before.before.before.before.before.before) (pair0 c.before.before.before.before.before.before.before.before).tail_below (kind1 c.before.before.before.before.before) (pair1 c.before.before.before.before.before).tail_below k (pair0 c.before.before.before.before.before.before.before.before).head_below)

pub begins_two_spec : {M : Type 1} → statement M
begins_two_spec =
    tie.close
    (tie.spec
    (λ c κs. search rules)  -- kind-requires
    returns
    (λ c κs. search rules)  -- tail-requires
    kind-requires-2
    returns-2
    tail-requires-2
    kind-requires-3
    returns-3
    (λ c κs. search rules)  -- head-requires
    kind-requires-4
    (λ c κs. search rules)  -- is-list-kind-requires
    returns-4)
