use Rattle.recipe.specs.Table.{item_count}
use Rattle.arena.specs.LayOut.{most, Laid, laid-all}
use Rattle.std.proofs.Common.{◌≡◌, ℕ, ◌/◌, length, refl, subst, arith}
use Rattle.arena.proofs.item_nodes.lay_out.Goals as goal

pub overflow_cast-count : goal.overflow_cast-count
unfolding item_count
overflow_cast-count c =
    let a = c.args in
    let pre = c.requires in
    omega (arith, most a.items.now pre.0)

pub lay_item-requires : goal.lay_item-requires
unfolding item_count
lay_item-requires c =
    let a = c.args in
    let pre = c.requires in
    record { layout = pre.0; count-is = refl; more = c.loop-laid-test.true; fits = omega (arith, pre.1, c.loop-laid.invariant.1); laid = c.loop-laid.invariant.2 }

pub overflow_mul-result : goal.overflow_mul-result
unfolding item_count
overflow_mul-result c =
    let a = c.args in
    let pre = c.requires in
    omega (arith, most a.items.now pre.0)

pub returns : goal.returns
unfolding item_count
returns c =
    let a = c.args in
    let pre = c.requires in
    let e : c.loop-laid.laid ≡ length a.items.now / 3 = omega (arith, c.loop-laid.invariant.0) in laid-all a.items.now _ _ pre.0 refl (subst (λ (n : ℕ). Laid a.items.now c.loop-laid.work n) e c.loop-laid.invariant.2)
