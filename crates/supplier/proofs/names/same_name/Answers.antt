use mathlib.Core.Path.{ap, ◌∙◌}
use native.Mathlib.Omega.{arith}
use Rattle.words.specs.Lists.{equal}
use Rattle.datum.specs.NameTable.{length_at, name_at}
use Rattle.supplier.specs.NamesLaws.{part-name}
use Rattle.supplier.proofs.names.same_name.Goals as goal

pub overflow_add-to : goal.overflow_add-to
unfolding length_at
overflow_add-to c =
    let pre = c.requires in
    omega (arith, pre.0.0, pre.0.1, c.well_formed.0)

pub slice_bounds-spells-end : goal.slice_bounds-spells-end
unfolding length_at
slice_bounds-spells-end c =
    let pre = c.requires in
    omega (arith, pre.0.0, pre.0.1)

pub returns : goal.returns
returns c =
    let args = c.args in
    c.spells.ensures ∙ ap (λ w. equal w (name_at args.ours.now args.m)) (part-name args.theirs.now args.n _ (omega arith))
