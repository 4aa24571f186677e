-- `taken::bind`: the row, then the entries.
use Rattle.std.proofs.Common.{arith, rules}
use Rattle.environments.proofs.taken.bind.Statement.{statement}
use Rattle.environments.proofs.taken.bind.Tie as tie
use Rattle.environments.specs.BindingLaws.{bind-small, bind-fillable, bind-words, bound-to}

slots-requires : tie.Need-slots-width-requires
slots-requires c κs =
    omega (arith, c.requires.room.small)

add-t12 : tie.Need-overflow_add-top
add-t12 c =
    let s = bind-small c.args.work.now c.args.env.now c.args.p c.args.u c.args.top _ c.requires c.slots-width.ensures in omega (arith, s)

fill-requires : tie.Need-fill-y-requires
fill-requires c κs =
    bind-fillable c.args.work.now c.args.env.now c.args.p c.args.u c.args.top _ c.requires c.slots-width.ensures

columns-requires : tie.Need-columns-requires
columns-requires c κs =
    bind-words c.args.work.now c.args.env.now c.args.p c.args.u c.args.top _ c.requires c.slots-width.ensures

same_length : tie.Need-shape_of-work
same_length c =
    search rules

returns : tie.Need-returns
returns c =
    bound-to c.args.work.now c.args.env.now c.args.p c.args.u c.args.top _ c.requires c.slots-width.ensures _ _ c.fill-y.ensures _ _ c.columns.ensures

pub bind_spec : {M : Type 1} → statement M
bind_spec =
    tie.close (tie.spec slots-requires add-t12 fill-requires columns-requires same_length returns)
