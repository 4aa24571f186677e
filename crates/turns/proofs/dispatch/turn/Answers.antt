-- `dispatch::turn`, by what the node is.
use Rattle.std.specs.Prelude.{Ok}
use Rattle.arena.specs.Arena.{name_at}
use Rattle.words.specs.Limits.{macros_most}
use Rattle.std.proofs.Common.{subst}
use Rattle.std.proofs.lemmas.Result.{err_from_is_err_and}
use Rattle.turns.specs.Turns.{Ends}
use Rattle.turns.specs.Leaves.{Leaf, name_end}
use Rattle.turns.specs.LeafLaws.{found_in}
use Rattle.turns.specs.DispatchLaws.{opened-as, empty-over, name-over, constant-over, constant-kind, leaf_room, constant-room}
use Rattle.turns.proofs.dispatch.turn.Goals as goal

pub bare_name-requires : goal.bare_name-requires
bare_name-requires c = let a = c.args in leaf_room a.work.now a.core.now a.macros.now a.fuel a.node a.wrap a.reached c.requires.1 c.requires.0

pub list-requires : goal.list-requires
list-requires c = let a = c.args in (c.requires.0, c.requires.1, opened-as a.work.now a.node _ _ c.in-Pair.is c.opened.ensures)

pub constant-requires : goal.constant-requires
constant-requires c = let a = c.args in (constant-room a.work.now a.core.now a.macros.now a.fuel a.node a.wrap a.reached c.requires.1 c.requires.0, constant-kind a.work.now a.reached.top a.node a.wrap _ _ _ (opened-as a.work.now a.node _ _ c.in-Constant.is c.opened.ensures) c.requires.0)

pub returns-in-Empty : goal.returns-in-Empty
returns-in-Empty c = let a = c.args in
    λ operations lent. empty-over macros_most operations a.work.now a.core.now a.macros.now a.fuel a.node a.wrap a.reached c.requires.1 (opened-as a.work.now a.node _ _ c.in-Empty.is c.opened.ensures) _ c.refused.ensures

pub returns-in_ok-done-in-Name : goal.returns-in_ok-done-in-Name
returns-in_ok-done-in-Name c =
    let a = c.args in
    λ operations lent. subst (Ends _ _ _ _ _ _ _) c.in_ok-done-in-Name.was
    (name-over macros_most operations a.work.now a.core.now a.macros.now a.fuel a.node a.wrap a.reached c.requires.1 _ _ _ (opened-as a.work.now a.node _ _ c.in-Name.is c.opened.ensures) c.bare_name.result
    (found_in operations a.operations.now (name_at a.work.now a.node a.wrap) lent (λ f. Leaf (name_end f) 2 a.reached a.core.now c.bare_name.new.core c.bare_name.result) c.bare_name.ensures))

pub returns-in_err-done-in-Name : goal.returns-in_err-done-in-Name
returns-in_err-done-in-Name c =
    let a = c.args in
    let p = err_from_is_err_and c.from_residual.result c.from_residual.ensures.1 in
    λ operations lent. rw (p.1, p.2) (subst (Ends _ _ _ _ _ _ _) c.in_err-done-in-Name.was
    (name-over macros_most operations a.work.now a.core.now a.macros.now a.fuel a.node a.wrap a.reached c.requires.1 _ _ _ (opened-as a.work.now a.node _ _ c.in-Name.is c.opened.ensures) c.bare_name.result
    (found_in operations a.operations.now (name_at a.work.now a.node a.wrap) lent (λ f. Leaf (name_end f) 2 a.reached a.core.now c.bare_name.new.core c.bare_name.result) c.bare_name.ensures)))

pub returns-in-Constant : goal.returns-in-Constant
returns-in-Constant c = let a = c.args in
    λ operations lent. constant-over macros_most operations a.work.now a.core.now a.macros.now a.fuel a.node a.wrap a.reached c.requires.1 _ _ _ _ (opened-as a.work.now a.node _ _ c.in-Constant.is c.opened.ensures) (Ok c.constant.result) c.constant.ensures
