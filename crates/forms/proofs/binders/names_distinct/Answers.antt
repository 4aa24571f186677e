-- `binders::names_distinct`: the names of the form's second element.
use Rattle.std.proofs.Common.{sym, ap, subst, ◌∙◌}
use Rattle.recipe.specs.Name.{distinct}
use Rattle.recipe.specs.Tree.{Tree}
use Rattle.arena.specs.Arena.{tree_at}
use Rattle.forms.specs.Binders.{AllNames, names_in}
use Rattle.forms.proofs.ScopeLaws.{all-names, names-are}
use Rattle.forms.proofs.binders.names_distinct.Goals as goal

pub are_distinct-requires : goal.are_distinct-requires
are_distinct-requires c =
    let a = c.args in
    subst (AllNames a.bound) (sym (c.element-list.ensures.is a.wrap)) (all-names a.bound (tree_at a.work.now a.node a.wrap) c.requires)

pub returns : goal.returns
returns c =
    let a = c.args in
    c.are_distinct.ensures
    ∙ ap (λ (u : Tree). distinct (names_in a.bound u)) (c.element-list.ensures.is a.wrap)
    ∙ ap distinct (names-are a.bound (tree_at a.work.now a.node a.wrap) c.requires)
