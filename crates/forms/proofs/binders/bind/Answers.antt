-- `binders::bind`: the names of the form's second element.
use Rattle.std.proofs.Common.{sym, ap, subst, ◌∙◌}
use Rattle.arena.specs.Arena.{tree_at}
use Rattle.forms.specs.Binders.{AllNames, names_in, bound_names, binds_to}
use Rattle.forms.proofs.ScopeLaws.{all-names, names-are, space-list, scoped-names}
use Rattle.forms.proofs.binders.bind.Goals as goal

pub bind_names-requires : goal.bind_names-requires
bind_names-requires c =
    let a = c.args in
    let t = tree_at a.work.now a.node a.wrap in
    let same = c.element-list.ensures.is a.wrap in (
      subst (AllNames a.bound) (sym same) (all-names a.bound t c.requires.0),
      space-list _ (bound_names a.bound t) a.work.now a.node a.wrap a.first a.wrap a.top _ (ap (names_in a.bound) same ∙ names-are a.bound t c.requires.0) c.element-list.ensures.low c.requires.1,
    )

pub returns : goal.returns
returns c =
    let a = c.args in
    let t = tree_at a.work.now a.node a.wrap in
    scoped-names (binds_to a.bound) a.first _ (bound_names a.bound t) a.wrap a.work.now _ a.top _ _ (ap (names_in a.bound) (c.element-list.ensures.is a.wrap) ∙ names-are a.bound t c.requires.0) c.bind_names.ensures
