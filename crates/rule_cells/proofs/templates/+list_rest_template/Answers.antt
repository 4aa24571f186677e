use Rattle.std.proofs.Common.{refl, sym, ◌∙◌, arith}
use Rattle.arena.specs.Arena.{tree_at}
use Rattle.rule_cells.specs.GatherLaws.{deeper-most}
use Rattle.rule_cells.specs.VariableLaws.{deeper-by}
use Rattle.rule_cells.specs.ParseLaws.{asks-head, asks-tail, asks_rest, room-pair, head-below, rest_below}
use Rattle.rule_cells.specs.Parse.{rest_place}
use Rattle.rule_cells.specs.TemplateLaws.{template-here, left-leaf, left-taken, left-bad, made-head, left-undriven, under-still, dots-still, left-bad-rest, made-rest, left-list, left-plain, left-unescaped, inside-below, asks-inside, left-escape}
use Rattle.rule_cells.specs.Scopes.{dots_under, variables_under}
use Rattle.rule_cells.proofs.templates.+list_rest_template.Goals as goal

pub list_rest-returns-then-word-ne-PAIR : goal.list_rest-returns-then-word-ne-PAIR
list_rest-returns-then-word-ne-PAIR t c =
    let a = c.args in
    left-leaf (dots_under a.work.now a.scope) (variables_under a.work.now a.vars.now a.scope) a.scope.d (rest_place a.taken) a.work.now a.node a.scope.wrap a.top c.template_leaf.new.work c.template_leaf.result (λ z. c.if-word-ne-PAIR.true (c.word.ensures ∙ z)) c.template_leaf.ensures

pub list_rest-list_rest-requires : goal.list_rest-list_rest-requires
list_rest-list_rest-requires t c =
    let a = c.args in
    let p = c.requires in
    let here = template-here a.work.now a.vars.now a.scope a.node a.top p.0 p.3 p.4 (sym c.word.ensures ∙ c.if-word-ne-PAIR.false) c.reference-head.ensures c.reference-rest.ensures in
    let below = rest_below a.work.now a.node a.scope.wrap a.top here.asks _ _ here.is-pair here.head-is here.rest-is in
    (omega (arith, c.decreases, below), (asks-tail a.work.now a.node a.scope.wrap a.top here.asks _ _ here.is-pair here.head-is here.rest-is, p.1, p.2, p.3, p.4, omega (arith, p.5, below)))

pub list_rest-returns-then-taken : goal.list_rest-returns-then-taken
list_rest-returns-then-taken t c =
    let a = c.args in
    let p = c.requires in
    let here = template-here a.work.now a.vars.now a.scope a.node a.top p.0 p.3 p.4 (sym c.word.ensures ∙ c.if-word-ne-PAIR.false) c.reference-head.ensures c.reference-rest.ensures in
    left-taken here a.taken c.list_rest.new.work c.list_rest.result c.if-taken.true c.list_rest.ensures

pub list_rest-element_depth-requires : goal.list_rest-element_depth-requires
list_rest-element_depth-requires t c =
    let a = c.args in
    let p = c.requires in
    let here = template-here a.work.now a.vars.now a.scope a.node a.top p.0 p.3 p.4 (sym c.word.ensures ∙ c.if-word-ne-PAIR.false) c.reference-head.ensures c.reference-rest.ensures in
    omega (arith, p.5, head-below a.work.now a.node a.scope.wrap a.top here.asks _ _ here.is-pair here.head-is here.rest-is)

pub list_rest-template-requires : goal.list_rest-template-requires
list_rest-template-requires t c =
    let a = c.args in
    let p = c.requires in
    let here = template-here a.work.now a.vars.now a.scope a.node a.top p.0 p.3 p.4 (sym c.word.ensures ∙ c.if-word-ne-PAIR.false) c.reference-head.ensures c.reference-rest.ensures in
    let below = head-below a.work.now a.node a.scope.wrap a.top here.asks _ _ here.is-pair here.head-is here.rest-is in
    let untaken = c.if-taken.false in
    let next = c.dots_next-followed.ensures in
    let deeper = deeper-by (dots_under a.work.now a.scope) (tree_at a.work.now _ a.scope.wrap) a.scope.d _ _ c.element_depth.ensures next in
    (omega (arith, c.decreases, below), (asks-head a.work.now a.node a.scope.wrap a.top here.asks _ _ here.is-pair here.head-is here.rest-is, p.1, p.2, p.3, p.4, omega (arith, p.5, below, deeper-most _ _ _ _ deeper)))

pub list_rest-returns-in_err-element : goal.list_rest-returns-in_err-element
list_rest-returns-in_err-element t c =
    let a = c.args in
    let p = c.requires in
    let here = template-here a.work.now a.vars.now a.scope a.node a.top p.0 p.3 p.4 (sym c.word.ensures ∙ c.if-word-ne-PAIR.false) c.reference-head.ensures c.reference-rest.ensures in
    let untaken = c.if-taken.false in
    let next = c.dots_next-followed.ensures in
    let deeper = deeper-by (dots_under a.work.now a.scope) (tree_at a.work.now _ a.scope.wrap) a.scope.d _ _ c.element_depth.ensures next in
    rw c.from_residual.ensures (left-bad here untaken next deeper c.template.new.work c.template.result c.in_err-element.was c.template.ensures)

pub list_rest-returns-then-not-accepted : goal.list_rest-returns-then-not-accepted
list_rest-returns-then-not-accepted t c =
    let a = c.args in
    let p = c.requires in
    let here = template-here a.work.now a.vars.now a.scope a.node a.top p.0 p.3 p.4 (sym c.word.ensures ∙ c.if-word-ne-PAIR.false) c.reference-head.ensures c.reference-rest.ensures in
    let untaken = c.if-taken.false in
    let next = c.dots_next-followed.ensures in
    let deeper = deeper-by (dots_under a.work.now a.scope) (tree_at a.work.now _ a.scope.wrap) a.scope.d _ _ c.element_depth.ensures next in
    let head = made-head here untaken next deeper c.template.new.work c.template.result _ c.in_ok-element.was c.template.ensures in
    left-undriven here untaken next deeper c.template.auto.work head (sym c.if-not-accepted.true ∙ c.accepted.ensures)

pub list_rest-list_rest-requires-2 : goal.list_rest-list_rest-requires-2
list_rest-list_rest-requires-2 t c =
    let a = c.args in
    let p = c.requires in
    let here = template-here a.work.now a.vars.now a.scope a.node a.top p.0 p.3 p.4 (sym c.word.ensures ∙ c.if-word-ne-PAIR.false) c.reference-head.ensures c.reference-rest.ensures in
    let untaken = c.if-taken.false in
    let next = c.dots_next-followed.ensures in
    let deeper = deeper-by (dots_under a.work.now a.scope) (tree_at a.work.now _ a.scope.wrap) a.scope.d _ _ c.element_depth.ensures next in
    let head = made-head here untaken next deeper c.template.new.work c.template.result _ c.in_ok-element.was c.template.ensures in
    let same = c.template.auto.work in
    let below = rest_below a.work.now a.node a.scope.wrap a.top here.asks _ _ here.is-pair here.head-is here.rest-is in
    (omega (arith, c.decreases, below), (asks_rest a.work.now a.node a.scope.wrap a.top here.asks _ _ here.is-pair here.head-is here.rest-is _ _ _ same head.grows, p.1, p.2, under-still here untaken next deeper same head, dots-still here untaken next deeper same head, omega (arith, p.5, below)))

pub list_rest-returns-in_err-later : goal.list_rest-returns-in_err-later
list_rest-returns-in_err-later t c =
    let a = c.args in
    let p = c.requires in
    let here = template-here a.work.now a.vars.now a.scope a.node a.top p.0 p.3 p.4 (sym c.word.ensures ∙ c.if-word-ne-PAIR.false) c.reference-head.ensures c.reference-rest.ensures in
    let untaken = c.if-taken.false in
    let next = c.dots_next-followed.ensures in
    let deeper = deeper-by (dots_under a.work.now a.scope) (tree_at a.work.now _ a.scope.wrap) a.scope.d _ _ c.element_depth.ensures next in
    let head = made-head here untaken next deeper c.template.new.work c.template.result _ c.in_ok-element.was c.template.ensures in
    rw c.from_residual-in_err-later.ensures (left-bad-rest here untaken next deeper c.template.auto.work head c.list_rest-2.new.work c.list_rest-2.result c.in_err-later.was c.list_rest-2.ensures)

pub list_rest-put_list-r-requires : goal.list_rest-put_list-r-requires
list_rest-put_list-r-requires t c =
    let a = c.args in
    let p = c.requires in
    let here = template-here a.work.now a.vars.now a.scope a.node a.top p.0 p.3 p.4 (sym c.word.ensures ∙ c.if-word-ne-PAIR.false) c.reference-head.ensures c.reference-rest.ensures in
    let untaken = c.if-taken.false in
    let next = c.dots_next-followed.ensures in
    let deeper = deeper-by (dots_under a.work.now a.scope) (tree_at a.work.now _ a.scope.wrap) a.scope.d _ _ c.element_depth.ensures next in
    let head = made-head here untaken next deeper c.template.new.work c.template.result _ c.in_ok-element.was c.template.ensures in
    let later = made-rest here untaken next deeper c.template.auto.work head c.list_rest-2.new.work c.list_rest-2.result _ c.in_ok-later.was c.list_rest-2.ensures in
    (room-pair a.work.now a.node a.scope.wrap a.top here.asks _ _ here.is-pair here.head-is here.rest-is _ _ _ c.template.auto.work head.grows _ _ _ c.list_rest-2.auto.work later.grows, omega (arith, head.grows.at_most, later.grows.up), later.grows.at_most)

pub list_rest-returns : goal.list_rest-returns
list_rest-returns t c =
    let a = c.args in
    let p = c.requires in
    let here = template-here a.work.now a.vars.now a.scope a.node a.top p.0 p.3 p.4 (sym c.word.ensures ∙ c.if-word-ne-PAIR.false) c.reference-head.ensures c.reference-rest.ensures in
    let untaken = c.if-taken.false in
    let next = c.dots_next-followed.ensures in
    let deeper = deeper-by (dots_under a.work.now a.scope) (tree_at a.work.now _ a.scope.wrap) a.scope.d _ _ c.element_depth.ensures next in
    let head = made-head here untaken next deeper c.template.new.work c.template.result _ c.in_ok-element.was c.template.ensures in
    let later = made-rest here untaken next deeper c.template.auto.work head c.list_rest-2.new.work c.list_rest-2.result _ c.in_ok-later.was c.list_rest-2.ensures in
    left-list here untaken next deeper c.template.auto.work head _ _ _ _ _ (sym c.if-not-accepted.false ∙ c.accepted.ensures) later c.put_list-r.ensures.1

pub template-template-requires : goal.template-template-requires
template-template-requires t c =
    let a = c.args in
    let p = c.requires in
    let here = template-here a.work.now a.vars.now a.scope a.node a.top p.0 p.3 p.4 (sym c.word.ensures ∙ c.if-word-ne-PAIR.false) refl c.reference-rest.ensures in
    let below = inside-below here c.first-inside.ensures in
    (omega (arith, c.decreases, below), (asks-inside here c.first-inside.ensures, p.1, p.2, p.3, tt, omega (arith, p.5, below)))

pub template-returns-then-is_list_of : goal.template-returns-then-is_list_of
template-returns-then-is_list_of t c =
    let a = c.args in
    let p = c.requires in
    let here = template-here a.work.now a.vars.now a.scope a.node a.top p.0 p.3 p.4 (sym c.word.ensures ∙ c.if-word-ne-PAIR.false) refl c.reference-rest.ensures in
    left-escape here c.first-inside.ensures c.template.new.work c.template.result (sym c.if-dots_next.true ∙ c.dots_next.ensures) (sym c.if-is_list_of.true ∙ c.is_list_of.ensures a.scope.wrap) c.template.ensures

pub template-returns-then-dots_next : goal.template-returns-then-dots_next
template-returns-then-dots_next t c =
    let a = c.args in
    let p = c.requires in
    let here = template-here a.work.now a.vars.now a.scope a.node a.top p.0 p.3 p.4 (sym c.word.ensures ∙ c.if-word-ne-PAIR.false) refl c.reference-rest.ensures in
    left-unescaped here (sym c.if-dots_next.true ∙ c.dots_next.ensures) (sym c.if-is_list_of.false ∙ c.is_list_of.ensures a.scope.wrap)

pub template-returns : goal.template-returns
unfolding rest_place
template-returns t c =
    let a = c.args in
    let p = c.requires in
    let here = template-here a.work.now a.vars.now a.scope a.node a.top p.0 p.3 p.4 (sym c.word.ensures ∙ c.if-word-ne-PAIR.false) refl refl in
    left-plain here c.list_rest.new.work c.list_rest.result (sym c.if-dots_next.false ∙ c.dots_next.ensures) c.list_rest.ensures
