use Rattle.std.proofs.Common.{sym, ◌∙◌, arith}
use Rattle.std.proofs.lemmas.Bool.{false≢true}
use Rattle.recipe.specs.TreeLaws.{size-positive}
use Rattle.arena.specs.Arena.{tree_at}
use Rattle.rule_cells.specs.ParseLaws.{asks-head, asks-tail, asks_rest, room-pair, head-below, rest_below}
use Rattle.rule_cells.specs.PatternLaws.{pair-here, left-leaf, left-taken, left-crowded, left-bad, made-head, left-bad-rest, made-rest, left-list, small-head, small-tail, small-rest, literals-still, dots-still, begins-still}
use Rattle.rule_cells.specs.Scopes.{dots_of, literals_of}
use Rattle.rule_cells.proofs.patterns.+pattern.Goals as goal

pub pattern_leaf-requires : goal.pattern_leaf-requires
pattern_leaf-requires t c =
    let a = c.args in
    let p = c.requires in
    (p.0, omega (arith, p.3, size-positive (tree_at a.work.now a.node a.form.wrap)), λ z. c.if-word-ne-PAIR.true (c.word.ensures ∙ z))

pub returns-then-word-ne-PAIR : goal.returns-then-word-ne-PAIR
returns-then-word-ne-PAIR t c =
    let a = c.args in
    left-leaf (dots_of a.work.now a.form) (literals_of a.work.now a.form) a.k a.taken a.work.now a.node a.form.wrap a.top c.pattern_leaf.new.work c.pattern_leaf.result (λ z. c.if-word-ne-PAIR.true (c.word.ensures ∙ z)) c.pattern_leaf.ensures

pub pattern-requires : goal.pattern-requires
pattern-requires t c =
    let a = c.args in
    let p = c.requires in
    let here = pair-here a.work.now a.form a.node a.top p.0 p.1 p.2 (sym c.word.ensures ∙ c.if-word-ne-PAIR.false) c.reference-head.ensures c.reference-rest.ensures in
    (omega (arith, c.decreases, rest_below a.work.now a.node a.form.wrap a.top here.asks _ _ here.is-pair here.head-is here.rest-is), (asks-tail a.work.now a.node a.form.wrap a.top here.asks _ _ here.is-pair here.head-is here.rest-is, p.1, p.2, small-tail here a.k p.3, λ z. absurd (false≢true z)))

pub returns-then-taken : goal.returns-then-taken
returns-then-taken t c =
    let a = c.args in
    let p = c.requires in
    let here = pair-here a.work.now a.form a.node a.top p.0 p.1 p.2 (sym c.word.ensures ∙ c.if-word-ne-PAIR.false) c.reference-head.ensures c.reference-rest.ensures in
    left-taken here a.k a.taken c.pattern.new.work c.pattern.result c.if-taken.true p.4 c.pattern.ensures

pub returns-then-crowded : goal.returns-then-crowded
returns-then-crowded t c =
    let a = c.args in
    let p = c.requires in
    let here = pair-here a.work.now a.form a.node a.top p.0 p.1 p.2 (sym c.word.ensures ∙ c.if-word-ne-PAIR.false) c.reference-head.ensures c.reference-rest.ensures in
    left-crowded here a.k c.if-taken.false c.dots_next-followed.ensures (sym c.if-crowded.true ∙ c.crowded.ensures)

pub pattern-requires-2 : goal.pattern-requires-2
pattern-requires-2 t c =
    let a = c.args in
    let p = c.requires in
    let here = pair-here a.work.now a.form a.node a.top p.0 p.1 p.2 (sym c.word.ensures ∙ c.if-word-ne-PAIR.false) c.reference-head.ensures c.reference-rest.ensures in
    (omega (arith, c.decreases, head-below a.work.now a.node a.form.wrap a.top here.asks _ _ here.is-pair here.head-is here.rest-is), (asks-head a.work.now a.node a.form.wrap a.top here.asks _ _ here.is-pair here.head-is here.rest-is, p.1, p.2, small-head here a.k p.3, λ z. absurd (false≢true z)))

pub returns-in_err-element : goal.returns-in_err-element
returns-in_err-element t c =
    let a = c.args in
    let p = c.requires in
    let here = pair-here a.work.now a.form a.node a.top p.0 p.1 p.2 (sym c.word.ensures ∙ c.if-word-ne-PAIR.false) c.reference-head.ensures c.reference-rest.ensures in
    rw c.from_residual.ensures (left-bad here a.k c.if-taken.false c.dots_next-followed.ensures c.pattern-2.new.work _ c.in_err-element.was c.pattern-2.ensures)

pub pattern-requires-3 : goal.pattern-requires-3
pattern-requires-3 t c =
    let a = c.args in
    let p = c.requires in
    let here = pair-here a.work.now a.form a.node a.top p.0 p.1 p.2 (sym c.word.ensures ∙ c.if-word-ne-PAIR.false) c.reference-head.ensures c.reference-rest.ensures in
    let untaken = c.if-taken.false in
    let next = c.dots_next-followed.ensures in
    let head = made-head here a.k untaken next c.pattern-2.new.work _ _ c.in_ok-element.was c.pattern-2.ensures in
    let same = c.pattern-2.auto.work in
    (omega (arith, c.decreases, rest_below a.work.now a.node a.form.wrap a.top here.asks _ _ here.is-pair here.head-is here.rest-is), (asks_rest a.work.now a.node a.form.wrap a.top here.asks _ _ here.is-pair here.head-is here.rest-is _ _ _ same head.grows, dots-still here a.k untaken next same head, literals-still here a.k untaken next same head, small-rest here a.k untaken next same head p.3, begins-still here a.k untaken next same head))

pub returns-in_err-later : goal.returns-in_err-later
returns-in_err-later t c =
    let a = c.args in
    let p = c.requires in
    let here = pair-here a.work.now a.form a.node a.top p.0 p.1 p.2 (sym c.word.ensures ∙ c.if-word-ne-PAIR.false) c.reference-head.ensures c.reference-rest.ensures in
    let untaken = c.if-taken.false in
    let next = c.dots_next-followed.ensures in
    let head = made-head here a.k untaken next c.pattern-2.new.work _ _ c.in_ok-element.was c.pattern-2.ensures in
    rw c.from_residual-in_err-later.ensures (left-bad-rest here a.k untaken next c.pattern-2.auto.work head c.pattern-3.new.work _ c.in_err-later.was c.pattern-3.ensures)

pub put_list-r-requires : goal.put_list-r-requires
put_list-r-requires t c =
    let a = c.args in
    let p = c.requires in
    let here = pair-here a.work.now a.form a.node a.top p.0 p.1 p.2 (sym c.word.ensures ∙ c.if-word-ne-PAIR.false) c.reference-head.ensures c.reference-rest.ensures in
    let untaken = c.if-taken.false in
    let next = c.dots_next-followed.ensures in
    let head = made-head here a.k untaken next c.pattern-2.new.work _ _ c.in_ok-element.was c.pattern-2.ensures in
    let later = made-rest here a.k untaken next c.pattern-2.auto.work head c.pattern-3.new.work _ _ c.in_ok-later.was c.pattern-3.ensures in
    (room-pair a.work.now a.node a.form.wrap a.top here.asks _ _ here.is-pair here.head-is here.rest-is _ _ _ c.pattern-2.auto.work head.grows _ _ _ c.pattern-3.auto.work later.grows, omega (arith, head.grows.at_most, later.grows.up), later.grows.at_most)

pub returns : goal.returns
returns t c =
    let a = c.args in
    let p = c.requires in
    let here = pair-here a.work.now a.form a.node a.top p.0 p.1 p.2 (sym c.word.ensures ∙ c.if-word-ne-PAIR.false) c.reference-head.ensures c.reference-rest.ensures in
    let untaken = c.if-taken.false in
    let next = c.dots_next-followed.ensures in
    let head = made-head here a.k untaken next c.pattern-2.new.work _ _ c.in_ok-element.was c.pattern-2.ensures in
    let later = made-rest here a.k untaken next c.pattern-2.auto.work head c.pattern-3.new.work _ _ c.in_ok-later.was c.pattern-3.ensures in
    left-list here a.k untaken next c.pattern-2.auto.work head _ _ _ _ _ _ _ (sym c.if-crowded.false ∙ c.crowded.ensures) (c.following-count.ensures a.form.wrap) later c.put_list-r.ensures.0
