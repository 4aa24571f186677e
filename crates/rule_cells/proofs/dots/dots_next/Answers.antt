-- `dots::dots_next`: a pair whose head is the ellipsis.
use mathlib.Core.Path.{sym, ◌∙◌}
use Rattle.rule_cells.specs.Dots.{next-pair, next-other}
use Rattle.rule_cells.proofs.dots.dots_next.Goals as goal

pub returns-then-word-ne-PAIR : goal.returns-then-word-ne-PAIR
returns-then-word-ne-PAIR c =
    let a = c.args in next-other a.work.now a.dots a.w a.node (λ z. c.if-word-ne-PAIR.true (c.word.ensures ∙ z))

pub returns : goal.returns
returns c =
    let a = c.args in next-pair a.work.now a.dots a.w a.node _ _ (sym c.word.ensures ∙ c.if-word-ne-PAIR.false) c.reference-first.ensures c.is_dots.ensures
