-- `dots::is_dots`: a name that is the ellipsis.
use mathlib.Core.Path.{sym, ◌∙◌}
use Rattle.rule_cells.specs.Dots.{dots-name, dots-other}
use Rattle.rule_cells.proofs.dots.is_dots.Goals as goal

pub returns-then-word-ne-NAME : goal.returns-then-word-ne-NAME
returns-then-word-ne-NAME c =
    let a = c.args in dots-other a.work.now a.dots a.w a.node (λ z. c.if-word-ne-NAME.true (c.word.ensures ∙ z))

pub returns : goal.returns
returns c =
    let a = c.args in dots-name a.work.now a.dots a.w a.node _ (sym c.word.ensures ∙ c.if-word-ne-NAME.false) c.is_ellipsis.ensures
