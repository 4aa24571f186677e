-- `base_forms::condition`, by its shape.
use borrow.Author.Rules.{rules}
use mathlib.Core.Path.{refl, sym, ◌∙◌}
use borrow.Author.Tests.{not-true, not-false}
use Rattle.turns.proofs.base_forms.condition.Goals as goal

pub returns-then-not-is_list_of : goal.returns-then-not-is_list_of
returns-then-not-is_list_of c = ((λ u. sym (c.is_list_of.ensures u) ∙ not-true _ c.if-not-is_list_of.true-raw), c.refused.ensures)

pub returns : goal.returns
returns c = (refl, refl, (λ u. sym (c.is_list_of.ensures u) ∙ not-false _ c.if-not-is_list_of.false-raw), c.put_if.ensures)
