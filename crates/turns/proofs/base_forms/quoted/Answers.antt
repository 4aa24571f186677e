-- `base_forms::quoted`: its shape, then the datum's words.
use borrow.Author.Rules.{rules}
use mathlib.Core.Path.{sym, ◌∙◌}
use borrow.Author.Tests.{not-true, not-false}
use Rattle.turns.specs.QuotedLaws.{quote-refused, quote-room, quote-small, quote-made}
use Rattle.turns.proofs.base_forms.quoted.Goals as goal

pub returns-then-not-is_list_of : goal.returns-then-not-is_list_of
returns-then-not-is_list_of c = let a = c.args in
    quote-refused a.work.now a.core.now a.node a.reached _ (λ w. sym (c.is_list_of.ensures w) ∙ not-true _ c.if-not-is_list_of.true-raw) c.refused.ensures

pub quote-at-requires : goal.quote-at-requires
quote-at-requires c = let a = c.args in
    quote-room a.work.now a.core.now a.node a.reached _ c.element-datum.ensures c.requires

pub overflow_cast-at : goal.overflow_cast-at
overflow_cast-at c = let a = c.args in
    record { fits = quote-small a.work.now a.core.now a.node a.reached _ c.element-datum.ensures c.requires _ c.quote-at.ensures.end }

pub returns : goal.returns
returns c = let a = c.args in
    quote-made a.work.now a.core.now a.node a.reached _ c.element-datum.ensures _ _ (λ w. sym (c.is_list_of.ensures w) ∙ not-false _ c.if-not-is_list_of.false-raw) c.quote-at.ensures _ c.moved.ensures
