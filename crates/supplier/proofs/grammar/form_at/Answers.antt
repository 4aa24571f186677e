use Rattle.supplier.specs.ItemsLaws.{held_in}
use Rattle.supplier.specs.ListLaws.{form-other, form-low, form-high}
use Rattle.std.proofs.Common.{sym, ◌∙◌, arith}
use Rattle.supplier.specs.Forms.{form_number}
use Rattle.supplier.proofs.grammar.form_at.Goals as goal

pub kind-requires : goal.kind-requires
kind-requires c = held_in _ _ c.requires

pub returns-then-kind-ne-NAME : goal.returns-then-kind-ne-NAME
unfolding form_number
returns-then-kind-ne-NAME c = form-other _ _ _ c.kind.ensures c.if-kind-ne-NAME.true

pub head-requires : goal.head-requires
head-requires c = held_in _ _ c.requires

pub returns-in-0 : goal.returns-in-0
unfolding form_number
returns-in-0 c =
    let low = form-low _ _ _ c.kind.ensures c.if-kind-ne-NAME.false _ c.head.ensures (omega (arith, c.in-0.is)) in
    λ d o. sym c.in-0.is ∙ low d o

pub returns-in-1 : goal.returns-in-1
unfolding form_number
returns-in-1 c =
    let low = form-low _ _ _ c.kind.ensures c.if-kind-ne-NAME.false _ c.head.ensures (omega (arith, c.in-1.is)) in
    λ d o. sym c.in-1.is ∙ low d o

pub returns-in-2 : goal.returns-in-2
unfolding form_number
returns-in-2 c =
    let low = form-low _ _ _ c.kind.ensures c.if-kind-ne-NAME.false _ c.head.ensures (omega (arith, c.in-2.is)) in
    λ d o. sym c.in-2.is ∙ low d o

pub returns-in_default : goal.returns-in_default
unfolding form_number
returns-in_default c = form-high _ _ _ c.kind.ensures c.if-kind-ne-NAME.false _ c.head.ensures (omega arith)
