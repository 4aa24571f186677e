use Rattle.std.proofs.Common.{refl, ap, ◌∙◌, arith, Ok, Err, Some}
use Rattle.supplier.specs.declared.front.Difference.TheVariants.{Outside}
use Rattle.supplier.specs.Forms.{form_number}
use Rattle.supplier.specs.ItemsLaws.{all_in, head-held, tail-held}
use Rattle.supplier.specs.StartLaws.{begun_at, start-quoted, start_none, start-quote, start-if, start-application, start-lambda}
use Rattle.supplier.proofs.grammar.list.Goals as goal

pub count-requires : goal.count-requires
count-requires c = c.requires.0

pub returns-then-at : goal.returns-then-at
returns-then-at c = start-quoted _ _ _ _ c.requires.1.0 _ c.if-at.true _ c.count.ensures c.takes.ensures _ (ap (λ q. begun_at c.args.at.i c.args.at.top q c.takes.result) c.if-at.true)

pub kind-requires : goal.kind-requires
kind-requires c = all_in _ _ c.requires.0

pub returns-then-kind-ne-PAIR : goal.returns-then-kind-ne-PAIR
returns-then-kind-ne-PAIR c = start_none _ _ _ _ c.requires.1.0 (Ok 0) c.if-at.false _ c.kind.ensures c.if-kind-ne-PAIR.true _ (ap (λ q. begun_at c.args.at.i c.args.at.top q (Err Outside)) c.if-at.false)

pub head-requires : goal.head-requires
head-requires c = all_in _ _ c.requires.0

pub form_at-requires : goal.form_at-requires
form_at-requires c = (head-held _ _ _ c.kind.ensures c.if-kind-ne-PAIR.false c.requires.0 _ c.head.ensures).0

pub tail-requires : goal.tail-requires
tail-requires c = all_in _ _ c.requires.0

pub quotation-requires : goal.quotation-requires
quotation-requires c = (tail-held _ _ _ c.kind.ensures c.if-kind-ne-PAIR.false c.requires.0 _ c.tail.ensures).0

pub returns-in-Some-Quote : goal.returns-in-Some-Quote
unfolding form_number
returns-in-Some-Quote c =
    start-quote _ _ _ _ c.requires.1.0 _ c.if-at.false _ c.kind.ensures c.if-kind-ne-PAIR.false _ c.head.ensures _ c.form_at.ensures _ c.tail.ensures (ap form_number (c.in-Some-Quote.is ∙ ap Some c.in-Some-Quote.field-0-is)) c.requires.0 c.quotation.ensures _ refl

pub conditional-requires : goal.conditional-requires
conditional-requires c = (tail-held _ _ _ c.kind.ensures c.if-kind-ne-PAIR.false c.requires.0 _ c.tail.ensures).0

pub returns-in-Some-If : goal.returns-in-Some-If
unfolding form_number
returns-in-Some-If c =
    start-if _ _ _ _ c.requires.1.0 _ c.if-at.false _ c.kind.ensures c.if-kind-ne-PAIR.false _ c.head.ensures _ c.form_at.ensures _ c.tail.ensures (ap form_number (c.in-Some-If.is ∙ ap Some c.in-Some-If.field-0-is)) c.requires.0 c.conditional.ensures _ (ap (λ q. begun_at c.tail.result c.args.at.top q c.conditional.result) c.if-at.false)

pub lambda-requires : goal.lambda-requires
lambda-requires c =
    let t = tail-held _ _ _ c.kind.ensures c.if-kind-ne-PAIR.false c.requires.0 _ c.tail.ensures in
    (t.0, (omega (arith, c.requires.1.0, t.1), c.requires.1.1, c.requires.1.2))

pub returns-in-Some-Lambda : goal.returns-in-Some-Lambda
unfolding form_number
returns-in-Some-Lambda c =
    start-lambda _ _ _ _ c.requires.1.0 (Ok 0) c.if-at.false _ c.kind.ensures c.if-kind-ne-PAIR.false _ c.head.ensures _ c.form_at.ensures _ c.tail.ensures (ap form_number (c.in-Some-Lambda.is ∙ ap Some c.in-Some-Lambda.field-0-is)) c.requires.0 _ _ refl refl _ c.lambda.ensures

pub count-requires-in-None : goal.count-requires-in-None
count-requires-in-None c = (tail-held _ _ _ c.kind.ensures c.if-kind-ne-PAIR.false c.requires.0 _ c.tail.ensures).0

pub returns-in-None : goal.returns-in-None
unfolding form_number
returns-in-None c =
    start-application _ _ _ _ c.requires.1.0 _ c.if-at.false _ c.kind.ensures c.if-kind-ne-PAIR.false _ c.head.ensures _ c.form_at.ensures _ c.tail.ensures (ap form_number c.in-None.is) c.requires.0 _ c.count-in-None.ensures c.takes-in-None.ensures _ (ap (λ q. begun_at c.args.at.i c.args.at.top q c.takes-in-None.result) c.if-at.false)
