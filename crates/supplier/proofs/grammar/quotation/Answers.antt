use Rattle.std.proofs.Common.{sym, ap, ◌∙◌, arith, cond}
use Rattle.supplier.specs.Walk.{same, outside}
use Rattle.supplier.specs.ToldLaws.{told-as, told_same, told-outside}
use Rattle.supplier.proofs.grammar.quotation.Goals as goal

pub returns-then-is_quotation : goal.returns-then-is_quotation
returns-then-is_quotation c =
    λ ds o. told-as _ _ _ _ (ap (λ b. cond b (same c.args.words.now) outside) (sym c.if-is_quotation.true ∙ c.is_quotation.ensures ds o)) (told_same _ 0 (omega arith))

pub returns : goal.returns
returns c = λ ds o. told-as _ _ _ _ (ap (λ b. cond b (same c.args.words.now) outside) (sym c.if-is_quotation.false ∙ c.is_quotation.ensures ds o)) (told-outside _)
