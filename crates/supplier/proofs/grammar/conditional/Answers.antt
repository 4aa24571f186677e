use mathlib.Core.Path.{sym, ap, ◌∙◌}
use mathlib.Core.Bool.{cond}
use borrow.Author.Tests.{eq-eqb, ne_eqb}
use Rattle.core_term.specs.Node.{node_at}
use Rattle.datum.specs.Datum as D
use Rattle.supplier.specs.Walk.{outside, takes, if_sort, ours_of}
use Rattle.supplier.specs.ToldLaws.{told-as, told-outside}
use Rattle.supplier.proofs.grammar.conditional.Goals as goal

pub returns-then-count-ne3 : goal.returns-then-count-ne3
returns-then-count-ne3 c = λ ds o. told-as _ _ _ _ (ap (λ b. cond b (takes if_sort 0 (ours_of (node_at c.args.words.now))) outside) (sym (ne_eqb (D.count ds) 3 (λ e. c.if-count-ne3.true (c.count.ensures ds o ∙ e))))) (told-outside _)

pub returns : goal.returns
returns c = λ ds o. told-as _ _ _ _ (ap (λ b. cond b (takes if_sort 0 (ours_of (node_at c.args.words.now))) outside) (sym (eq-eqb (D.count ds) 3 (sym (c.count.ensures ds o) ∙ c.if-count-ne3.false)))) c.takes.ensures
