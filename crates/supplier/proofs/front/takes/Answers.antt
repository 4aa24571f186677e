use Rattle.std.proofs.Common.{refl, sym, ◌∙◌}
use denote.Enum.Bare.{differs_true, differs_false}
use Rattle.supplier.specs.contracts.front.Sort.{the_type}
use Rattle.supplier.specs.ToldLaws.{takes-sort, takes-number, takes_same}
use Rattle.supplier.proofs.front.takes.Goals as goal

pub returns-then-ne : goal.returns-then-ne
returns-then-ne c = takes-sort _ _ c.own-node.ensures _ _ (differs_true the_type _ _ (sym c.ne.ensures ∙ c.if-ne.true))

pub returns-then-node-number : goal.returns-then-node-number
returns-then-node-number c = takes-number _ _ c.own-node.ensures _ _ _ refl c.if-node-number.true

pub returns : goal.returns
returns c = takes_same _ _ c.own-node.ensures _ _ (differs_false the_type tt _ _ (sym c.ne.ensures ∙ c.if-ne.false)) _ refl c.if-node-number.false
