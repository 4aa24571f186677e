use Rattle.std.proofs.Common.{refl, sym, ◌∙◌}
use borrow.Author.Tests.{not-true, not-false}
use denote.Enum.Bare.{differs_true, differs_false}
use Rattle.supplier.specs.contracts.front.Sort.{the_type}
use Rattle.supplier.specs.NamesLaws.{has-slot}
use Rattle.supplier.specs.ToldLaws.{quoted-sort, quoted-unnamed, quoted-other, quoted-same}
use Rattle.supplier.proofs.walk.quoted_name.Goals as goal

pub returns-then-ne : goal.returns-then-ne
returns-then-ne c = λ operations. quoted-sort _ _ operations _ _ c.own-node.ensures _ (differs_true the_type _ _ (sym c.ne.ensures ∙ c.if-ne.true))

pub returns-then-not-has_name : goal.returns-then-not-has_name
returns-then-not-has_name c = λ operations. quoted-unnamed _ _ operations _ _ c.own-node.ensures _ _ refl (sym c.has_name.ensures ∙ not-true _ c.if-not-has_name.true-raw)

pub same_name-requires : goal.same_name-requires
same_name-requires c = (c.requires, has-slot _ _ (sym c.has_name.ensures ∙ not-false _ c.if-not-has_name.false-raw))

pub returns-then-same_name : goal.returns-then-same_name
returns-then-same_name c = λ operations. quoted-same _ _ operations _ _ c.own-node.ensures _ _ refl (differs_false the_type tt _ _ (sym c.ne.ensures ∙ c.if-ne.false)) (sym c.has_name.ensures ∙ not-false _ c.if-not-has_name.false-raw) (sym c.same_name.ensures ∙ c.if-same_name.true)

pub returns : goal.returns
returns c = λ operations. quoted-other _ _ operations _ _ c.own-node.ensures _ _ refl (sym c.same_name.ensures ∙ c.if-same_name.false)
