use Rattle.std.proofs.Common.{refl, sym, subst, ◌∙◌}
use denote.Enum.Bare.{differs_true, differs_false}
use Rattle.supplier.specs.contracts.front.Sort.{the_type}
use Rattle.supplier.specs.Names.{Slot}
use Rattle.supplier.specs.ToldLaws.{place-sort, place-past, place_is}
use Rattle.supplier.proofs.walk.is_place.Goals as goal

pub returns-then-ne : goal.returns-then-ne
returns-then-ne c = λ ws f. place-sort _ _ _ ws _ f _ (differs_true the_type _ _ (sym c.ne.ensures ∙ c.if-ne.true))

pub returns-then-operations-p : goal.returns-then-operations-p
returns-then-operations-p c = λ ws f. place-past _ _ _ ws _ f _ _ refl c.if-operations-p.true

pub same_name-requires : goal.same_name-requires
same_name-requires c =
    let pre' = c.requires in
    (pre'.0.0 _ pre'.1, subst (Slot _) (sym c.from.ensures) (pre'.0.1 _ c.if-operations-p.false))

pub returns : goal.returns
returns c = λ ws f. place_is _ _ _ ws _ f _ _ refl (differs_false the_type tt _ _ (sym c.ne.ensures ∙ c.if-ne.false)) c.if-operations-p.false _ c.from.ensures _ c.same_name.ensures
