use Rattle.std.proofs.Common.{refl, sym, ◌∙◌}
use denote.Enum.Bare.{differs_true, differs_false}
use Rattle.supplier.specs.contracts.front.Sort.{the_type}
use Rattle.supplier.specs.ToldLaws.{constant-sort, constant-kind, constant-first, constant-second, constant-same}
use Rattle.supplier.proofs.front.constant.Goals as goal

pub returns-then-ne : goal.returns-then-ne
returns-then-ne c = constant-sort _ _ c.own-node.ensures _ (differs_true the_type _ _ (sym c.ne.ensures ∙ c.if-ne.true))

pub returns-then-node-kind : goal.returns-then-node-kind
returns-then-node-kind c = constant-kind _ _ c.own-node.ensures _ c.if-node-kind.true

pub returns-then-node-first : goal.returns-then-node-first
returns-then-node-first c = constant-first _ _ c.own-node.ensures _ _ refl c.if-node-first.true

pub returns-then-node-second : goal.returns-then-node-second
returns-then-node-second c = constant-second _ _ c.own-node.ensures _ _ refl c.if-node-second.true

pub returns : goal.returns
returns c = constant-same _ _ c.own-node.ensures _ (differs_false the_type tt _ _ (sym c.ne.ensures ∙ c.if-ne.false)) c.if-node-kind.false _ refl c.if-node-first.false _ refl c.if-node-second.false
