use Rattle.std.proofs.Common.{refl, arith, Ok}
use Rattle.supplier.specs.ItemsLaws.{all_in}
use Rattle.supplier.specs.StartLaws.{lambda-not-two, formals-held, lambda-no-formals, body-room, lambda-body}
use Rattle.supplier.proofs.grammar.lambda.Goals as goal

pub count-requires : goal.count-requires
count-requires c = c.requires.0

pub returns-then-count-ne2 : goal.returns-then-count-ne2
returns-then-count-ne2 c = lambda-not-two c.args.items.now c.args.words.now c.args.scope.now c.args.at c.requires.1.0 c.requires.0 _ c.count.ensures (Ok 0) c.if-count-ne2.true _ refl

pub head-requires : goal.head-requires
head-requires c = all_in _ _ c.requires.0

pub formals-requires : goal.formals-requires
formals-requires c = (formals-held c.args.items.now c.args.words.now c.args.scope.now c.args.at c.requires.1.0 c.requires.0 _ c.count.ensures (Ok 0) c.if-count-ne2.false _ c.head.ensures, omega (arith, c.requires.1.0, c.requires.1.1, c.requires.1.2, all_in _ _ c.requires.0))

pub shape_of-scope-in_default : goal.shape_of-scope-in_default
shape_of-scope-in_default c = c.formals.auto.scope

pub returns-in_default : goal.returns-in_default
returns-in_default c = lambda-no-formals c.args.items.now c.args.words.now c.args.scope.now c.args.at c.requires.1.0 c.requires.0 _ c.count.ensures (Ok 0) c.if-count-ne2.false _ c.head.ensures _ _ _ c.formals.ensures.formals c.formals.ensures.kept c.in_default.is _ refl

pub tail-requires : goal.tail-requires
tail-requires c = all_in _ _ c.requires.0

pub overflow_add-place : goal.overflow_add-place
overflow_add-place c = omega (arith, (body-room c.args.items.now c.args.words.now c.args.scope.now c.args.at c.requires.1.0 c.requires.0 _ c.count.ensures (Ok 0) c.if-count-ne2.false _ c.head.ensures _ _ _ c.formals.ensures.formals c.formals.ensures.kept _ c.in-Some.is _ c.tail.ensures).1, c.requires.1.0, all_in _ _ c.requires.0, c.well_formed)

pub shape_of-scope : goal.shape_of-scope
shape_of-scope c = c.formals.auto.scope

pub returns : goal.returns
returns c = lambda-body c.args.items.now c.args.words.now c.args.scope.now c.args.at c.requires.1.0 c.requires.0 _ c.count.ensures _ c.if-count-ne2.false _ c.head.ensures _ _ _ c.formals.ensures.formals c.formals.ensures.kept _ c.in-Some.is _ c.own-node.ensures refl c.takes.ensures _ c.tail.ensures _ refl
