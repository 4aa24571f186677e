-- An arm for each node, by the laws of specs/HeadLaws.antt.
use Rattle.std.proofs.Common.{◌≡◌, refl, true, [], ap, ⊎_elim, arith}
use Rattle.core_term.specs.Node.{is_datum_node}
use Rattle.core_term.specs.declared.nodes.Node.TheVariants.{If}
use Rattle.core_term.specs.Code.Opened.{node_in}
use Rattle.core_term.specs.Code.HeadLaws.{head-quoted, head-constant, head-list, head-name, head-variable, head-operation, head-if, head-application, lambda-room, lambda-other, head-lambda}
use Rattle.core_term.proofs.head.standing.Goals as goal

pub returns-then-quoted : goal.returns-then-quoted
unfolding node_in is_datum_node
returns-then-quoted c =
    let a = c.args in
    head-quoted _ _ _ _ _ _ a.words.now a.node _ _ (ap (node_in a.words.now) c.in-Variable.is) refl c.if-quoted.true

pub returns-then-quoted-2 : goal.returns-then-quoted-2
unfolding node_in is_datum_node
returns-then-quoted-2 c =
    let a = c.args in
    head-quoted _ _ _ _ _ _ a.words.now a.node _ _ (ap (node_in a.words.now) c.in-Operation.is) refl c.if-quoted-2.true

pub returns-then-quoted-3 : goal.returns-then-quoted-3
unfolding node_in is_datum_node
returns-then-quoted-3 c =
    let a = c.args in
    head-quoted _ _ _ _ _ _ a.words.now a.node _ _ (ap (node_in a.words.now) c.in-Lambda.is) refl c.if-quoted-3.true

pub returns-then-first-bound : goal.returns-then-first-bound
returns-then-first-bound c = lambda-other _ _ _ _ _ _ _ _ c.requires _ _ c.in-Lambda.is c.if-quoted-3.false c.if-first-bound.true

pub slice_bounds-formals-end : goal.slice_bounds-formals-end
slice_bounds-formals-end c = omega (arith, lambda-room 0 0 (λ n. true) [] 0 true c.args.words.now c.args.node c.requires _ _ c.in-Lambda.is)

pub returns-else-quoted : goal.returns-else-quoted
returns-else-quoted c = rw (c.in-Variable.is, c.then_some.ensures, c.in_scope.ensures) (head-variable _ _ _ _ _ _ _ _ c.if-quoted.false)

pub returns-else-quoted-2 : goal.returns-else-quoted-2
returns-else-quoted-2 c = rw (c.in-Operation.is, c.then_some-in-Operation.ensures) (head-operation _ _ _ _ _ _ _ _ c.if-quoted-2.false)

pub returns-in-Integer : goal.returns-in-Integer
unfolding node_in
returns-in-Integer c =
    let a = c.args in
    ⊎_elim (λ w. head-constant _ _ _ _ _ _ a.words.now a.node c.requires _ _ (ap (node_in a.words.now) w.1))
    (⊎_elim (λ w. head-constant _ _ _ _ _ _ a.words.now a.node c.requires _ _ (ap (node_in a.words.now) w.1))
    (⊎_elim (λ w. head-constant _ _ _ _ _ _ a.words.now a.node c.requires _ _ (ap (node_in a.words.now) w.2))
    (λ w. rw w.1 (head-list _ _ _ _ _ _ a.words.now _))))
    c.in-Integer.is

pub returns-in-Name : goal.returns-in-Name
returns-in-Name c = rw (c.in-Name.is, c.then_some-in-Name.ensures, c.name_good.ensures) (head-name _ _ _ _ _ _ _ _)

pub returns-in-If : goal.returns-in-If
returns-in-If c =
    ⊎_elim (λ (e : c.args.node ≡ If). rw (e, c.then_some-in-If.ensures) (head-if _ _ _ _ _ _ _)) (λ w. rw (w.1, c.then_some-in-If.ensures) (head-application _ _ _ _ _ _ _ _)) c.in-If.is

pub returns-else-first-bound : goal.returns-else-first-bound
returns-else-first-bound c =
    rw (c.then_some-in-Lambda.ensures, c.names_good.ensures) (head-lambda _ _ _ _ _ _ _ _ c.requires _ _ c.in-Lambda.is _ _ refl refl c.if-quoted-3.false c.if-first-bound.false)
