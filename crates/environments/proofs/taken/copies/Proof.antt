-- `taken::copies`: by the ellipses outside.
use Rattle.std.proofs.Common.{sym, ◌∙◌, subst, arith, rules}
use Rattle.environments.proofs.taken.copies.Statement.{statement}
use Rattle.environments.proofs.taken.copies.Tie as tie
use Rattle.environments.specs.Columns.{EntryStands}
use Rattle.environments.specs.BindingLaws.{copies-tree, copies-list, copies-trees, copies-past, copies-inner}

returns-2 : tie.Need-returns-then-x-lt2
returns-2 c =
    let args' = c.args in
    λ base low high w y is l few h. copies-tree args'.work.now base low high w _ y (subst (λ x. EntryStands args'.work.now base low high w x y) (sym c.get-x.ensures) h) args'.outside args'.inner is c.if-x-lt2.true

returns-3 : tie.Need-returns-then-outside-eq0
returns-3 c =
    let args' = c.args in
    λ base low high w y is l few h. c.count.ensures ∙ copies-list args'.work.now base low high w _ y (subst (λ x. EntryStands args'.work.now base low high w x y) (sym c.get-x.ensures) h) args'.outside args'.inner is (λ z. omega (arith, c.if-x-lt2.false)) c.if-outside-eq0.true

returns-4 : tie.Need-returns-then-x-lt3
returns-4 c =
    let args' = c.args in
    λ base low high w y is l few h. copies-trees args'.work.now base low high w _ y (subst (λ x. EntryStands args'.work.now base low high w x y) (sym c.get-x.ensures) h) args'.outside args'.inner is (omega (arith, c.if-outside-eq0.false, few)) (λ z. omega (arith, c.if-x-lt2.false)) c.if-x-lt3.true

returns-5 : tie.Need-returns-then-count-inner
returns-5 c =
    let args' = c.args in
    λ base low high w y is l few h. copies-past args'.work.now base low high w _ y (subst (λ x. EntryStands args'.work.now base low high w x y) (sym c.get-x.ensures) h) args'.outside args'.inner is (omega (arith, c.if-outside-eq0.false, few)) (λ z. omega (arith, c.if-x-lt3.false)) (omega (arith, c.count-2.ensures, c.if-count-inner.true))

returns-6 : tie.Need-returns
returns-6 c =
    let args' = c.args in
    λ base low high w y is l few h. c.count-3.ensures ∙ copies-inner args'.work.now base low high w _ y (subst (λ x. EntryStands args'.work.now base low high w x y) (sym c.get-x.ensures) h) args'.outside args'.inner is (omega (arith, c.if-outside-eq0.false, few)) (λ z. omega (arith, c.if-x-lt3.false)) (omega (arith, c.count-2.ensures, c.if-count-inner.false)) _ c.slot-block.ensures

pub copies_spec : {M : Type 1} → statement M
copies_spec =
    tie.close
    (tie.spec
    (λ c. search rules)  -- returns
    (λ c κs. search rules)  -- get-requires
    returns-2
    (λ c κs. search rules)  -- count-requires
    returns-3
    returns-4
    (λ c κs. search rules)  -- count-requires-2
    returns-5
    (λ c κs. search rules)  -- slot-requires
    (λ c κs. search rules)  -- count-requires-3
    returns-6)
