-- `taken::taken`: by the number of ellipses.
use Rattle.std.proofs.Common.{sym, subst, arith, rules}
use Rattle.environments.proofs.taken.taken.Statement.{statement}
use Rattle.environments.proofs.taken.taken.Tie as tie
use Rattle.environments.specs.Columns.{EntryStands}
use Rattle.environments.specs.BindingLaws.{read-unset, read-other, read_whole, read_one, read_past, read-two}

returns : tie.Need-returns-then-k-ge-VARIABLES
returns c =
    λ base low high w y l few h. absurd (omega (arith, c.if-k-ge-VARIABLES.true))

returns-2 : tie.Need-returns-then-x-eq0
returns-2 c =
    let args' = c.args in
    λ base low high w y l few h. read-unset args'.work.now base low high w _ y (subst (λ x. EntryStands args'.work.now base low high w x y) (sym c.get-x.ensures) h) args'.d args'.outer args'.inner c.if-x-eq0.true

returns-3 : tie.Need-returns-then-x-d
returns-3 c =
    let args' = c.args in
    λ base low high w y l few h. read-other args'.work.now base low high w _ y (subst (λ x. EntryStands args'.work.now base low high w x y) (sym c.get-x.ensures) h) args'.d args'.outer args'.inner few c.if-x-d.true

returns-4 : tie.Need-returns-then-d-eq0
returns-4 c =
    let args' = c.args in
    λ base low high w y l few h. read_whole args'.work.now base low high w _ y (subst (λ x. EntryStands args'.work.now base low high w x y) (sym c.get-x.ensures) h) args'.d args'.outer args'.inner c.if-x-d.false c.if-d-eq0.true

returns-5 : tie.Need-returns-then-d-eq1
returns-5 c =
    let args' = c.args in
    λ base low high w y l few h. rw c.slot.ensures (read_one args'.work.now base low high w _ y (subst (λ x. EntryStands args'.work.now base low high w x y) (sym c.get-x.ensures) h) args'.d args'.outer args'.inner c.if-x-d.false c.if-d-eq1.true)

returns-6 : tie.Need-returns-then-count-outer
returns-6 c =
    let args' = c.args in
    λ base low high w y l few h. read_past args'.work.now base low high w _ y (subst (λ x. EntryStands args'.work.now base low high w x y) (sym c.get-x.ensures) h) args'.d args'.outer args'.inner c.if-x-d.false (omega (arith, c.if-d-eq0.false, c.if-d-eq1.false, few)) (omega (arith, c.count.ensures, c.if-count-outer.true))

returns-7 : tie.Need-returns
returns-7 c =
    let args' = c.args in
    λ base low high w y l few h. rw c.slot-2.ensures (read-two args'.work.now base low high w _ y (subst (λ x. EntryStands args'.work.now base low high w x y) (sym c.get-x.ensures) h) args'.d args'.outer args'.inner c.if-x-d.false (omega (arith, c.if-d-eq0.false, c.if-d-eq1.false, few)) (omega (arith, c.count.ensures, c.if-count-outer.false)) _ c.slot-block.ensures)

pub taken_spec : {M : Type 1} → statement M
taken_spec =
    tie.close
    (tie.spec
    returns
    (λ c κs. search rules)  -- get-requires
    returns-2
    (λ c. search rules)  -- sub-if3
    returns-3
    returns-4
    (λ c κs. search rules)  -- slot-requires
    returns-5
    (λ c κs. search rules)  -- count-requires
    returns-6
    (λ c κs. search rules)  -- slot-requires-2
    (λ c κs. search rules)  -- slot-requires-3
    returns-7)
