-- `blocks::slot`: the word of a row, 0 past the last.
use Rattle.std.proofs.Common.{ℕ, ◌+◌, ◌*◌, ◌≤◌, length, ap, ◌∙◌, subst, arith, rules}
use Rattle.environments.proofs.blocks.slot.Statement.{statement}
use Rattle.environments.proofs.blocks.slot.Tie as tie
use Rattle.environments.specs.Blocks.{word_in}
use Rattle.environments.specs.BlockLaws.{slot-past, slot-in, slot-far, product-fits}

returns : tie.Need-returns-then-count-i
returns c =
    let args' = c.args in
    slot-past args'.work.now args'.block args'.s args'.i (omega (arith, c.count.ensures, c.if-count-i.true))

mul-before : tie.Need-overflow_mul-before
mul-before c =
    record { fits = product-fits _ _ (search rules) (search rules) }

returns-2 : tie.Need-returns-then-work-before
returns-2 c =
    let args' = c.args in
    let l = c.if-work-before.true in slot-far args'.work.now args'.block args'.s args'.i (omega (arith, c.count.ensures, c.if-count-i.false)) (subst (λ (n : ℕ). length args'.work.now ≤ args'.i * n) c.at-width.ensures l)

returns-3 : tie.Need-returns
returns-3 c =
    let args' = c.args in
    c.at.ensures ∙ ap (λ (n : ℕ). word_in args'.work.now (args'.block + 2 + (args'.i * n + args'.s))) c.at-width.ensures ∙ slot-in args'.work.now args'.block args'.s args'.i (omega (arith, c.count.ensures, c.if-count-i.false))

pub slot_spec : {M : Type 1} → statement M
slot_spec =
    tie.close
    (tie.spec
    (λ c κs. search rules)  -- count-requires
    returns
    (λ c. search rules)  -- add-at
    (λ c κs. search rules)  -- at-requires
    (λ c. search rules)  -- cast-before
    mul-before
    returns-2
    (λ c. search rules)  -- add-at-2
    (λ c. search rules)  -- add-at-3
    (λ c. search rules)  -- add-at-4
    (λ c κs. search rules)  -- at-requires-2
    returns-3)
