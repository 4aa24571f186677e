-- `fill::open_block`: two stores, and room for the rows.
use Rattle.std.proofs.Common.{arith, length-set, rules}
use Rattle.environments.proofs.fill.open_block.Statement.{statement}
use Rattle.environments.proofs.fill.open_block.Tie as tie
use Rattle.environments.specs.FillLaws.{opened-none, opened-slots, opened-room, opened_some}

returns : tie.Need-returns-then-c-eq0
returns c =
    opened-none c.args.work.now c.args.p c.args.u c.args.top _ c.requires c.share-c.ensures c.if-c-eq0.true

slots-requires : tie.Need-slots-width-requires
slots-requires c κs =
    opened-slots c.args.work.now c.args.p c.args.u c.args.top _ c.requires c.share-c.ensures _ c.if-c-eq0.false c.reference-element.ensures

slice-write-work-3 : tie.Need-bounds-work-top-3
slice-write-work-3 c =
    let r = opened-room c.args.work.now c.args.p c.args.u c.args.top _ c.requires c.share-c.ensures _ c.if-c-eq0.false c.reference-element.ensures _ c.slots-width.ensures in simp length-set (omega (arith, r.fits))

mul-t25 : tie.Need-overflow_mul-result
mul-t25 c =
    let r = opened-room c.args.work.now c.args.p c.args.u c.args.top _ c.requires c.share-c.ensures _ c.if-c-eq0.false c.reference-element.ensures _ c.slots-width.ensures in record { fits = omega (arith, r.small) }

add-t26 : tie.Need-overflow_add-result-3
add-t26 c =
    let r = opened-room c.args.work.now c.args.p c.args.u c.args.top _ c.requires c.share-c.ensures _ c.if-c-eq0.false c.reference-element.ensures _ c.slots-width.ensures in record { fits = omega (arith, r.small) }

returns-2 : tie.Need-returns
returns-2 c =
    opened_some c.args.work.now c.args.p c.args.u c.args.top _ c.requires c.share-c.ensures _ c.if-c-eq0.false c.reference-element.ensures _ c.slots-width.ensures

pub open_block_spec : {M : Type 1} → statement M
open_block_spec =
    tie.close
    (tie.spec
    (λ c κs. search rules)  -- share-requires
    (λ c. search rules)  -- mul-work
    (λ c. search rules)  -- slice-write-work
    (λ c. search rules)  -- add-t14
    (λ c. search rules)  -- same-length
    returns
    (λ c κs. search rules)  -- reference-requires
    slots-requires
    (λ c. search rules)  -- mul-work-2
    (λ c. search rules)  -- slice-write-work-2
    (λ c. search rules)  -- add-work
    (λ c. search rules)  -- mul-work-3
    slice-write-work-3
    (λ c. search rules)  -- add-t24
    mul-t25
    add-t26
    (λ c. search rules)  -- same-length-2
    returns-2)
