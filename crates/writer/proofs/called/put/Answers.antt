use Rattle.std.specs.Prelude.{◌≡◌, List, ℕ, ◌+◌, set, get_or, length}
use Rattle.std.proofs.Common.{refl, ap, ◌∙◌, arith, length-set}
use Rattle.std.proofs.Math.Seq.{paste, paste-zero}
use Rattle.words.specs.ListLaws.{paste_more}
use Rattle.writer.proofs.called.put.Goals as goal

pub loop-i-init : goal.loop-i-init
loop-i-init c =
    (refl, omega arith, paste-zero c.args.table.now c.args.at c.args.names.now)

pub loop-i-preserved : goal.loop-i-preserved
loop-i-preserved c =
    let a = c.args in
    let i = c.loop-i.i in (
      length-set c.loop-i.table (a.at + i) (get_or a.names.now i 0) ∙ c.loop-i.invariant.0,
      omega arith,
      ap (λ (l : List ℕ). set l (a.at + i) (get_or a.names.now i 0)) c.loop-i.invariant.2 ∙ paste_more a.table.now a.at a.names.now i (omega (arith, c.requires)) (omega arith),
    )

pub returns : goal.returns
returns c =
    let a = c.args in
    let e : c.loop-i.i ≡ length a.names.now = omega arith in
    c.loop-i.invariant.2 ∙ ap (paste a.table.now a.at a.names.now) e
