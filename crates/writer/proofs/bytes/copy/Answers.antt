use Rattle.std.specs.Prelude.{List, ℕ, ◌+◌, set, get_or}
use Rattle.std.proofs.Common.{refl, sym, ap, ◌∙◌, arith, length-set}
use Rattle.std.proofs.Math.Seq.{paste-zero}
use Rattle.words.specs.ListLaws.{paste_more}
use Rattle.writer.specs.Laid.{done, full}
use Rattle.writer.specs.LaidLaws.{laid-dry, copy_done}
use Rattle.writer.proofs.bytes.copy.Goals as goal

pub returns-then-out-at : goal.returns-then-out-at
returns-then-out-at c = full (omega arith) (λ h. refl)

pub returns-else-ink : goal.returns-else-ink
returns-else-ink c = done refl (omega arith) (sym (laid-dry c.args.ink _ _ _ c.if-ink.false))

pub loop-i-init : goal.loop-i-init
loop-i-init c =
    (refl, omega arith, paste-zero c.args.out.now c.args.at c.args.src.now)

pub loop-i-preserved : goal.loop-i-preserved
loop-i-preserved c =
    let a = c.args in
    let i = c.loop-i.i in (
      length-set c.loop-i.out (a.at + i) (get_or a.src.now i 0) ∙ c.loop-i.invariant.0,
      omega arith,
      ap (λ (l : List ℕ). set l (a.at + i) (get_or a.src.now i 0)) c.loop-i.invariant.2 ∙ paste_more a.out.now a.at a.src.now i (omega arith) (omega arith),
    )

pub returns-after-loop-i : goal.returns-after-loop-i
returns-after-loop-i c =
    let a = c.args in
    done refl (omega arith) (copy_done a.out.now a.at a.src.now _ c.loop-i.i a.ink (omega arith) c.if-ink.true c.loop-i.invariant.2)
