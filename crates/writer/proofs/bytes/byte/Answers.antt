use Rattle.std.proofs.Common.{[], ◌∷◌, refl, sym, ◌∙◌, arith}
use Rattle.writer.specs.Laid.{done, full}
use Rattle.writer.specs.LaidLaws.{laid-dry, laid-wet, laid-byte}
use Rattle.writer.proofs.bytes.byte.Goals.{then-ink, else-ink}
use Rattle.writer.proofs.bytes.byte.Goals as goal

pub returns-then-at-out : goal.returns-then-at-out
returns-then-at-out c = full (omega arith) (λ h. refl)

pub returns : goal.returns
returns c =
    elim c.if-ink.branch [
      | then-ink w ↦ done refl (omega arith) (w.out-is ∙ laid-byte _ _ c.args.out.now c.if-at-out.false ∙ sym (laid-wet c.args.ink (c.args.b ∷ []) _ _ w.if-ink.true))
      | else-ink w ↦ done refl (omega arith) (w.out-is ∙ sym (laid-dry c.args.ink _ _ _ w.if-ink.false))
    ]
