use Rattle.std.proofs.Common.{◌≡◌, refl, ℕ, ◌-◌, List, ap, ◌∙◌, arith}
use Rattle.core_term.specs.Code.Window.{put, marked}
use Rattle.core_term.specs.Code.WindowLaws.{marked_more}
use Rattle.core_term.proofs.flags.mark.Goals as goal

pub loop-k-init : goal.loop-k-init
unfolding marked
loop-k-init c = let e : c.args.from - c.args.from ≡ 0 = omega arith in (refl, omega arith, rw e refl)

pub loop-k-preserved : goal.loop-k-preserved
loop-k-preserved c =
    let a = c.args in
    let e = c.set.ensures ∙ ap (λ (s : List ℕ). put a.base c.loop-k.k a.value s) c.loop-k.invariant.2 ∙ marked_more a.base a.from c.loop-k.k a.value a.flags.now (omega arith) in
    (c.set.auto.flags ∙ c.loop-k.invariant.0, omega arith, e)
