use Rattle.std.specs.Prelude.{◌≡◌, List, ℕ, ◌+◌, ◌*◌, ◌<◌, set, get_or, length}
use Rattle.std.proofs.Common.{refl, ap, ◌∙◌, arith, length-set}
use Rattle.std.proofs.Math.Seq.{paste, paste-zero}
use Rattle.words.specs.ListLaws.{paste_more}
use Rattle.reader.proofs.names.store.Goals as goal

pub loop-i-init : goal.loop-i-init
loop-i-init c =
    let a = c.args in
    (refl, omega arith, paste-zero (set a.names.now (64 * a.number) (length a.word.now)) (64 * a.number + 1) a.word.now)

pub loop-i-preserved : goal.loop-i-preserved
loop-i-preserved c =
    let a = c.args in
    let pre = c.requires in
    let word = a.word.now in
    let at = 64 * a.number + 1 in
    let i = c.loop-i.i in
    let d = set a.names.now (64 * a.number) (length word) in
    let h : at + i < length d = omega (arith, pre.0, pre.1, length-set a.names.now (64 * a.number) (length word)) in (
      length-set c.loop-i.names (at + i) (get_or word i 0) ∙ c.loop-i.invariant.0,
      omega arith,
      ap (λ (l : List ℕ). set l (at + i) (get_or word i 0)) c.loop-i.invariant.2 ∙ paste_more d at word i h (omega arith),
    )

pub returns : goal.returns
returns c =
    let a = c.args in
    let word = a.word.now in
    let at = 64 * a.number + 1 in
    let d = set a.names.now (64 * a.number) (length word) in
    let e : c.loop-i.i ≡ length word = omega arith in
    c.loop-i.invariant.2 ∙ ap (paste d at word) e
