-- `put` leaves its words from `at` on.
use Rattle.std.specs.Prelude.{◌≡◌, List, ℕ, ◌+◌, ◌++◌, set, get_or, length, take, drop}
use Rattle.std.proofs.Common.{refl, ap, ◌∙◌, arith, length-set}
use Rattle.std.proofs.Math.Seq.{paste, paste-zero, take-length}
use Rattle.words.specs.ListLaws.{paste_more}
use Rattle.forms.proofs.quotes.put.Goals as goal

pub loop-i-init : goal.loop-i-init
loop-i-init c =
    (refl, omega arith, paste-zero c.args.core.now c.args.at c.args.words.now)

pub loop-i-preserved : goal.loop-i-preserved
loop-i-preserved c =
    let a = c.args in
    let i = c.loop-i.i in (
      length-set c.loop-i.core (a.at + i) (get_or a.words.now i 0) ∙ c.loop-i.invariant.0,
      omega arith,
      ap (λ (l : List ℕ). set l (a.at + i) (get_or a.words.now i 0)) c.loop-i.invariant.2 ∙ paste_more a.core.now a.at a.words.now i (omega (arith, c.requires)) (omega arith),
    )

pub returns : goal.returns
returns c =
    let a = c.args in
    let e : c.loop-i.i ≡ length a.words.now = omega arith in
    record {
      end = refl;
      words = c.loop-i.invariant.2 ∙ ap (paste a.core.now a.at a.words.now) e ∙ ap (λ (z : List ℕ). take a.at a.core.now ++ z ++ drop (a.at + length a.words.now) a.core.now) (take-length a.words.now);
    }
