-- By the answer's numbers the run is accepted or refused, and the core table begins with the term's words.
use Rattle.std.proofs.Common.{refl, sym, length-take-le}
use Rattle.compare_expansions.proofs.pair.held.Goals as goal
use Rattle.program_laws.specs.RunLaws.{term-front}
use Rattle.compare_expansions.specs.PairLaws.{same-line, text-line, held-accepted, held-refused}

pub slice_bounds-compare-end : goal.slice_bounds-compare-end
slice_bounds-compare-end c = (term-front _ _ _ _ _ _ _ c.expand.ensures _ c.in-Ok.is _ refl).0

pub slice_bounds-compare-end-in-Ok : goal.slice_bounds-compare-end-in-Ok
slice_bounds-compare-end-in-Ok c = sym (length-take-le _ _ (term-front _ _ _ _ _ _ _ c.expand.ensures _ c.in-Ok.is _ refl).0)

pub returns-in-Ok-compare : goal.returns-in-Ok-compare
returns-in-Ok-compare c =
    held-accepted _ _ _ _ _ _ _ c.expand.ensures _ c.in-Ok.is _ _ _ _ _ _ (same-line _ _ c.in-Ok-compare.is) c.compare.ensures.verdict

pub returns-in-Err-compare : goal.returns-in-Err-compare
returns-in-Err-compare c =
    held-accepted _ _ _ _ _ _ _ c.expand.ensures _ c.in-Ok.is _ _ _ _ _ _ (text-line _ _ c.in-Err-compare.is) c.compare.ensures.verdict

pub returns-in-Err : goal.returns-in-Err
returns-in-Err c = held-refused _ _ _ _ _ _ _ c.expand.ensures _ c.in-Err.is _ _
