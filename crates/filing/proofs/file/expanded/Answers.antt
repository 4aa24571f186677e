-- By the answer's numbers the run is accepted or refused, and the core table begins with the term's words.
use Rattle.std.proofs.Common.{refl, sym, length-take-le}
use Rattle.filing.proofs.file.expanded.Goals as goal
use Rattle.program_laws.specs.RunLaws.{term-front}
use Rattle.filing.specs.RunLaws.{expanded-accepted, expanded-refused}

pub slice_bounds-accepted-end : goal.slice_bounds-accepted-end
slice_bounds-accepted-end c =
    (term-front _ _ _ _ _ _ _ c.expand.ensures _ c.in-Ok.is _ refl).0

pub slice_bounds-accepted-end-in-Ok : goal.slice_bounds-accepted-end-in-Ok
slice_bounds-accepted-end-in-Ok c =
    sym (length-take-le _ _ (term-front _ _ _ _ _ _ _ c.expand.ensures _ c.in-Ok.is _ refl).0)

pub returns-in-Ok : goal.returns-in-Ok
returns-in-Ok c =
    expanded-accepted _ _ _ _ _ _ _ c.expand.ensures _ c.in-Ok.is c.accepted.ensures

pub returns-in-Err : goal.returns-in-Err
returns-in-Err c =
    λ named. expanded-refused _ _ _ _ _ _ _ c.expand.ensures _ c.in-Err.is c.refused.ensures
