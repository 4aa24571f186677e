-- `ending::finish`: zeros past the term, or everywhere.
use Rattle.expander.specs.ServiceLaws.{done-fits, finished-done, finished-refused}
use Rattle.expander.proofs.ending.finish.Goals as goal

pub slice_bounds-fill-count : goal.slice_bounds-fill-count
slice_bounds-fill-count c = done-fits c.args.ended _ _ c.in-Ok.is c.requires

pub slice_bounds-fill-start : goal.slice_bounds-fill-start
slice_bounds-fill-start c = done-fits c.args.ended _ _ c.in-Ok.is c.requires

pub returns-in-Ok : goal.returns-in-Ok
returns-in-Ok c = finished-done c.args.ended _ c.args.core.now _ c.in-Ok.is (done-fits c.args.ended _ _ c.in-Ok.is c.requires) (c.fill.ensures.after (λ y e. e))

pub returns-in-Err : goal.returns-in-Err
returns-in-Err c = let a = c.args in
    finished-refused a.ended _ a.core.now _ c.in-Err.is (c.fill-in-Err.ensures.after (λ y e. e))
