-- The item table begins with what the recipe gives, three words an item.
use Rattle.std.proofs.Common.{sym, arith, ◌*◌, ◌≤◌, length, length-take-le}
use Rattle.std.proofs.lemmas.Result.{err_from_is_err_and}
use Rattle.run_recipe.proofs.value.value.Goals as goal
use Rattle.program_laws.specs.ReadLaws.{items-front}
use Rattle.run_recipe.specs.ValueLaws.{value_read, value-refused}

pub returns-in_err-counts : goal.returns-in_err-counts
returns-in_err-counts c =
    let p = err_from_is_err_and c.from_residual.result c.from_residual.ensures.1 in
    rw (p.1, p.2) (value-refused _ _ _ _ _ _ c.read.ensures _ _ _ _ _ _ c.in_err-counts.was)

pub overflow_mul-words : goal.overflow_mul-words
overflow_mul-words c =
    let h : 3 * c.in_ok-counts.counts.items ≤ length c.read.new.items = (items-front _ _ _ _ _ _ c.read.ensures _ c.in_ok-counts.was).0 in
    record { fits = omega arith }

pub slice_bounds-expanded-end : goal.slice_bounds-expanded-end
slice_bounds-expanded-end c = (items-front _ _ _ _ _ _ c.read.ensures _ c.in_ok-counts.was).0

pub slice_bounds-expanded-end-2 : goal.slice_bounds-expanded-end-2
slice_bounds-expanded-end-2 c = sym (length-take-le _ _ (items-front _ _ _ _ _ _ c.read.ensures _ c.in_ok-counts.was).0)

pub returns : goal.returns
returns c = value_read _ _ _ _ _ _ c.read.ensures _ _ _ _ _ _ c.in_ok-counts.was _ c.expanded.ensures
