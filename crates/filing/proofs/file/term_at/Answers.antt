-- The part that is lent for the text ends before the last byte.
use Rattle.std.proofs.Common.{refl, arith, ◌+◌, ◌<◌, length}
use Rattle.filing.proofs.file.term_at.Goals as goal
use Rattle.filing.specs.FileLaws.{term-end, term-spared, term-crowded}

pub overflow_add-result : goal.overflow_add-result
overflow_add-result c =
    let h = term-end _ c.args.out.now c.requires _ _ _ c.write.ensures _ c.in-Ok.is in
    record { fits = omega arith }

pub returns-in-Ok : goal.returns-in-Ok
returns-in-Ok c = record {
  within = term-end _ c.args.out.now c.requires _ _ _ c.write.ensures _ c.in-Ok.is;
  laid = λ x e. term-spared _ _ c.requires _ _ _ c.write.ensures x e _ c.in-Ok.is;
}

pub returns-in-Err : goal.returns-in-Err
returns-in-Err c = record { within = tt; laid = λ x e. term-crowded _ _ c.requires _ _ _ c.write.ensures x e _ c.in-Err.is }
