use Rattle.grebetallboy.specs.CallLaws.{told_numbers-short, told_numbers-long}
use Rattle.grebetallboy.proofs.tell.Goals as goal

pub returns-then-numbers-counts : goal.returns-then-numbers-counts
returns-then-numbers-counts c = rw c.copy_from_slice.ensures.after (told_numbers-long _ _ c.if-numbers-counts.true)

pub returns-else-numbers-counts : goal.returns-else-numbers-counts
returns-else-numbers-counts c = told_numbers-short _ _ c.if-numbers-counts.false
