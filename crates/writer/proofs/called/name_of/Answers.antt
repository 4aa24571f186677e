use Rattle.std.proofs.Common.{◌<◌, length, slice_index, sym, ap, ◌∙◌, subst}
use Rattle.writer.specs.declared.called.Called.{Called as Place}
use Rattle.writer.specs.Called.{called_by, Tells}
use Rattle.writer.proofs.called.name_of.Goals as goal

pub noted-requires : goal.noted-requires
unfolding called_by
noted-requires c = subst (λ (z : Place). c.args.n < length (called_by z)) c.in-Table.is c.requires.0

pub returns-in-Table : goal.returns-in-Table
unfolding called_by
returns-in-Table c = c.noted.ensures ∙ sym (ap (λ (z : Place). slice_index (called_by z) c.args.n) c.in-Table.is)

pub find-requires : goal.find-requires
unfolding called_by
find-requires c = (subst Tells c.in-Words.is c.requires.1, subst (λ (z : Place). c.args.n < length (called_by z)) c.in-Words.is c.requires.0)

pub returns-in-Words : goal.returns-in-Words
unfolding called_by
returns-in-Words c = c.find.ensures ∙ sym (ap (λ (z : Place). slice_index (called_by z) c.args.n) c.in-Words.is)
