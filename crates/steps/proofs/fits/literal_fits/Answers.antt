-- `fits::literal_fits`: a literal's cell keeps number and binding.
use borrow.Author.Rules.{rules}
use Rattle.steps.specs.FitLaws.{literal-no-name, literal-name}
use Rattle.steps.proofs.fits.literal_fits.Goals as goal

pub word-requires : goal.word-requires
word-requires c = search rules

pub returns-then-word-ne-NAME : goal.returns-then-word-ne-NAME
returns-then-word-ne-NAME c = let a = c.args in literal-no-name a.work.now a.u a.w _ c.word.ensures a.p c.if-word-ne-NAME.true

pub word-number-requires : goal.word-number-requires
word-number-requires c = search rules

pub word-binding-requires : goal.word-binding-requires
word-binding-requires c = search rules

pub agrees-requires : goal.agrees-requires
agrees-requires c = search rules

pub returns : goal.returns
returns c = let a = c.args in literal-name a.work.now a.u a.w _ c.word.ensures a.p _ _ _ c.if-word-ne-NAME.false c.word-number.ensures c.word-binding.ensures c.agrees.ensures
