-- `fits::constant_fits`: the words of both are compared where the node is a constant.
use Rattle.steps.specs.FitLaws.{constant-no, constant-matches}
use mathlib.Core.Logic.{inl, inr}
use Rattle.steps.proofs.fits.constant_fits.Goals as goal

pub returns-then-kind-eq-EMPTY : goal.returns-then-kind-eq-EMPTY
returns-then-kind-eq-EMPTY c = let a = c.args in constant-no a.work.now a.p a.u _ c.word-kind.ensures (inl c.if-kind-eq-EMPTY.true)

pub returns-then-kind-eq-NAME : goal.returns-then-kind-eq-NAME
returns-then-kind-eq-NAME c = let a = c.args in constant-no a.work.now a.p a.u _ c.word-kind.ensures (inr (inl c.if-kind-eq-NAME.true))

pub returns-then-kind-eq-PAIR : goal.returns-then-kind-eq-PAIR
returns-then-kind-eq-PAIR c = let a = c.args in constant-no a.work.now a.p a.u _ c.word-kind.ensures (inr (inr c.if-kind-eq-PAIR.true))

pub returns : goal.returns
returns c = let a = c.args in constant-matches a.work.now a.p a.u _ c.word-kind.ensures c.if-kind-eq-EMPTY.false c.if-kind-eq-NAME.false c.if-kind-eq-PAIR.false _ _ _ _ _ c.word.ensures c.word-2.ensures c.word-3.ensures c.word-4.ensures c.word-5.ensures _ c.matches.ensures
