-- `leaf::constant`.
use borrow.Author.Rules.{rules}
use Rattle.forms.proofs.quotes.put_constant.Reads as put-constant-reads
use Rattle.turns.proofs.answers.Reached.moved.Reads as moved-reads
use Rattle.turns.specs.LeafLaws.{constant-fits, constant-below, constant-made}
use Rattle.turns.proofs.leaf.constant.Goals as goal

pub put_constant-at-requires : goal.put_constant-at-requires
put_constant-at-requires c = let a = c.args in (constant-fits a.kind a.first a.second a.reached a.core.now c.requires.0, c.requires.1)

pub overflow_cast-at : goal.overflow_cast-at
overflow_cast-at c = let a = c.args in record { fits = constant-below a.kind a.first a.second a.reached a.core.now c.requires.0 _ c.put_constant-at.ensures.end }

pub returns : goal.returns
returns c = let a = c.args in constant-made a.kind a.first a.second a.reached a.core.now _ _ _ c.moved.ensures c.put_constant-at.ensures
