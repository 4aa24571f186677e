-- A list's elements stand below it.
use Rattle.std.proofs.Common.{◌+◌, ◌*◌}
use Rattle.forms.specs.Quotes.{Walked}
use Rattle.forms.proofs.quotes.+quote_quote_all.Given as goal

abbrev pub decreases-quote : goal.decreases-quote
decreases-quote l = 2 * l.node + 1

abbrev pub decreases-quote_all : goal.decreases-quote_all
decreases-quote_all l = 2 * l.list

abbrev pub invariant-quote_all-loop-first : goal.invariant-quote_all-loop-first
invariant-quote_all-loop-first l = Walked l.work l.list l.at l.initial.core l.rest l.n l.core

abbrev pub decreases-quote_all-loop-first : goal.decreases-quote_all-loop-first
decreases-quote_all-loop-first l = l.rest
