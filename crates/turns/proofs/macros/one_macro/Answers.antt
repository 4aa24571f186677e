-- `macros::one_macro`: the rules, and their reference in the table of macros.
use borrow.Author.Rules.{rules}
use Rattle.turns.specs.MacroRuleLaws.{one-bad, one-good}
use mathlib.Core.Path.{sym, ◌∙◌}
use Rattle.turns.proofs.macros.one_macro.Goals as goal

pub returns-in_err-parsed : goal.returns-in_err-parsed
returns-in_err-parsed c = let a = c.args in
    rw c.from_residual.ensures (one-bad a.work.now a.macros.now a.form a.wrap a.count a.top c.requires c.rules.new.work c.rules.result c.rules.ensures a.macros.now c.in_err-parsed.was)

pub returns : goal.returns
returns c = let a = c.args in
    one-good a.work.now a.macros.now a.form a.wrap a.count a.top c.requires c.rules.new.work c.rules.result c.rules.ensures _ c.in_ok-parsed.was
