-- One name after another.
use Rattle.std.proofs.Common.{refl, sym, ap, ◌∙◌, arith}
use Rattle.core_term.specs.Code.Window.{good_name}
use Rattle.core_term.specs.Code.WindowLaws.{names-next, names-bad, names-end}
use Rattle.core_term.proofs.head.names_good.Goals as goal

pub loop-i-init : goal.loop-i-init
loop-i-init c = (omega arith, refl)

pub returns-then-not-name_good : goal.returns-then-not-name_good
returns-then-not-name_good c =
    names-bad _ c.args.formals.now _ c.loop-i.invariant.1 (omega arith) (sym c.if-not-name_good.ensures)

pub loop-i-preserved : goal.loop-i-preserved
loop-i-preserved c =
    (omega arith, names-next _ c.args.formals.now _ c.loop-i.invariant.1 (omega arith) (sym c.if-not-name_good.ensures))

pub returns : goal.returns
returns c =
    names-end _ c.args.formals.now c.loop-i.i c.loop-i.invariant.1 (omega arith)
