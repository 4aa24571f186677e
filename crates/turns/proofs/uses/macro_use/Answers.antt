-- `uses::macro_use`: the use is marked, the step made, and its result marked.
use borrow.Author.Rules.{rules}
use Rattle.turns.specs.UseLaws.{use-marks, use-stepping, use-stopped, use-paid, use-marks-again, use-made}
use Rattle.turns.proofs.uses.macro_use.Goals as goal

pub put_mark-used-requires : goal.put_mark-used-requires
put_mark-used-requires c = let a = c.args in
    use-marks a.work.now a.macros.now a.fuel a.list.node a.list.wrap a.number a.reached c.requires

pub apply-requires : goal.apply-requires
apply-requires c = let a = c.args in
    use-stepping a.work.now a.macros.now a.fuel a.list.node a.list.wrap a.number a.reached c.requires _ _ _ _ c.rules_of-rules.ensures c.rest-operands.ensures c.put_mark-used.ensures c.put_mark-used.auto.work

pub put_mark-result-requires : goal.put_mark-result-requires
put_mark-result-requires c = let a = c.args in
    use-marks-again a.work.now a.macros.now a.fuel a.list.node a.list.wrap a.number a.reached c.requires _ _ _ _ c.rules_of-rules.ensures c.rest-operands.ensures c.put_mark-used.ensures c.put_mark-used.auto.work _ _ c.apply.ensures _ c.in-Ok.is c.apply.auto.work

pub stepped-requires : goal.stepped-requires
stepped-requires c = let a = c.args in
    use-paid a.work.now a.macros.now a.fuel a.list.node a.list.wrap a.number a.reached c.requires _ _ _ _ c.rules_of-rules.ensures c.rest-operands.ensures c.put_mark-used.ensures c.put_mark-used.auto.work _ _ c.apply.ensures _ c.in-Ok.is c.apply.auto.work

pub returns-in-Err : goal.returns-in-Err
returns-in-Err c = let a = c.args in
    use-stopped a.work.now a.macros.now a.fuel a.list.node a.list.wrap a.number a.reached c.requires _ _ _ _ c.rules_of-rules.ensures c.rest-operands.ensures c.put_mark-used.ensures c.put_mark-used.auto.work _ _ c.apply.ensures _ c.in-Err.is _ c.refused.ensures

pub returns-in-Ok : goal.returns-in-Ok
returns-in-Ok c = let a = c.args in
    use-made a.work.now a.macros.now a.fuel a.list.node a.list.wrap a.number a.reached c.requires _ _ _ _ c.rules_of-rules.ensures c.rest-operands.ensures c.put_mark-used.ensures c.put_mark-used.auto.work _ _ c.apply.ensures _ c.in-Ok.is c.apply.auto.work _ _ c.put_mark-result.ensures _ c.stepped.ensures
