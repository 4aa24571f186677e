-- `base_forms::lambda_body`: the header's words and the names' numbers, then the names' binders.
use native.Mathlib.Omega.{arith}
use mathlib.Core.Path.{◌∙◌}
use Rattle.turns.specs.LambdaLaws.{lambda-proper, lambda-space, lambda-core, lambda-few, numbers-room, numbers-small, bound_by}
use Rattle.turns.proofs.base_forms.lambda_body.Goals as goal

pub put-at-requires : goal.put-at-requires
put-at-requires c = (lambda-core c.args.work.now c.args.core.now c.args.form.node c.args.form.wrap c.args.reached c.requires.0 c.requires.1).fits

pub put_numbers-end-requires : goal.put_numbers-end-requires
put_numbers-end-requires c = numbers-room c.args.work.now c.args.core.now c.args.form.node c.args.form.wrap c.args.reached c.requires.0 c.requires.1 _ _ c.element-list.ensures c.count-count.ensures _ _ c.put-at.ensures c.put-at.auto.core

pub bind-scope-requires : goal.bind-scope-requires
bind-scope-requires c = ((c.requires.1, lambda-proper c.args.work.now c.args.core.now c.args.form.node c.args.form.wrap c.args.reached c.requires.0 c.requires.1), lambda-space c.args.work.now c.args.core.now c.args.form.node c.args.form.wrap c.args.reached c.requires.0 c.requires.1)

pub overflow_cast-end : goal.overflow_cast-end
overflow_cast-end c = record { fits = numbers-small c.args.work.now c.args.core.now c.args.form.node c.args.form.wrap c.args.reached c.requires.0 c.requires.1 _ _ c.element-list.ensures c.count-count.ensures _ _ c.put-at.ensures _ _ c.put_numbers-end.ensures }

pub widened-requires : goal.widened-requires
widened-requires c = lambda-few c.args.work.now c.args.core.now c.args.form.node c.args.form.wrap c.args.reached c.requires.0 c.requires.1 _ _ c.element-list.ensures c.count-count.ensures

pub shape_of-work : goal.shape_of-work
shape_of-work c = c.bind-scope.auto.work

pub shape_of-core : goal.shape_of-core
shape_of-core c = c.put_numbers-end.auto.core ∙ c.put-at.auto.core

pub returns : goal.returns
returns c = bound_by c.args.work.now c.args.core.now c.args.form.node c.args.form.wrap c.args.reached c.requires.0 c.requires.1 _ _ c.element-list.ensures c.count-count.ensures _ _ c.put-at.ensures _ _ c.put_numbers-end.ensures _ _ _ _ c.element-body.ensures c.bind-scope.ensures _ c.widened.ensures
