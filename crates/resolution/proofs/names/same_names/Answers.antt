-- `names::same_names`: by number, else as the walk tells.
use Rattle.std.proofs.Common.{◌∙◌}
use Rattle.resolution.specs.NameLaws.{whole_same, differ-numbers}
use Rattle.resolution.proofs.names.same_names.Goals as goal

pub returns-then-number_of : goal.returns-then-number_of
returns-then-number_of c =
    let a = c.args in
    differ-numbers a.work.now a.a a.v a.b a.w _ _ c.number_of.ensures c.number_of-2.ensures c.if-number_of.true

pub returns : goal.returns
returns c =
    let a = c.args in
    c.same_walked.ensures ∙ whole_same a.work.now a.a a.v a.b a.w
