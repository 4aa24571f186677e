-- Each of the two texts.
use Rattle.std.proofs.Common.{sym, ap, ◌∙◌}
use Rattle.run_recipe.proofs.line.boolean_value.Goals as goal
use Rattle.evaluation.specs.Run.{boolean}
use Rattle.run_output.specs.Output.{acceptance}
use Rattle.writer.specs.LaidLaws.{left_is}
use Rattle.run_recipe.specs.Line.{true-laid, false-laid}

pub returns-then-b : goal.returns-then-b
returns-then-b c =
    left_is (true-laid _ ∙ ap (λ z. acceptance (boolean z) c.args.units) (sym c.if-b.true)) c.named.ensures

pub returns : goal.returns
returns c =
    left_is (false-laid _ ∙ ap (λ z. acceptance (boolean z) c.args.units) (sym c.if-b.false)) c.named-2.ensures
