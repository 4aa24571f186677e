-- By the top frame.
use mathlib.Core.Path.{sym, ◌∙◌}
use Rattle.runner.specs.ComeLaws.{come-branch, come-next, come-complete}
use Rattle.runner.proofs.come.come.Goals as goal

pub branch-words-requires : goal.branch-words-requires
branch-words-requires c = let p = c.requires in
    (p.0, (p.2.0, p.2.1, come-branch c.args.s p.2.2 p.1 _ (sym c.frame_at.ensures ∙ c.in-Test.is)))

pub returns-in-Test : goal.returns-in-Test
returns-in-Test c = λ budget whole x. c.branch-words.ensures budget whole (come-branch c.args.s x c.requires.1 _ (sym c.frame_at.ensures ∙ c.in-Test.is))

pub part-requires : goal.part-requires
part-requires c = let p = c.requires in
    (p.0, c.if-f-gt0.true, (p.2.0, p.2.1, come-next c.args.s p.2.2 p.1 _ (sym c.frame_at.ensures ∙ c.in-Parts.is) c.if-f-gt0.true))

pub returns-then-f-gt0 : goal.returns-then-f-gt0
returns-then-f-gt0 c = λ budget whole x. c.part.ensures budget whole
    (come-next c.args.s x c.requires.1 _ (sym c.frame_at.ensures ∙ c.in-Parts.is) c.if-f-gt0.true)

pub apply-requires : goal.apply-requires
apply-requires c = let p = c.requires in
    (p.2.0, p.2.1, come-complete c.args.s p.2.2 p.1 _ (sym c.frame_at.ensures ∙ c.in-Parts.is) c.if-f-gt0.false)

pub returns-else-f-gt0 : goal.returns-else-f-gt0
returns-else-f-gt0 c = λ budget whole x. c.apply.ensures budget whole
    (come-complete c.args.s x c.requires.1 _ (sym c.frame_at.ensures ∙ c.in-Parts.is) c.if-f-gt0.false)
