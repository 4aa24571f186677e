use Rattle.std.proofs.Common.{sym, ◌∙◌, length, arith}
use Rattle.core_term.specs.Code.Counted.{none-counted}
use Rattle.core_term.proofs.OfCode.WalkLaws.{shaped-none}
use Rattle.core_term.proofs.OfCode.CheckLaws.{many-no, none-no, clean-whole, left-no, walked-first, walked_more, walked_none, walked_all}
use Rattle.core_term.proofs.every_window.Goals as goal

pub returns-then-operations-gt-OPERATIONS : goal.returns-then-operations-gt-OPERATIONS
returns-then-operations-gt-OPERATIONS c = none-counted _ (many-no _ _ c.args.words.now c.if-operations-gt-OPERATIONS.true)

pub returns-in_err-used : goal.returns-in_err-used
returns-in_err-used c =
    c.from_residual.ensures
    ∙ none-counted _ (none-no _ _ (length c.args.flags.now) c.args.words.now 0 _ c.requires.1 (shaped-none _ _ _ _ _ _ c.term.ensures.0 c.in_err-used.was))

pub returns-then-used-words : goal.returns-then-used-words
returns-then-used-words c =
    none-counted _ (left-no _ _ (length c.args.flags.now) c.args.words.now _ _ (clean-whole _ _ (length c.args.flags.now) c.args.words.now 0 _ c.requires.1 _ _ c.in_ok-used.ensures.0) c.if-used-words.true)

pub loop-base-init : goal.loop-base-init
loop-base-init c = walked-first _ _ _ _ _ _ _ c.requires.1 c.in_ok-used.ensures.0 c.in_ok-used.ensures.1

pub loop-base-preserved : goal.loop-base-preserved
loop-base-preserved c =
    walked_more _ _ _ _ _ _ _ _ c.loop-base.invariant _ _ _ (omega arith) c.in_ok-term.ensures.0 c.in_ok-term.ensures.1

pub returns-in_err-term : goal.returns-in_err-term
returns-in_err-term c =
    c.from_residual-in_err-term.ensures
    ∙ none-counted _ (walked_none _ _ _ _ _ _ _ _ c.loop-base.invariant (shaped-none _ _ _ _ _ _ c.term-in-loop-base.ensures.0 c.in_err-term.was))

pub returns : goal.returns
returns c = sym (walked_all _ _ _ _ _ _ _ _ c.loop-base.invariant (omega arith) c.if-used-words.false c.if-operations-gt-OPERATIONS.false)
