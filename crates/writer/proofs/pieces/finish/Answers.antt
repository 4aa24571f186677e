use Rattle.std.proofs.Common.{⊎_elim}
use Rattle.writer.specs.LaidLaws.{left_is, left-none}
use Rattle.writer.specs.OpenedLaws.{is-integer, is-boolean, is-decimal, closes-variable, closes-operation, closes-constant, closes-name, closes-list, closes_if, closes-lambda, closes-application}
use Rattle.writer.proofs.pieces.finish.Goals as goal

pub returns-in-Variable : goal.returns-in-Variable
returns-in-Variable c =
    λ x s. ⊎_elim (λ w. left_is (closes-variable _ x s _ _ w.1) (left-none c.args.ink _ c.args.out.now c.requires))
    (⊎_elim (λ w. left_is (closes-operation _ x s _ _ w.1) (left-none c.args.ink _ c.args.out.now c.requires))
    (⊎_elim (λ w. left_is (closes-constant _ x s _ _ (is-integer _ x s _ w.1)) (left-none c.args.ink _ c.args.out.now c.requires))
    (⊎_elim (λ w. left_is (closes-constant _ x s _ _ (is-boolean _ x s _ w.1)) (left-none c.args.ink _ c.args.out.now c.requires))
    (⊎_elim (λ w. left_is (closes-constant _ x s _ _ (is-decimal _ x s _ _ w.2)) (left-none c.args.ink _ c.args.out.now c.requires))
    (λ w. left_is (closes-name _ x s _ _ w.1) (left-none c.args.ink _ c.args.out.now c.requires))))))
    c.in-Variable.is

pub returns-in-List : goal.returns-in-List
returns-in-List c = λ x s. left_is (closes-list _ x s _ _ c.in-List.is) (c.list_closing.ensures _)

pub returns-in-If : goal.returns-in-If
returns-in-If c =
    λ x s. ⊎_elim (λ e. left_is (closes_if _ x s _ e) c.byte.ensures)
    (⊎_elim (λ w. left_is (closes-lambda _ x s _ _ _ w.2) c.byte.ensures) (λ w. left_is (closes-application _ x s _ _ w.1) c.byte.ensures))
    c.in-If.is
