use Rattle.std.proofs.Common.{refl, ⊎_elim}
use Rattle.core_term.specs.Code.Opened.{shape_by, shape_in}
use Rattle.core_term.proofs.nodes.shape_of.Goals as goal

pub returns-in-Variable : goal.returns-in-Variable
unfolding shape_in shape_by
returns-in-Variable c =
    ⊎_elim (λ w. rw w.1 refl) (⊎_elim (λ w. rw w.1 refl) (⊎_elim (λ w. rw w.1 refl) (⊎_elim (λ w. rw w.1 refl) (λ w. rw w.1 refl)))) c.in-Variable.is

pub returns-in-Decimal : goal.returns-in-Decimal
unfolding shape_in shape_by
returns-in-Decimal c = rw c.in-Decimal.is refl

pub returns-in-List : goal.returns-in-List
unfolding shape_in shape_by
returns-in-List c = rw c.in-List.is refl

pub returns-in-If : goal.returns-in-If
unfolding shape_in shape_by
returns-in-If c = rw c.in-If.is refl

pub returns-in-Lambda : goal.returns-in-Lambda
unfolding shape_in shape_by
returns-in-Lambda c = rw c.in-Lambda.is refl

pub returns-in-Application : goal.returns-in-Application
unfolding shape_in shape_by
returns-in-Application c = rw c.in-Application.is refl
