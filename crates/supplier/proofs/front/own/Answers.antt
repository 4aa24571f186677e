use Rattle.std.proofs.Common.{sym, ap, subst, ◌∙◌}
use Rattle.core_term.specs.Code.Opened.{opened_in}
use Rattle.supplier.specs.Told.{Fronted}
use Rattle.supplier.specs.ToldLaws.{opened-as, front-variable, front-operation, front-integer, front-boolean, front-decimal, front-name, front-list, front-if, front-application, front-none}
use Rattle.supplier.proofs.front.own.Goals as goal

pub lambda-requires : goal.lambda-requires
lambda-requires c = opened-as _ _ _ _ c.opened.ensures c.in-Some.is c.in-Lambda.is

pub returns-in-Variable : goal.returns-in-Variable
returns-in-Variable c = subst (Fronted _) (sym c.of-in-Variable.ensures) (front-variable _ _ (opened-as _ _ _ _ c.opened.ensures c.in-Some.is c.in-Variable.is))

pub returns-in-Operation : goal.returns-in-Operation
returns-in-Operation c = subst (Fronted _) (sym c.of-in-Operation.ensures) (front-operation _ _ (opened-as _ _ _ _ c.opened.ensures c.in-Some.is c.in-Operation.is))

pub returns-in-Integer : goal.returns-in-Integer
returns-in-Integer c = subst (Fronted _) (sym c.of-in-Integer.ensures) (front-integer _ _ (opened-as _ _ _ _ c.opened.ensures c.in-Some.is c.in-Integer.is))

pub returns-in-Boolean : goal.returns-in-Boolean
returns-in-Boolean c = subst (Fronted _) (sym c.of-in-Boolean.ensures) (front-boolean _ _ (opened-as _ _ _ _ c.opened.ensures c.in-Some.is c.in-Boolean.is))

pub returns-in-Decimal : goal.returns-in-Decimal
returns-in-Decimal c = subst (Fronted _) (sym c.of-in-Decimal.ensures) (front-decimal _ _ _ (opened-as _ _ _ _ c.opened.ensures c.in-Some.is c.in-Decimal.is))

pub returns-in-Name : goal.returns-in-Name
returns-in-Name c = subst (Fronted _) (sym c.of-in-Name.ensures) (front-name _ _ (opened-as _ _ _ _ c.opened.ensures c.in-Some.is c.in-Name.is))

pub returns-in-List : goal.returns-in-List
returns-in-List c = subst (Fronted _) (sym c.of-in-List.ensures) (front-list _ _ (opened-as _ _ _ _ c.opened.ensures c.in-Some.is c.in-List.is))

pub returns-in-If : goal.returns-in-If
returns-in-If c = subst (Fronted _) (sym c.of-in-If.ensures) (front-if _ (opened-as _ _ _ _ c.opened.ensures c.in-Some.is c.in-If.is))

pub returns-in-Lambda : goal.returns-in-Lambda
returns-in-Lambda c = c.lambda.ensures

pub returns-in-Application : goal.returns-in-Application
returns-in-Application c = subst (Fronted _) (sym c.of-in-Application.ensures) (front-application _ _ (opened-as _ _ _ _ c.opened.ensures c.in-Some.is c.in-Application.is))

pub returns-in_default : goal.returns-in_default
unfolding opened_in
returns-in_default c = subst (Fronted _) (sym c.of.ensures) (front-none _ (ap (opened_in c.args.words.now) (sym c.in_default.is) ∙ c.opened.ensures))
