use Rattle.std.proofs.Common.{arith}
use Rattle.writer.specs.Called.{called_by, said_of}
use Rattle.writer.specs.LaidLaws.{left_is}
use Rattle.writer.specs.OpenedLaws.{decimal-places, name-spelled, variable-named, lambda-named, opens-variable, opens-operation, opens-integer, opens-boolean, opens-decimal, opens-name, opens-list, opens-if, opens-lambda, opens-application}
use Rattle.writer.proofs.pieces.begin.Goals as goal

pub variable-requires : goal.variable-requires
variable-requires c = (c.requires.0, variable-named _ _ c.requires.1.stands _ c.requires.1.fits _ c.in-Variable.is, c.requires.2)

pub decimal-requires : goal.decimal-requires
decimal-requires c =
    let k = decimal-places _ _ c.requires.1.stands _ _ c.in-Decimal.is in
    (c.requires.0, k.0, k.1)

pub name_opening-requires : goal.name_opening-requires
name_opening-requires c =
    let a = c.args in
    (c.requires.0, name-spelled _ _ c.requires.1.stands (said_of a.pen) c.requires.1.fits _ c.in-Name.is)

pub lambda_opening-requires : goal.lambda_opening-requires
lambda_opening-requires c =
    let a = c.args in
    let k = lambda-named _ _ c.requires.1.stands (said_of a.pen) c.requires.1.fits _ _ c.in-Lambda.is in
    (c.requires.0, omega arith, k, c.requires.2)

pub returns-in-Variable : goal.returns-in-Variable
returns-in-Variable c =
    let a = c.args in
    λ x s. left_is (opens-variable _ x s (said_of a.pen) _ _ c.in-Variable.is) c.variable.ensures

pub returns-in-Operation : goal.returns-in-Operation
returns-in-Operation c = λ x s. left_is (opens-operation _ x s _ _ _ c.in-Operation.is) c.numbered.ensures

pub returns-in-Integer : goal.returns-in-Integer
returns-in-Integer c = λ x s. left_is (opens-integer _ x s _ _ _ c.in-Integer.is) c.integer.ensures

pub returns-in-Boolean : goal.returns-in-Boolean
returns-in-Boolean c = λ x s. left_is (opens-boolean _ x s _ _ _ c.in-Boolean.is) c.boolean.ensures

pub returns-in-Decimal : goal.returns-in-Decimal
returns-in-Decimal c = λ x s. left_is (opens-decimal _ x s _ _ _ _ c.in-Decimal.is) c.decimal.ensures

pub returns-in-Name : goal.returns-in-Name
returns-in-Name c =
    let a = c.args in
    λ x s. left_is (opens-name _ x s (said_of a.pen) _ _ c.in-Name.is) (c.name_opening.ensures (called_by a.pen.called))

pub returns-in-List : goal.returns-in-List
returns-in-List c = λ x s. left_is (opens-list _ x s _ _ _ c.in-List.is) (c.list_opening.ensures _ _)

pub returns-in-If : goal.returns-in-If
returns-in-If c = λ x s. left_is (opens-if _ x s _ _ c.in-If.is) c.copy.ensures

pub returns-in-Lambda : goal.returns-in-Lambda
returns-in-Lambda c = λ x s. left_is (opens-lambda _ x s _ _ _ _ c.in-Lambda.is) c.lambda_opening.ensures

pub returns-in-Application : goal.returns-in-Application
returns-in-Application c = λ x s. left_is (opens-application _ x s _ _ _ c.in-Application.is) c.byte.ensures
