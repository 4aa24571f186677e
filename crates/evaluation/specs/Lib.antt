-- Core terms run (request L11). To be read in this order: Code, Computation, Numbers, Evaluate (the evaluator), Run (a call), Rows; then
-- MoreBudget, the claim about larger budgets, and BudgetSaid, the same in words. The rest are laws.
pub mod Code
pub mod Computation
pub mod Numbers
pub mod Evaluate
pub mod Run
pub mod Rows
pub mod Grows
pub mod Kin
pub mod Beside
pub mod MoreBudget
pub mod KinLaws
pub mod InRange
