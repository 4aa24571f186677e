-- Laws of the definitions in specs/.
pub mod GrowsLaws
pub mod Kin
pub mod BesideLaws
pub mod SideBySide
pub mod RunLaws
pub mod MoreBudgetLaws
pub mod KinLaws
pub mod BudgetClaim
pub mod BudgetSaid
pub mod InRangeLaws
pub mod NameLaws
pub mod Steps
