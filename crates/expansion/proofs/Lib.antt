-- Laws of the definitions in specs/.
pub mod OutcomesLaws
pub mod TidyRulesLaws
pub mod FormLaws
pub mod RunLaws
pub mod Bounds
pub mod CoreTermLaws
pub mod CoreTerm
pub mod WaysLaws
pub mod Ways
pub mod MoreFuel
pub mod DepthLaws
pub mod RowsDepthsLaws
