-- The definition of expansion: what marks and substitutions carried through the whole tree immediately give.
-- Read in this order: what a name means; rules, matching and transcribing; forms; the run. From Computed on, known runs.
-- Then laws: of outcomes, rules, forms and runs; bounds, the core term, the ways that computations keep to, and tries with more fuel. Then
-- request L2: what was accepted before it, and its known runs.
pub mod Lookup
pub mod Rules
pub mod Match
pub mod Transcribe
pub mod Computation
pub mod Forms
pub mod Run
pub mod Computed
pub mod Row
pub mod Rows
pub mod RowsMore
pub mod RowsShapes
pub mod RowsTables
pub mod RowsEvents
pub mod RowsFuel
pub mod RowsEllipses
pub mod Outcomes
pub mod TidyRules
pub mod FormLaws
pub mod RunLaws
pub mod Bounds
pub mod CoreTerm
pub mod Ways
pub mod MoreFuel
pub mod Depths
pub mod RowsDepths
