-- The expansion service: the cycle of expressions and operands, and what a call answers and leaves.
pub mod LentLaws
pub mod Cycle
pub mod CycleLaws
pub mod CycleCallLaws
pub mod OperandLaws
pub mod Service
pub mod Start
pub mod StartLaws
pub mod ServiceLaws
