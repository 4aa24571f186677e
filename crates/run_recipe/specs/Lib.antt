-- The running program: what it prints for an answer, and each way through it.
pub mod Line
pub mod ValueLaws
