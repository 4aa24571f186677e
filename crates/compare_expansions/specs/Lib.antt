-- The comparing program: what it prints, and each way through it.
pub mod Line
pub mod PairLaws
