-- What the calls for C and Rust tell in a lent table.
pub mod Calls
pub mod CallLaws
