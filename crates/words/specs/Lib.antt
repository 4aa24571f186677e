-- Numbers, lists and texts that every other crate's definitions and proofs cite.
pub mod Limits
pub mod ListLaws
pub mod Lists
pub mod Parts
pub mod Tables
pub mod TableLaws
pub mod Options
pub mod Code
pub mod Text
pub mod TestLaws
pub mod Each
