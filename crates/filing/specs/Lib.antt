-- The filing program's one call: Filed is its promise.
pub mod Filed
pub mod Written
pub mod Lines
pub mod File
pub mod FileLaws
pub mod RunLaws
pub mod Room
