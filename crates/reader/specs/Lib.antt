-- The reading service: Served is its promise, and Code has what its functions promise.
pub mod Code
pub mod Served
