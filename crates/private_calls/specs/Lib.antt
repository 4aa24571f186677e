-- Demand 3 for two calls of the expansion service: from the test that computes, and phrase by phrase.
pub mod Calls
pub mod Said
