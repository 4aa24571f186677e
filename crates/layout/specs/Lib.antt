-- Laws of the tests that expansion makes before it runs, one for each way through the code.
pub mod ItemTests
pub mod Counts
pub mod Begins
pub mod Ground7
pub mod Places
pub mod DistinctNames
pub mod NameItems
pub mod Walk
pub mod Listing
