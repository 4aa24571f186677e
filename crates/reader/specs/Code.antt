-- What the code's functions promise, and the laws that their proofs cite, in the order of the source.
pub mod Index
pub mod Stored
pub mod Placed
pub mod PlacedLaws
pub mod StepLaws
pub mod Moved
pub mod MovedLaws
pub mod Reached
