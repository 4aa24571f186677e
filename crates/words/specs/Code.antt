-- What the code's functions promise, and the laws that their proofs cite, in the order of the source.
pub mod Packed
pub mod Ground
pub mod Answer
