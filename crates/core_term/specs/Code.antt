-- What the code's functions promise, and the laws that their proofs cite, in the order of the source.
pub mod Opened
pub mod OpenedLaws
pub mod Counted
pub mod Window
pub mod WindowLaws
pub mod HeadLaws
pub mod Shape
pub mod Walk
pub mod Scan
pub mod Windows
