-- Writing: the text of a term laid into an output, byte by byte.
pub mod Laid
pub mod LaidLaws
pub mod Digits
pub mod FormalsLaws
pub mod DigitsLaws
pub mod PointLaws
pub mod Called
pub mod CalledLaws
pub mod Pieces
pub mod PiecesLaws
pub mod Opened
pub mod OpenedLaws
pub mod Walk
pub mod WalkLaws
pub mod Writing
pub mod Wrote
pub mod WroteLaws
