-- What the words of the work table mean, and laws of that meaning.
pub mod Arena
pub mod ArenaLaws
pub mod NodeLaws
pub mod Origins
pub mod Cells
pub mod CellLaws
pub mod Nodes
pub mod Offsets
pub mod LayOut
pub mod Lists
pub mod ListLaws
