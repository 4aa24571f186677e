-- From a recipe text to the whole output of the filing program. Written states that an accepted recipe is written.
pub mod Output
pub mod Rows
pub mod RowsDecimals
pub mod Written
pub mod WrittenLaws
