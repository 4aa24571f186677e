-- From a recipe's text and a supplier's to the whole output of the comparing program.
pub mod Output
pub mod Rows
pub mod TextLaws
