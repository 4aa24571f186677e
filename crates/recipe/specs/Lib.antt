-- A recipe as expansion sees it: names with marks and bindings, trees of them, and the item table that holds a tree.
pub mod Name
pub mod Tree
pub mod TreeLaws
pub mod TreeNames
pub mod Tidy
pub mod Table
pub mod Rows
pub mod TableLaws
pub mod TableWeight
pub mod TableNames
pub mod TableTidy
pub mod ItemLaws
pub mod TreeFrom
pub mod Layout
