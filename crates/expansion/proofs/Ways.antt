pub mod BindingsLaws
pub mod Grounds
pub mod OwnNamesLaws
