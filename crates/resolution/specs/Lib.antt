-- What is in hand while a name is looked at, what a lookup finds, and laws of both.
pub mod Marks
pub mod MarkLaws
pub mod HandLaws
pub mod BinderLaws
pub mod WalkLaws
pub mod Names
pub mod NameLaws
pub mod Direct
pub mod DirectLaws
pub mod Rows
