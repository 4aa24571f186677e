-- What a recipe text and a quoted term are made of: constants, names by number, lists; and the table that spells the names.
pub mod Constant
pub mod ConstantLaws
pub mod Rows
pub mod Datum
pub mod NameTable
pub mod NameTableLaws
