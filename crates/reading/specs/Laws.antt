-- Laws of the definition, one file for each part of it.
pub mod Tokens
pub mod Meanings
pub mod Elements
pub mod Spelling
