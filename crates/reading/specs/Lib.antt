-- Reading defined: a recipe text's bytes to tokens, tokens to two elements, elements to items and names.
-- Read is its meaning, RecipeText says which texts are accepted, and Accepts proves it.
pub mod Token
pub mod Offset
pub mod Meaning
pub mod Numbering
pub mod NumberingLaws
pub mod Elements
pub mod Read
pub mod Rows
pub mod RecipeText
pub mod Laws
pub mod Accepts
pub mod AcceptedLaws
pub mod CoreText
pub mod CoreAccepts
