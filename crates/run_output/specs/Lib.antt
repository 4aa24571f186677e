-- The output of the program that runs a recipe (request L11): its definition, over `read` and `recipe_run`, known outputs, and how it is laid (Laid).
pub mod Output
pub mod Rows
pub mod Laid
