-- A recipe run (request L11): RecipeRun is the definition, Statement the claim that an expansion runs as its term.
pub mod RecipeRun
pub mod Statement
pub mod Claim
pub mod Rows
