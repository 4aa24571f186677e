-- The runner above the expander (request L11): what running the words that a call of expansion left gives, by that call's promise.
pub mod Statement
pub mod Calls
