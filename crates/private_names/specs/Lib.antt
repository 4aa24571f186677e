-- Private names (demand 3): no run shows them. Read Demand3 first, the demand phrase by phrase; Statement says it as a test that computes.
-- Witnesses computes the test on recipes, for and against each hypothesis, and Instances has rows that are instances of the claim.
-- The proof has a crate of its own, private_names_proof, so that an edit of the statement is refused by a witness.
pub mod Demand3
pub mod Statement
pub mod Witnesses
pub mod Instances
