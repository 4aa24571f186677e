-- Private names cannot show where core terms are run (request L11). Statement says it as a test that computes and in the demand's words;
-- Instances has rows; proofs/ has that these are instances of the claim, and the proofs of the two.
pub mod Statement
pub mod Instances
