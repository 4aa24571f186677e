-- Tokens of a text: what the functions promise, and the laws that their proofs cite, in the order of the source.
pub mod Answers
pub mod NumberLaws
pub mod Told
pub mod ToldLaws
pub mod Answered
pub mod AnsweredLaws
