pub mod Alike
pub mod Claim
pub mod SaidLaws
pub mod TriesLaws
