pub mod MeaningsLaws
pub mod Offsets
