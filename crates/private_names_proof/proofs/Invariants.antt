pub mod AtFormLaws
pub mod Followed
pub mod KeptLaws
pub mod KindsLaws
pub mod Places
pub mod Reached
pub mod TestsLaws
pub mod WatchLaws
