pub mod IndexLaws
pub mod NameStepLaws
pub mod ServedLaws
pub mod StoredLaws
