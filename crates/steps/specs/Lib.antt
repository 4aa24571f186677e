-- A macro step on cells: what its functions mean, and laws.
pub mod Fits
pub mod FitLaws
pub mod Build
pub mod BuildLaws
pub mod ResultLaws
pub mod CopyLaws
pub mod EllipsisLaws
pub mod Apply
pub mod ApplyLaws
