pub mod CheckLaws
pub mod ScanLaws
pub mod ShapeLaws
pub mod WalkLaws
