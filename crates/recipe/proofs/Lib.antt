-- Laws of the definitions in specs/.
pub mod TableLaws
pub mod TableWeightLaws
pub mod TableNamesLaws
pub mod TableTidyLaws
pub mod LayoutLaws
