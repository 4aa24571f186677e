-- Laws of the definitions in specs/.
pub mod Written
pub mod WrittenLaws
