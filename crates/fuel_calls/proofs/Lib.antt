-- Laws of the definitions in specs/.
pub mod Calls
pub mod SaidLaws
