pub mod SamenessLaws
pub mod ShownLaws
