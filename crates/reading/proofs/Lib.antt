-- Laws of the definitions in specs/.
pub mod Laws
pub mod AcceptsLaws
pub mod AcceptedLaws
pub mod CoreAcceptsLaws
