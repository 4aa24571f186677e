-- Forms on cells: what its functions answer, and laws.
pub mod Shapes
pub mod ShapeLaws
pub mod Binders
pub mod BinderLaws
pub mod Quotes
pub mod QuoteLaws
pub mod NumberLaws
