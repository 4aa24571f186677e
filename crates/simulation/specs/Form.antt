-- The form of the private name, reached in place: `form-agree`. Both runs read its rules, and go on side by side.
pub mod Holes
pub mod Scopes
pub mod Places
