pub mod SoundLaws
pub mod SoundTermsLaws
pub mod WorldStateLaws
pub mod WorldsLaws
