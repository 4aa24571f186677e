-- What a call that runs a recipe answers and leaves.
pub mod Service
pub mod ServiceLaws
