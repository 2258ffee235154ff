pub mod Arguments
pub mod Counts
pub mod ItemSteps
pub mod Signs
