pub mod Outcomes
pub mod Contents
pub mod Checks
pub mod Families
pub mod Folded
pub mod Kept
pub mod Cases
