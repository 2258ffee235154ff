pub mod Registry
pub mod Shown
pub mod CheckResult
pub mod Changes
pub mod Rows
pub mod Sampled
