pub mod CanBuild
pub mod Unified
