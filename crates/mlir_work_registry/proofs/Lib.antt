pub mod Bounds
pub mod Reaching
pub mod Redefining
pub mod CheckingAll
