pub mod Expressions
pub mod Code
