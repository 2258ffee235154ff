pub mod PatternOps
pub mod Forms
pub mod Ranges
pub mod Multiples
pub mod Shifting
pub mod Flags
pub mod Operands
