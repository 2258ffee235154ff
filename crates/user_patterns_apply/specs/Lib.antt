pub mod Own
pub mod Planned
pub mod Stands
pub mod Types
pub mod Matched
pub mod Mismatches
pub mod Numbers
pub mod Built
