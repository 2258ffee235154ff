pub mod Built
pub mod Interned
pub mod Keyed
