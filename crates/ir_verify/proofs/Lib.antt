pub mod Sets
pub mod Gathering
pub mod Abouts
pub mod Telling
pub mod Presence
pub mod Pairs
pub mod Silent
pub mod Verdicts
