pub mod Telling
pub mod Meant
