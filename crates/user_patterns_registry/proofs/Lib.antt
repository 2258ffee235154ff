pub mod Forgetting
pub mod Registries
pub mod Replacing
pub mod Halves
pub mod Refuting
pub mod Telling
pub mod Trying
pub mod Widest
