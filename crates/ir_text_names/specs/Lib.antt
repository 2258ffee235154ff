pub mod Packs
pub mod States
pub mod NameReading
pub mod BlockReading
pub mod ListSteps
pub mod Alike
