pub mod Accepted
pub mod Near
pub mod Alike
pub mod Values
pub mod Soundness
pub mod Yields
pub use Rattle.patterns_base.specs as base
