pub mod Words
pub use Rattle.listeners_support.proofs.Meanings
pub use Rattle.listeners_support.proofs.Reading
pub use Rattle.listeners_support.proofs.SortedFacts
pub mod Regions
pub use Rattle.listeners_support.proofs.of_events
