pub mod Operands
pub mod Points
pub mod Left
pub mod Lasts
pub mod Alike
pub mod Moves
pub mod Locality
pub mod Heads
pub mod Near
pub mod Tables
pub mod SortedFacts
pub mod Reading
pub mod Meanings
pub mod Following
pub mod Silent
pub mod Names
mod Words
mod Indexes
pub mod Lookups
pub mod Writes
pub use Rattle.ir_event.proofs as of_events
