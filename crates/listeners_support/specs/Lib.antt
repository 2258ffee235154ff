pub mod Surroundings
pub mod Near
pub mod Facts
pub mod Mapped
pub mod Gathered
pub use Rattle.ir_event.specs.store.Nodes
pub use Rattle.ir_event.specs.store.Stored
pub use Rattle.ir_event.specs as events
pub mod Bits
pub mod Map
