pub mod Modules
pub mod Step
pub mod Rows
pub mod Tags
pub mod Subjects
pub mod Heads
pub mod Listener
pub mod Notification
pub mod Bounds
pub mod Panels
pub mod Looks
pub mod Facts
pub mod Edits
pub mod Undoing
pub use Rattle.ir_store.specs as store
pub use Rattle.ir_store.specs.tree_laws
pub use Rattle.op_registry.specs as registry
pub use Rattle.ir_store.specs.trees
pub use Rattle.ir_store.specs.types
