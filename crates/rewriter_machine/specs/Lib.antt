pub mod Edits
pub mod Contents
pub mod Panels
pub mod Machine
pub mod Runs
pub mod Points
pub mod Commands
pub use Rattle.ir_event.specs as events
pub mod Replacing
pub mod Erasing
pub mod Inserting
pub mod Events
pub mod Journals
