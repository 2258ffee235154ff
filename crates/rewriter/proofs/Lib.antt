pub mod Calls
pub mod Together
pub mod There
pub mod Typed
pub mod IsMadeOrRefused
pub mod Whole
pub mod Panels
pub mod Notified
pub mod Noted
pub mod OpenMarks
pub mod Going
mod Leaf
pub mod Undo
pub mod Listening
pub mod Rolled
pub mod Parts
pub mod ContextLaws
pub mod Following
pub mod Made
pub mod MarkLaws
pub mod Outcomes
pub mod Released
pub mod NextTo
mod Unchecked
mod Inserted
pub use Rattle.rewriter_machine.proofs.Numbers
