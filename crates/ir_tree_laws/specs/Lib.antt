pub mod Members
pub mod Stands
pub mod Tables
pub mod Values
pub mod Reads
pub mod Preorder
pub mod Nested
pub mod Reasons
pub mod Changes
pub mod Restores
pub mod Keys
pub mod Renumbered
pub use Rattle.ir_tree.specs as trees
pub use Rattle.ir_tree.specs.types
