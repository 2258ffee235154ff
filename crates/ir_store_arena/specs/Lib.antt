pub mod Gone
pub mod Registry
pub mod Lending
pub mod Rows
pub mod Drafts
pub mod Slots
pub mod Shapes
pub mod Contents
pub mod Made
pub use Rattle.ir_tree_laws.specs.trees
pub use Rattle.ir_tree_laws.specs as tree_laws
pub use Rattle.ir_tree_laws.specs.types
