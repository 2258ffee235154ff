pub mod Keys
pub mod Lending
pub mod Orders
pub mod Splits
pub mod Lookups
pub mod Changed
pub use Rattle.ir_tree_laws.proofs.of_trees
pub use Rattle.ir_tree_laws.proofs as of_tree_laws
