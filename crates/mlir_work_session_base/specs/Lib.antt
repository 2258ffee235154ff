pub mod RowText
pub mod IdsText
pub mod PlacedOps
pub mod OperationObjects
pub mod OperationWalk
