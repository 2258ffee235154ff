pub mod RowWalks
pub mod Lines
pub mod JsonText
pub mod OperationWalk
pub mod OperationObjects
