pub mod Named
pub mod BoundValues
pub mod Widths
pub mod ShallowStanding
pub mod Near
pub mod Made
pub mod Plans
