pub mod Parted
pub mod Nesting
pub mod Placing
pub mod Grouping
pub mod Tails
pub mod Ending
pub mod Putting
pub mod Moving
