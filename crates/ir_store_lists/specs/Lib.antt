pub mod Lists
pub mod Ring
pub mod Labels
pub mod Pages
pub mod Slots
