pub mod Roles
pub mod Symbols
pub mod Table
pub mod Found
pub mod Nameless
pub mod Listeners
pub mod Telling
pub mod Lines
