pub mod Following
pub mod Checked
pub mod Keeping
pub mod Logs
pub mod Products
pub mod Verdicts
pub mod Found
