pub mod JsonEnds
mod Joined
mod Ending
mod Precedings
mod Rows
mod Program
pub mod FileLists
