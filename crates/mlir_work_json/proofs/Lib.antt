pub mod Cutting
pub mod Flat
pub mod Writing
pub mod OneLine
pub mod Printed
pub mod Saying
pub mod RowsBack
pub mod Own
mod Walks
