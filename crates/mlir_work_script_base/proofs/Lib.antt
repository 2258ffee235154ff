pub mod Joins
pub mod Made
pub mod Cutting
pub mod Trimming
pub mod Digits
pub mod Printed
pub mod KindWords
pub mod Dividing
pub mod Dividers
pub mod Spanning
pub mod Quotes
pub mod Listed
pub mod Wording
mod Placed
