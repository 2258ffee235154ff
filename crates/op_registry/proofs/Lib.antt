pub mod ByName
pub mod TypeLists
