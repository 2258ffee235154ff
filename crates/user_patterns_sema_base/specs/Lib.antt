pub mod Words
pub mod Views
pub mod Names
pub mod NameViews
pub mod Types
pub mod TypeViews
