pub mod EndViews
pub mod Ending
pub mod Sema
pub mod SemaViews
