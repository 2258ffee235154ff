pub mod Arithmetic
pub mod FoldLaws
pub mod Folds
pub mod Laws
