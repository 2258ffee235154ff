pub mod Standing
pub mod Named
pub mod Notes
pub mod Unsupported
pub mod TextTokens
pub mod PatternReasons
