pub mod Outcomes
pub mod Translation
pub mod Quotients
pub mod Settled
pub mod Code
pub mod Decoding
pub mod Answered
