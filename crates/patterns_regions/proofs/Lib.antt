pub mod Answered
pub mod Bodies
pub mod Needed
pub mod Openings
pub mod Replacing
pub mod Ruled
pub mod Slices
pub mod Tested
pub mod Unused
pub mod Viewed
pub mod Walking
pub use Rattle.patterns_plans.proofs as of_plans
