pub mod Folded
pub mod Headed
pub mod Recasts
pub mod Never
pub mod Unfolded
pub mod Parts
pub mod Passing
pub mod Answered
pub use Rattle.patterns_base.proofs as of_base
pub use Rattle.patterns_matchers.proofs as of_reads
