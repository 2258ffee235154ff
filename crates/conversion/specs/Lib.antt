pub mod States
pub mod Benches
pub mod Converting
pub mod MatchFailures
pub mod DefiningOps
pub mod Waiting
pub mod Walks
pub use Rattle.conversion_base.specs.Targets
pub use Rattle.conversion_base.specs.Legalization
pub use Rattle.conversion_base.specs.Reconciling
pub use Rattle.conversion_base.specs.Conversion
pub use Rattle.conversion_base.specs.Rewrites
pub use Rattle.conversion_base.specs.Rule
pub use Rattle.conversion_base.specs.RuleNames
pub use Rattle.patterns.specs.runs.Runs
pub use Rattle.patterns.specs as patterns
pub use Rattle.patterns.specs.rewriter
pub use Rattle.conversion_base.specs as reasons
