pub mod Casts
pub mod Conditions
pub mod May
pub mod Numbers
pub mod Planned
pub mod RuleTests
pub use Rattle.dialects_int.specs.Folds
pub use Rattle.patterns_matchers.specs.Keeps
pub use Rattle.patterns_matchers.specs.Looks
pub use Rattle.patterns_matchers.specs.Makes
pub use Rattle.patterns_matchers.specs.Plans
pub use Rattle.patterns_matchers.specs.Reads
pub use Rattle.patterns_matchers.specs.Rewrites
pub use Rattle.patterns_matchers.specs.Rules
pub use Rattle.patterns_matchers.specs.declared.plan.RewritePlan
pub use Rattle.patterns_matchers.specs as reads
