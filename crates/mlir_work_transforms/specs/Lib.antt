pub mod Applying
pub mod At
pub mod AtRuns
pub mod Rewriting
pub mod TraceText
pub mod ConvertText
pub mod TraceLaws
pub mod FiredText
pub mod FiredLaws
pub mod LineLaws
pub mod Transforming
pub mod Sweep
pub mod WhyText
pub mod WhyPattern
pub mod Erasing
pub mod Interned
pub use Rattle.conversion.specs.Converting
pub use Rattle.conversion.specs.declared.fault.Fault
pub use Rattle.conversion.specs.patterns.Rule
pub use Rattle.conversion.specs.rewriter
pub use Rattle.greedy.specs as greedy
pub use Rattle.mlir_work_registry.specs as registry
pub mod RuleLists
pub mod Unproved
pub mod Views
