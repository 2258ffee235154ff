pub mod Bare
pub mod Plans
pub mod Planned
pub mod Meanings
pub mod Refused
pub mod Lowered
pub mod Numbers
pub mod Counts
pub use Rattle.patterns_regions.specs as region_rules
pub mod Interning
pub mod Runs
pub use Rattle.patterns_soundness.specs.base.Contents
pub use Rattle.patterns_soundness.specs.base.Lists
pub use Rattle.patterns_soundness.specs.base.declared.edit.Edit
pub use Rattle.rewriter.specs.RewriterCalls
pub use Rattle.rewriter.specs.Held
pub use Rattle.rewriter.specs as rewriter
