pub mod Whole
pub mod Ends
pub mod Feeding
pub mod Live
pub use Rattle.mlir_work_session.specs.RewriterCalls
pub use Rattle.rewriter_machine.specs.Journals
pub use Rattle.mlir_work_session.specs as session
