pub mod Limits
pub mod Free
pub mod PrecedingReading
pub mod Entries
pub mod EntryReading
pub mod Made
pub mod OpReading
pub mod Filling
pub mod ParseState
pub mod SingleReading
pub mod OpGrammar
pub mod Spelling
pub mod Claims
pub mod Denotation
pub mod Openings
pub mod ScalarSignatures
pub use Rattle.ir_text_attributes.specs as attributes
pub use Rattle.ir_text_names.specs as names
