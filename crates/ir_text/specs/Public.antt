-- The definitions for users of this crate: reading and printing.
pub use Rattle.ir_text_tokens.specs.Printing.{symbol_text}
pub use Rattle.ir_text_types.specs.Laws.{IsFull}
pub use Rattle.ir_text_operations.specs.attributes.Claims.{IsNoAttr}
pub use Rattle.ir_text_operations.specs.attributes.Spelling.{SpellsAttr}
pub use Rattle.ir_text_operations.specs.Free.{free_term, bound_term, value_named}
unfoldable pub use Rattle.ir_text_operations.specs.Free.{free_bound}
pub use Rattle.ir_text_operations.specs.ParseState.{BoundTerm}
pub use Rattle.ir_text_operations.specs.Spelling.{Spells, SpellsOp}
pub use Rattle.ir_text_operations.specs.Claims.{IsOnly, IsNone}
pub use Rattle.ir_text.specs.Answers.{IsTextRefusal, IsOpRefusal}
