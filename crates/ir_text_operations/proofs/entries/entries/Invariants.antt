use Rattle.std.proofs.Common.{◌≡◌, ◌-◌, length}
use Rattle.ir_text_tokens.specs.declared.token.Mark.TheVariants.{CloseCurly}
use Rattle.ir_types.specs.Things.{IsExtendedBy}
use Rattle.ir_text_types.specs.Typed.{after_typed}
use Rattle.ir_text_types.specs.Lists.{more_at}
use Rattle.ir_text_operations.specs.EntryReading.{entry_at, entries_at}
use Rattle.ir_text_operations.proofs.entries.entries.Given as goal

abbrev pub invariant-items : goal.invariant-items
invariant-items l = record {
  reads : more_at after_typed CloseCurly (entry_at l.op l.properties) (513 - l.counter) l.items.items (l.rest, l.ctx) ≡ entries_at l.op l.properties (l.bytes, l.fn.ctx);
  grows : IsExtendedBy l.fn.ctx l.ctx;
  count : length l.items.items ≡ l.counter;
}
