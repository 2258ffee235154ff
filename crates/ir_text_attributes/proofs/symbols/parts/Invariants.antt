use Rattle.std.proofs.Common.{◌≡◌, ◌-◌, [], length}
use Rattle.ir_types.specs.Things.{IsExtendedBy}
use Rattle.ir_text_types.specs.TypeReading.{many}
use Rattle.ir_text_attributes.specs.AttrReading.{parts_at}
use Rattle.ir_text_attributes.proofs.symbols.parts.Given as goal

abbrev pub invariant-items : goal.invariant-items
invariant-items l = record {
  reads : parts_at (many - l.counter) l.items.items (l.rest, l.ctx) ≡ parts_at many [] (l.bytes, l.fn.ctx);
  grows : IsExtendedBy l.fn.ctx l.ctx;
  count : length l.items.items ≡ l.counter;
}
