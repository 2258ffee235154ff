use Rattle.std.proofs.Common.{◌≡◌, [], ◌-◌, length}
use Rattle.ir_text_types.specs.ShapeReading.{dimensions_at}
use Rattle.ir_text_types.specs.TypeReading.{many}
use Rattle.ir_text_types.proofs.shapes.dimensions.Given as goal

abbrev pub invariant-items : goal.invariant-items
invariant-items l = record {
  reads : dimensions_at (many - l.counter) l.items.items l.rest ≡ dimensions_at many [] l.bytes;
  count : length l.items.items ≡ l.counter;
}
