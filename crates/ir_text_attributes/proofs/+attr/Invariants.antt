use Rattle.std.proofs.Common.{◌≡◌, ◌*◌, ◌+◌, ◌-◌, length}
use Rattle.ir_text_tokens.specs.declared.token.Mark.TheVariants.{CloseCurly, CloseSquare}
use Rattle.ir_types.specs.Things.{IsExtendedBy}
use Rattle.ir_text_types.specs.Lists.{more_at}
use Rattle.ir_text_types.specs.Typed.{after_typed}
use Rattle.ir_text_types.specs.TypeReading.{many}
use Rattle.ir_text_attributes.specs.AttrReading.{entry_by, entries_by, attrs_by, attr_at}
use Rattle.ir_text_attributes.proofs.+attr.Given as goal

abbrev pub decreases-attributes::attr : goal.decreases-attributes::attr
decreases-attributes::attr l = 8 * l.depth

abbrev pub decreases-dictionaries::value : goal.decreases-dictionaries::value
decreases-dictionaries::value l = 8 * l.depth + 1

abbrev pub decreases-dictionaries::entry : goal.decreases-dictionaries::entry
decreases-dictionaries::entry l = 8 * l.depth + 2

abbrev pub decreases-dictionaries::entries : goal.decreases-dictionaries::entries
decreases-dictionaries::entries l = 8 * l.depth + 3

abbrev pub decreases-dictionaries::dictionary : goal.decreases-dictionaries::dictionary
decreases-dictionaries::dictionary l = 8 * l.depth + 4

abbrev pub decreases-arrays::attrs : goal.decreases-arrays::attrs
decreases-arrays::attrs l = 8 * l.depth + 1

abbrev pub decreases-arrays::array : goal.decreases-arrays::array
decreases-arrays::array l = 8 * l.depth + 2

abbrev pub decreases-attributes::mark_attr : goal.decreases-attributes::mark_attr
decreases-attributes::mark_attr l = 8 * l.depth + 5

abbrev pub invariant-arrays::attrs-items : goal.invariant-arrays::attrs-items
invariant-arrays::attrs-items l = record {
  reads : more_at after_typed CloseSquare (λ before. attr_at l.opaque l.depth) (many - l.counter) l.items.items (l.rest, l.ctx) ≡ attrs_by l.depth (attr_at l.opaque l.depth) (l.bytes, l.initial.ctx);
  grows : IsExtendedBy l.initial.ctx l.ctx;
  count : length l.items.items ≡ l.counter;
}

abbrev pub invariant-dictionaries::entries-items : goal.invariant-dictionaries::entries-items
invariant-dictionaries::entries-items l = record {
  reads : more_at after_typed CloseCurly (entry_by l.depth (attr_at l.opaque l.depth)) (256 - l.counter) l.items.items (l.rest, l.ctx) ≡ entries_by l.depth (attr_at l.opaque l.depth) (l.bytes, l.initial.ctx);
  grows : IsExtendedBy l.initial.ctx l.ctx;
  count : length l.items.items ≡ l.counter;
}
