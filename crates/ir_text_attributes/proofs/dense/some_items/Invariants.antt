use Rattle.std.proofs.Common.{◌≡◌, ◌-◌, length}
use Rattle.ir_text_tokens.specs.declared.token.Mark.TheVariants.{Greater}
use Rattle.ir_types.specs.Things.{ContextModel}
use Rattle.ir_text_types.specs.Lists.{more_at}
use Rattle.ir_text_types.specs.Typed.{after_typed}
use Rattle.ir_text_types.specs.TypeReading.{many}
use Rattle.ir_text_attributes.specs.Elements.{type_of}
use Rattle.ir_text_attributes.specs.AttrReading.{item_at, some_items_at}
use Rattle.ir_text_attributes.proofs.dense.some_items.Given as goal

abbrev pub invariant-items : goal.invariant-items
invariant-items l = record {
  reads : (c : ContextModel) → more_at after_typed Greater (λ before. item_at (type_of l.element)) (many - l.counter) l.items.items (l.rest, c) ≡ some_items_at (type_of l.element) (l.bytes, c);
  count : length l.items.items ≡ l.counter;
}
