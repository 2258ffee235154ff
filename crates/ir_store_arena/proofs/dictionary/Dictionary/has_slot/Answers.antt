use Rattle.std.proofs.Common.{◌∙◌, ap}
use Rattle.ir_store_arena.specs.Slots.{has_key, has_slot}
use Rattle.ir_store_arena.proofs.Changed.{slot_is}
use Rattle.ir_store_arena.proofs.dictionary.Dictionary.has_slot.Goals as goal

pub returns : goal.returns
returns c = c.contains.ensures ∙ ap (has_key c.args.key) c.as_slice.ensures ∙ slot_is c.args.key c.self.inside.len c.self.inside.items.items ∙ ap (has_slot c.args.key) c.self.view_is
