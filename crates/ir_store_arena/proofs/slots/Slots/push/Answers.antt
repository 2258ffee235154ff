use Rattle.std.proofs.Common.{sym, subst, false}
use Rattle.ir_store_arena.specs.declared.slot_kind.Slot.{Slot as Kept}
use Rattle.ir_store_arena.specs.Rows.{IsSound}
use Rattle.ir_store_arena.proofs.Keys.{pushed_sound}
use Rattle.ir_store_arena.proofs.slots.Slots.push.Goals as goal

pub invariant_of-self-2 : goal.invariant_of-self-2
invariant_of-self-2 c =
    let row : Kept = record { used = false; live = false; id = c.new.result; name = c.new-2.result; uses = 0; values = c.args.values; held = c.args.held } in
    subst (IsSound c.self.inside.registry) (sym c.in-Ok.ensures.ok) (pushed_sound c.self.inside.registry c.self.inside.slots.items row c.self.invariant c.requires)
