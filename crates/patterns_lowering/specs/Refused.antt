-- The refusal of a full context.
use Rattle.ir_event.specs.types.declared.refusal.Refusal.{Refusal}
use Rattle.ir_event.specs.types.declared.refusal.Refusal.TheVariants.{Memory, Full}

abbrev pub as_full : Refusal → Refusal
as_full Memory = Memory
as_full _ = Full
