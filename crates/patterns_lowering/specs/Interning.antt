-- Interning for edits: only the context of the rewriter grows.
use Rattle.std.specs.Prelude.{◌≡◌, ◌≤◌, [], length, ◌⊎◌}
use Rattle.ir_event.specs.types.Things.{ContextModel}
use Rattle.ir_event.specs.types.Limits.{most_things}
use Rattle.ir_event.specs.types.declared.refusal.Refusal.{Refusal}
use Rattle.ir_event.specs.types.declared.refusal.Refusal.TheVariants.{Memory, Full}
use Rattle.ir_event.specs.Listener.{Listener}
use Rattle.rewriter.specs.RewriterCalls.{Benched, Notified}
use Rattle.rewriter.specs.Moves.{Grown}

-- a context is full: it has its maximum number of types or attributes
abbrev pub IsFull : ContextModel → Type 0
IsFull c = (most_things ≤ length c.types) ⊎ (most_things ≤ length c.attrs)

-- why something new isn't interned: memory runs out, or the context is full
abbrev pub IsCapacityRefusal : ContextModel → Refusal → Type 0
IsCapacityRefusal c e = (e ≡ Memory) ⊎ ((e ≡ Full) × IsFull c)

-- only the context grew, and the listeners weren't notified of any event
pub record Added {B : Type 0} (meaning : B → Listener) (old new : Benched B) : Type 0 where
  pub grown : Grown old.transaction new.transaction
  pub untold : Notified meaning [] old new
