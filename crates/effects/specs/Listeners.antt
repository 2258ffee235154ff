-- The contracts of the listeners.
use Rattle.std.specs.Prelude.{◌≡◌, ℕ, ◌+◌, false, None, unwrap_or}
use Rattle.ir_event.specs.trees.declared.place.Place.{Place}
use Rattle.ir_event.specs.trees.Ids.{HasDistinctIds}
use Rattle.ir_event.specs.trees.Meaning.{Operation}
use Rattle.ir_event.specs.tree_laws.Reads.{around}
use Rattle.ir_event.specs.declared.event.Event.{Event}
use Rattle.ir_event.specs.declared.event.Event.TheVariants.{Put, Take, SetOperand, SetEntry, Shift}
use Rattle.ir_event.specs.Modules.{Module}
use Rattle.ir_event.specs.Bounds.{operands_of}
use Rattle.ir_event.specs.Listener.{Listener}
use Rattle.op_registry.specs.Registry.{own_of}
use Rattle.effects.specs.declared.effects.Effects.{Effects}
use Rattle.effects.specs.declared.dead.Dead.{Dead}
use Rattle.effects.specs.Points.{points}
use Rattle.effects.specs.Walks.{row_at}
use Rattle.effects.specs.Following.{Whole}
use Rattle.effects.specs.Counts.{counts_in, Counted}
use Rattle.effects.specs.Reports.{effects_rows, dead_rows}

-- the depth of an operation at a place of a tree
abbrev pub depth_at : Place → Operation → ℕ
depth_at place t = unwrap_or (around place.parent t) 0 + 1

-- the depths of the places of an event, before and after it
abbrev pub depths_of : Event → Module → Module → ℕ
depths_of (Put x place fresh) m n = depth_at place n.tree
depths_of (Take x place fresh) m n = depth_at place m.tree
depths_of (SetOperand x k old new) m n = 0
depths_of (SetEntry x part key old new) m n = 0
depths_of (Shift x old new) m n = depth_at old m.tree + depth_at new n.tree

-- the limit of looks of a listener of this crate
abbrev pub most_looks : Event → Module → Module → ℕ
most_looks e m n = 4 + operands_of e m n + depths_of e m n

-- the table keeps the operations of the module with their effects, and the counts are right
abbrev pub effects_listener : Effects → Listener
effects_listener s = record {
  kind = 4;
  analysis = effects_rows;
  agrees = λ c m. (s.stale ≡ false) × (HasDistinctIds m.tree × Whole (row_at s.rows) (points own_of None m.tree));
  stale = s.stale;
  notified = None;
  most = most_looks;
  fresh = λ c m h. h.0;
  grows = λ c d m holds also g h. h;
}

-- the table keeps the effects, and the number of uses of each operation's results
abbrev pub dead_listener : Dead → Listener
dead_listener s = record {
  kind = 5;
  analysis = dead_rows;
  agrees = λ c m. (s.stale ≡ false) × ((effects_listener s.effects).agrees c m × Counted (counts_in s.counts) m.tree);
  stale = s.stale;
  notified = None;
  most = most_looks;
  fresh = λ c m h. h.0;
  grows = λ c d m holds also g h. h;
}
