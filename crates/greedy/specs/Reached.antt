-- The operations whose surroundings an event can change. The event and the block ends of the module after it determine
-- them.
use Rattle.std.specs.Prelude.{ℕ, List, [], ◌∷◌, Bool, true, false, ◌&&◌, ◌||◌, eqb, Option, Some, None}
use Rattle.ir_event.specs.trees.declared.place.Place.{Place}
use Rattle.ir_event.specs.trees.Tree.{OpOf}
use Rattle.ir_event.specs.declared.event.Event.{Event}
use Rattle.ir_event.specs.declared.event.Event.TheVariants.{Put, Take, SetOperand, SetEntry, Shift}
use Rattle.ir_event.specs.store.Nodes.{NodeOf}
use Rattle.listeners_support.specs.Surroundings.{SurroundingsOf, OuterOf, surroundings}

-- whether a place is the end of its block
abbrev is_none : Option ℕ → Bool
is_none None = true
is_none (Some b) = false

abbrev pub is_end : Place → Bool
is_end place = is_none place.before

module _ {N T A : Type 0} where
  abbrev is_node : ℕ → Option (NodeOf N T A) → Bool
  is_node p None = false
  is_node p (Some n) = eqb n.head.id p

  abbrev is_ended : ℕ → Option (OuterOf N T A) → Bool
  is_ended p None = false
  is_ended p (Some o) = is_node p o.ended

  abbrev pub ends_of : ℕ → Option (SurroundingsOf N T A) → Bool
  ends_of p None = false
  ends_of p (Some s) = is_ended p s.outer

  -- whether operation y is the last of a block of operation p
  abbrev pub ends : ℕ → ℕ → OpOf N T A → Bool
  ends p y t = ends_of p (surroundings y t)

  -- the place is the end of a block, and y is the parent of that block or ends a block of the parent
  abbrev pub at_end : Place → ℕ → OpOf N T A → Bool
  at_end place y t = is_end place && (eqb place.parent y || ends place.parent y t)

  -- whether an event may have changed the surroundings of operation y; true for all operations if the event inserts at
  -- the end of a block
  abbrev pub reaches : Event → ℕ → OpOf N T A → Bool
  reaches (Put x place fresh) y t = eqb x y || is_end place
  reaches (Take x place fresh) y t = eqb x y || at_end place y t
  reaches (SetOperand x k old new) y t = eqb x y || ends x y t
  reaches (SetEntry x part key old new) y t = eqb x y || ends x y t
  reaches (Shift x old new) y t = eqb x y || (is_end new || at_end old y t)

  -- whether any of the events may have
  abbrev pub any_reaches : List Event → ℕ → OpOf N T A → Bool
  any_reaches [] y t = false
  any_reaches (e ∷ es) y t = reaches e y t || any_reaches es y t
