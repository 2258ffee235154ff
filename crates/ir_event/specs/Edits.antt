-- The steps of an IR state's edits.
use Rattle.std.specs.Prelude.{◌≡◌, ℕ, Bool, Option, Some, true, false}
use Rattle.op_registry.specs.types.Things.{ContextModel}
use Rattle.ir_store.specs.trees.declared.place.Place.{Place}
use Rattle.ir_store.specs.trees.declared.place.Part.{Part}
use Rattle.ir_store.specs.trees.Tree.{Op}
use Rattle.ir_store.specs.trees.Places.{place_of}
use Rattle.ir_store.specs.tree_laws.Changes.{entry_in}
use Rattle.ir_event.specs.declared.event.Event.{Event}
use Rattle.ir_event.specs.declared.event.Event.TheVariants.{Put, Take, SetEntry, Shift}
use Rattle.ir_event.specs.Modules.{Module}
use Rattle.ir_event.specs.Step.{Step}

-- the event inserts an operation at a place, under the next free id, and leads from one module to the other
abbrev pub IsPutStep : Place → Event → ContextModel → Module → Module → Type 0
IsPutStep place e c m n = (e ≡ Put m.next place true) × Step c e m n

-- the event takes out operation x, and leads from one module to the other
abbrev pub IsTakeStep : ℕ → Event → ContextModel → Module → Module → Type 0
IsTakeStep x e c m n = (place : Place) × (e ≡ Take x place false) × Step c e m n

-- the event sets the entry of a dictionary of a tree from its current attribute, or none, to another
abbrev pub IsEntryEvent : (ℕ → ℕ → Bool) → ℕ → Part → ℕ → Option ℕ → Op → Event → Type 0
IsEntryEvent before x part k a t e = (old : Option ℕ) × (e ≡ SetEntry x part k old a) × (entry_in before x part k t ≡ Some old)

-- the event sets or removes key k of one dictionary of operation x, and leads from one module to the other
abbrev pub IsEntryStep : ℕ → Part → ℕ → Option ℕ → Event → ContextModel → Module → Module → Type 0
IsEntryStep x part k a e c m n = (old : Option ℕ) × (e ≡ SetEntry x part k old a) × Step c e m n

-- the event moves operation x of a tree from its current place to another
abbrev pub IsShiftEvent : ℕ → Place → Op → Event → Type 0
IsShiftEvent x place t e = (old : Place) × (e ≡ Shift x old place) × (place_of x t ≡ Some old)

-- the event moves operation x to a place, and leads from one module to the other
abbrev pub IsShiftStep : ℕ → Place → Event → ContextModel → Module → Module → Type 0
IsShiftStep x place e c m n = (old : Place) × (e ≡ Shift x old place) × Step c e m n
