-- Journals: the events that led to the state of a store, so that each can be undone in turn.
use Rattle.std.specs.Prelude.{◌≡◌, ℕ, ◌≤◌, true, false, List, [], ◌∷◌, ◌++◌, length, drop, None, is_some}
use Rattle.std.specs.FinMap as map
use Rattle.ir_event.specs.types.Things.{ContextModel}
use Rattle.ir_event.specs.types.Sound.{IsSound}
use Rattle.ir_event.specs.trees.Meaning.{IsSoundIn, isolated_in}
use Rattle.ir_event.specs.trees.WellFormed.{IsWellFormed}
use Rattle.ir_event.specs.store.Stored.{Stored, known}
use Rattle.ir_event.specs.declared.event.Event.{Event}
use Rattle.ir_event.specs.declared.event.Event.TheVariants.{Put, Take, SetOperand, SetEntry, Shift}
use Rattle.ir_event.specs.Facts.{HeldIsSound}
use Rattle.ir_event.specs.Modules.{Module, module_meaning}
use Rattle.ir_event.specs.Step.{inverse_of}
use Rattle.ir_event.specs.Undoing.{CameFrom, undone}

-- an event as an edit reports it: an inserted operation has a new id, and a removed one keeps its id
abbrev pub IsForward : Event → Type 0
IsForward (Put x place fresh) = fresh ≡ true
IsForward (Take x place fresh) = fresh ≡ false
IsForward (SetOperand x k old new) = Unit {0}
IsForward (SetEntry x part k old new) = Unit {0}
IsForward (Shift x old new) = Unit {0}

-- the state of a store before some events, oldest first: each is undone, newest first
abbrev pub undone_all : ContextModel → List Event → Stored → Stored
undone_all c [] s = s
undone_all c (e ∷ es) s = undone c e (undone_all c es s)

-- the meaning of the module before these events
abbrev pub before : ContextModel → List Event → Stored → Module
before c es s = module_meaning c (undone_all c es s).module_of

-- the events led, one after another, to the state of a store, and each can be undone in turn
abbrev pub IsJournal : ContextModel → List Event → Stored → Type 0
IsJournal c [] s = Unit {0}
IsJournal c (e ∷ es) s = IsJournal c es s × (IsForward e × CameFrom c e (before c (e ∷ es) s) (undone_all c es s))

-- nothing is held under an id that isn't given out yet
abbrev pub HasNoStaleIds : Stored → Type 0
HasNoStaleIds s = (x : ℕ) → s.module_of.next ≤ x → map.get s.held x ≡ None

-- each operation, of the module or held, has a list of removed keys
abbrev pub TracksRemovedKeys : Stored → Type 0
TracksRemovedKeys s = (x : ℕ) → is_some (known x s) ≡ true → is_some (map.get s.gone x) ≡ true

-- the inverses of some events, newest first
abbrev pub inverses : List Event → List Event
inverses [] = []
inverses (e ∷ es) = inverses es ++ inverse_of e ∷ []

-- the invariant of a store in its context: all its operations are of the context, and its module is well-formed
pub record IsStoreOf (c : ContextModel) (s : Stored) : Type 0 where
  pub context : IsSound c
  pub sound : IsSoundIn c s.module_of.tree
  pub wellformed : IsWellFormed (isolated_in c) s.module_of
  pub held : HeldIsSound c s.held

-- the event is the last of the journal, and the modules before older events are unchanged
pub record Noted (c : ContextModel) (es : List Event) (e : Event) (s u : Stored) : Type 0 where
  pub journal : IsJournal c (es ++ e ∷ []) u
  pub modules : (k : ℕ) → k ≤ length es → before c (drop k es ++ e ∷ []) u ≡ before c (drop k es) s
