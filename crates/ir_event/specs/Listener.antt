-- The meaning of a listener.
use Rattle.std.specs.Prelude.{◌≡◌, ℕ, List, [], ◌∷◌, ◌++◌, Option, Some, None, Bool, true, false, ◌⊎◌, option_map}
use Rattle.op_registry.specs.types.Things.{ContextModel, IsExtendedBy}
use Rattle.op_registry.specs.types.Sound.{Holds}
use Rattle.ir_store.specs.trees.Meaning.{Operation}
use Rattle.ir_store.specs.trees.Ids.{find}
use Rattle.ir_store.specs.Nodes.{node_of}
use Rattle.ir_event.specs.declared.event.Event.{Event}
use Rattle.ir_event.specs.declared.event.Event.TheVariants.{Put, Take, SetOperand, SetEntry, Shift}
use Rattle.ir_event.specs.Modules.{Module, Node}
use Rattle.ir_event.specs.Rows.{RowTerm}
use Rattle.ir_event.specs.Step.{Step}

-- the meaning of a listener, independent of its representation; the last two fields are facts about the others
pub record Listener : Type 1 where
  -- the kind of its analysis
  pub kind : ℕ
  -- the analysis: the rows of a tree
  pub analysis : Operation → List RowTerm
  -- its state, with ids of the context, is correct for this module
  pub agrees : ContextModel → Module → Type 0
  -- it is stale until it starts again
  pub stale : Bool
  -- the events that it has stored, oldest first, if it stores events
  pub notified : Option (List Event)
  -- the limit of reads when it is notified of an event that leads from one module to another
  pub most : Event → Module → Module → ℕ
  pub fresh : (c : ContextModel) (m : Module) → agrees c m → stale ≡ false
  pub grows : (c d : ContextModel) (m : Module) → Holds c → Holds d → IsExtendedBy c d → agrees c m → agrees d m

-- a stored list has the events appended
abbrev pub GrownBy : List Event → Option (List Event) → Option (List Event) → Type 0
GrownBy es None new = new ≡ None
GrownBy es (Some old) new = new ≡ Some (old ++ es)

-- b is the same analysis as a
pub record SameAnalysis (a b : Listener) : Type 0 where
  pub kind : b.kind ≡ a.kind
  pub analysis : (t : Operation) → b.analysis t ≡ a.analysis t
  pub most : (e : Event) (m n : Module) → b.most e m n ≡ a.most e m n

-- whether an event takes out an operation
abbrev pub is_take : Event → Bool
is_take (Put x place fresh) = false
is_take (Take x place fresh) = true
is_take (SetOperand x k old new) = false
is_take (SetEntry x part key old new) = false
is_take (Shift x old new) = false

-- after a `Take` the removed operation is shown as it was in m, the module before
abbrev pub ShowsTaken : Event → Module → (ℕ → Option Node) → Type 0
ShowsTaken (Put x place fresh) m shown = Unit {0}
ShowsTaken (Take x place fresh) m shown = shown x ≡ option_map node_of (find x m.tree)
ShowsTaken (SetOperand x k old new) m shown = Unit {0}
ShowsTaken (SetEntry x part key old new) m shown = Unit {0}
ShowsTaken (Shift x old new) m shown = Unit {0}

-- listener a was notified of the event while the module was n, the one after it, and these operations were shown; it is
-- now b
pub record Notified (e : Event) (c : ContextModel) (n : Module) (shown : ℕ → Option Node) (a b : Listener) : Type 0 where
  pub same : SameAnalysis a b
  pub agrees : (m : Module) → Step c e m n → ShowsTaken e m shown → a.agrees c m → b.agrees c n ⊎ (b.stale ≡ true)
  pub stale : a.stale ≡ true → b.stale ≡ true
  pub notified : GrownBy (e ∷ []) a.notified b.notified ⊎ (b.stale ≡ true)

-- listener a was notified of exactly these events while context and module went from c and m to d and n; it is now b
pub record Followed (es : List Event) (c : ContextModel) (m : Module) (d : ContextModel) (n : Module) (a b : Listener) : Type 0 where
  pub same : SameAnalysis a b
  pub agrees : a.agrees c m → b.agrees d n ⊎ (b.stale ≡ true)
  pub stale : a.stale ≡ true → b.stale ≡ true
  pub notified : GrownBy es a.notified b.notified ⊎ (b.stale ≡ true)
