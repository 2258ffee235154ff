-- The updates of a table.
use Rattle.std.specs.Prelude.{◌≡◌, ℕ, List, [], ◌∷◌, Option, Some, None}
use Rattle.ir_event.specs.declared.event.Event.{Event}
use Rattle.ir_event.specs.declared.event.Event.TheVariants.{Put, Take, SetOperand, SetEntry, Shift}
use Rattle.ir_event.specs.Modules.{Node}
use Rattle.op_registry.specs.declared.own.Own.{Own}
use Rattle.op_registry.specs.Registry.{own_of}
use Rattle.effects.specs.Effects.{none}
use Rattle.effects.specs.Points.{Point, Apart, Childless, Rows, Holds}

-- the table keeps the list of operations, and each count is right
abbrev pub Whole : Rows → List Point → Type 0
Whole rows ns = Holds rows ns None none none

-- an operation without children was inserted
abbrev pub PutIn : ℕ → Option ℕ → Own → Rows → Rows → Type 0
PutIn x p own a b = (n : Point) (ns : List Point) → n.id ≡ x → n.parent ≡ p → n.own ≡ own → Apart (n ∷ ns)
    → Childless n.id ns → Whole a ns → Whole b (n ∷ ns)

-- an operation without children was removed
abbrev pub TakenOut : ℕ → Rows → Rows → Type 0
TakenOut x a b = (n : Point) (ns : List Point) → n.id ≡ x → Apart (n ∷ ns) → Whole a (n ∷ ns) → Whole b ns

-- the parent of an operation became p
abbrev pub ShiftedTo : ℕ → Option ℕ → Rows → Rows → Type 0
ShiftedTo x p a b = (n : Point) (ns : List Point) → n.id ≡ x → Apart (n ∷ ns) → Whole a (n ∷ ns)
    → Whole b (record n { parent = p } ∷ ns)

-- the table was updated after an event, given the operations that the view shows
abbrev pub Followed : (ℕ → Option Node) → Event → Rows → Rows → Type 0
Followed shown (Put x place fresh) a b = (n : Node) → shown x ≡ Some n
    → PutIn x (Some place.parent) (own_of n.head.name) a b
Followed shown (Take x place fresh) a b = TakenOut x a b
Followed shown (SetOperand x k old new) a b = (y : ℕ) → b y ≡ a y
Followed shown (SetEntry x part key old new) a b = (y : ℕ) → b y ≡ a y
Followed shown (Shift x old new) a b = ShiftedTo x (Some new.parent) a b

-- operations were inserted in order
abbrev pub PutAll : List Point → Rows → Rows → Type 0
PutAll [] a b = b ≡ a
PutAll (n ∷ ns) a b = (m : Rows) × PutIn n.id n.parent n.own a m × PutAll ns m b
