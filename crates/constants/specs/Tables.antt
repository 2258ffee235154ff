-- The table of known values, and its updates.
use Rattle.std.specs.Prelude.{◌≡◌, ◌⊎◌, ℕ, ◌+◌, ◌≤◌, List, [], ◌∷◌, map, eqb, if◌then◌else◌, Option, Some, None, Bool, true, false}
use Rattle.std.specs.Ordering.{nat_cmp}
use Rattle.listeners_support.specs.Map.{IdMap}
use Rattle.listeners_support.specs.Map as idmap
use Rattle.ir_event.specs.types.declared.bits.Bits.{Bits}
use Rattle.ir_event.specs.trees.Meaning.{Operation}
use Rattle.ir_event.specs.declared.event.Event.{Event}
use Rattle.ir_event.specs.declared.event.Event.TheVariants.{Put, Take, SetOperand, SetEntry, Shift}
use Rattle.ir_event.specs.declared.row.Cell.{Cell}
use Rattle.ir_event.specs.declared.row.Cell.TheVariants.{Val, Bits as BitsCell}
use Rattle.ir_event.specs.trees.declared.value.Value.{Value}
use Rattle.ir_event.specs.trees.declared.value.Value.TheVariants.{Result, Arg}
use Rattle.ir_event.specs.declared.subject.Subject.{Subject}
use Rattle.ir_event.specs.declared.subject.Subject.TheVariants as subject
use Rattle.ir_event.specs.declared.world.World.{World}
use Rattle.ir_event.specs.Modules.{module_in}
use Rattle.dialects_int.specs.Folds.{known_of}
use Rattle.ir_event.specs.Heads.{heads}
use Rattle.constants.specs.Facts.{Header, Facts, known, look, value, AreLocal}
use Rattle.constants.specs.Walk.{with_fact, facts_of, AreOrdered}
use Rattle.constants.specs.Reached.{uses_among, reached, most_over}
use Rattle.constants.specs.Trails.{IsThere}
use Rattle.constants.specs.Phases.{SameBut}

-- the facts of a table
abbrev pub known_in : IdMap Bits → Facts
known_in table x = known_of (idmap.get table x)

-- the cells of an entry
abbrev pub cells_of : ℕ × Bits → List Cell
cells_of e = Val (Result e.0 0) ∷ BitsCell e.1 ∷ []

-- the entry of an operation, and the entry whose result is a value
abbrev pub entry_if : ℕ → Option Bits → List (ℕ × Bits)
entry_if x None = []
entry_if x (Some b) = (x, b) ∷ []

abbrev pub entry_of : ℕ → IdMap Bits → List (ℕ × Bits)
entry_of x table = entry_if x (idmap.get table x)

abbrev pub entry_at : Value → IdMap Bits → List (ℕ × Bits)
entry_at (Result x k) table = if eqb k 0 then entry_of x table else []
entry_at (Arg x r k) table = []

-- the entry about a subject
abbrev pub entries_about : Subject → IdMap Bits → List (ℕ × Bits)
entries_about (subject.Op x) table = entry_of x table
entries_about (subject.Val v) table = entry_at v table

-- the operations of the module, and the number of uses of an operation's results
abbrev pub look_in : World → ℕ → Option Header
look_in w = look (module_in w).tree

abbrev pub uses_in : World → ℕ → ℕ
uses_in w = uses_among (heads (module_in w).tree)

-- the operations of uses
abbrev pub users_of : List (ℕ × ℕ) → List ℕ
users_of us = map (λ (u : ℕ × ℕ). u.0) us

-- if the update was completed, facts that agreed with operations that differ only at x agree with these operations
abbrev pub Updated : Type 0 → (ℕ → Option Header) → ℕ → Facts → Facts → Type 0
Updated done ops x a b = IsThere ops x → (was : ℕ → Option Header) → SameBut x was ops → AreLocal was a → done
    → AreLocal ops b

-- an operand of x was set to a value with the same known value, and no fact changed; or the facts were updated
abbrev pub OperandFollowed : Type 0 → (ℕ → Option Header) → ℕ → Value → Value → Facts → Facts → Type 0
OperandFollowed done ops x old new a b = ((known a old ≡ known a new) × ((y : ℕ) → b y ≡ a y)) ⊎ Updated done ops x a b

-- whether the event can teach no value, so that the update needs no memory
abbrev pub teaches_nothing : Event → Bool
teaches_nothing (Put x place fresh) = false
teaches_nothing (Take x place fresh) = true
teaches_nothing (SetOperand x k old new) = false
teaches_nothing (SetEntry x part key old new) = false
teaches_nothing (Shift x old new) = true

-- the facts were updated after an event, given the operations that are in the module now
abbrev pub FactsFollowed : Type 0 → (ℕ → Option Header) → Event → Facts → Facts → Type 0
FactsFollowed done ops (Put x place fresh) a b = Updated done ops x a b
FactsFollowed done ops (Take x place fresh) a b = (y : ℕ) → b y ≡ with_fact x None a y
FactsFollowed done ops (SetOperand x k old new) a b = OperandFollowed done ops x old new a b
FactsFollowed done ops (SetEntry x part key old new) a b = Updated done ops x a b
FactsFollowed done ops (Shift x old new) a b = (y : ℕ) → b y ≡ a y

-- an update of x looks at no more than x reaches
abbrev pub LooksWithin : Operation → ℕ → Facts → ℕ → ℕ → Type 0
LooksWithin t x a before after =
    IsThere (look t) x → (was : ℕ → Option Header) → SameBut x was (look t) → AreLocal was a → AreOrdered [] (heads t)
    → after ≤ before + most_over (reached a (facts_of t) (heads t) x) (heads t)

-- the same with one look to spare
abbrev pub LooksRenewed : Operation → ℕ → Facts → ℕ → ℕ → Type 0
LooksRenewed t x a before after =
    IsThere (look t) x → (was : ℕ → Option Header) → SameBut x was (look t) → AreLocal was a → AreOrdered [] (heads t)
    → 1 + after ≤ before + most_over (reached a (facts_of t) (heads t) x) (heads t)

-- the looks of an update after an event
abbrev pub LooksFollowed : Operation → Event → Facts → ℕ → ℕ → Type 0
LooksFollowed t (Put x place fresh) a before after = LooksWithin t x a before after
LooksFollowed t (Take x place fresh) a before after = after ≡ before
LooksFollowed t (SetOperand x k old new) a before after = LooksWithin t x a before after
LooksFollowed t (SetEntry x part key old new) a before after = LooksWithin t x a before after
LooksFollowed t (Shift x old new) a before after = after ≡ before

-- operations were folded in order
abbrev pub WalkedIds : (ℕ → Option Header) → List ℕ → Facts → Facts → Type 0
WalkedIds ops [] a b = (y : ℕ) → b y ≡ a y
WalkedIds ops (x ∷ xs) a b =
    (m : Facts) × (IsThere ops x → (y : ℕ) → m y ≡ with_fact x (value ops a x) a y) × WalkedIds ops xs m b
