-- What is near events: the operation that each event is about, the operations around its places, and the values that
-- gain or lose a use.
use Rattle.std.specs.Prelude.{◌≡◌, ℕ, List, [], ◌∷◌, Some}
use Rattle.ir_event.specs.types.Things.{ContextModel}
use Rattle.ir_event.specs.trees.declared.value.Value.{Value}
use Rattle.ir_event.specs.trees.Tree.{head}
use Rattle.ir_event.specs.trees.Ids.{find}
use Rattle.ir_event.specs.trees.Meaning.{Operation}
use Rattle.ir_event.specs.tree_laws.Members.{In}
use Rattle.ir_event.specs.declared.event.Event.{Event}
use Rattle.ir_event.specs.declared.event.Event.TheVariants.{Put, Take, SetOperand, SetEntry, Shift}
use Rattle.ir_event.specs.Modules.{Module}
use Rattle.ir_event.specs.Step.{Step}
use Rattle.op_registry.specs.Registry.{own_of}
use Rattle.greedy.specs.Climbs.{Climbs}
use Rattle.greedy.specs.LocalContext.{defining_op}

-- the operation that an event is about
abbrev pub subject : Event → ℕ
subject (Put x place fresh) = x
subject (Take x place fresh) = x
subject (SetOperand x k old new) = x
subject (SetEntry x part key old new) = x
subject (Shift x old new) = x

-- the operations around its places
abbrev pub outer_ids : Event → List ℕ
outer_ids (Put x place fresh) = place.parent ∷ []
outer_ids (Take x place fresh) = place.parent ∷ []
outer_ids (SetOperand x k old new) = []
outer_ids (SetEntry x part key old new) = []
outer_ids (Shift x old new) = old.parent ∷ new.parent ∷ []

-- the values that gain or lose a use, if an inserted or removed operation has the shown operands
abbrev pub moved_values : (ℕ → List Value) → Event → List Value
moved_values shown (Put x place fresh) = shown x
moved_values shown (Take x place fresh) = shown x
moved_values shown (SetOperand x k old new) = old ∷ new ∷ []
moved_values shown (SetEntry x part key old new) = []
moved_values shown (Shift x old new) = []

-- the values that gain a use, if an inserted operation has the shown operands
abbrev pub gained_values : (ℕ → List Value) → Event → List Value
gained_values shown (Put x place fresh) = shown x
gained_values shown (Take x place fresh) = []
gained_values shown (SetOperand x k old new) = new ∷ []
gained_values shown (SetEntry x part key old new) = []
gained_values shown (Shift x old new) = []

-- the values that lose a use, if a removed operation has the shown operands
abbrev pub lost_values : (ℕ → List Value) → Event → List Value
lost_values shown (Put x place fresh) = []
lost_values shown (Take x place fresh) = shown x
lost_values shown (SetOperand x k old new) = old ∷ []
lost_values shown (SetEntry x part key old new) = []
lost_values shown (Shift x old new) = []

-- the shown operands of a removed operation are its operands
abbrev pub IsShown : (ℕ → List Value) → Event → Module → Type 0
IsShown shown (Put x place fresh) m = Unit {0}
IsShown shown (Take x place fresh) m = (o : Operation) → find x m.tree ≡ Some o → (head o).operands ≡ shown x
IsShown shown (SetOperand x k old new) m = Unit {0}
IsShown shown (SetEntry x part key old new) m = Unit {0}
IsShown shown (Shift x old new) m = Unit {0}

-- events lead from one module to another, and the shown operands are right for each removed operation and for each
-- operation of the last module
abbrev pub Leads : (ℕ → List Value) → ContextModel → List Event → Module → Module → Type 0
Leads shown c [] m n = (n ≡ m) × ((x : ℕ) (o : Operation) → find x n.tree ≡ Some o → (head o).operands ≡ shown x)
Leads shown c (e ∷ es) m n = (p : Module) × Step c e m p × IsShown shown e m × Leads shown c es p n

-- no climb to operation y begins around the place of an event
abbrev pub Unclimbed : List Event → ℕ → Operation → Type 0
Unclimbed es y t = (e : Event) → In e es → (w : ℕ) → In w (outer_ids e) → (k : ℕ) → Climbs own_of k y w t → ⊥

-- operation y defines none of the values that gain or lose a use
abbrev pub Ungiven : (ℕ → List Value) → List Event → ℕ → Type 0
Ungiven shown es y = (e : Event) → In e es → (v : Value) → In v (moved_values shown e) → defining_op v ≡ Some y → ⊥
