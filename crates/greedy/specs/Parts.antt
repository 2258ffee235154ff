-- The parts of the list of operations, as read from a world.
use Rattle.std.specs.Prelude.{◌≡◌, ◌⊎◌, ℕ, eqb, List, [], ◌∷◌, Bool, true, false, ◌||◌, Some}
use Rattle.ir_event.specs.trees.declared.value.Value.{Value}
use Rattle.ir_event.specs.trees.declared.place.Place.{Place}
use Rattle.ir_event.specs.trees.Tree.{OpOf}
use Rattle.ir_event.specs.trees.Places.{place_of}
use Rattle.ir_event.specs.trees.Uses.{uses_of}
use Rattle.ir_event.specs.tree_laws.Reads.{last_at, precedes}
use Rattle.ir_event.specs.store.Using.{is_use}
use Rattle.ir_event.specs.declared.event.Event.{Event}
use Rattle.ir_event.specs.declared.event.Event.TheVariants.{Put, Take, SetOperand, SetEntry, Shift}
use Rattle.ir_event.specs.declared.world.World.{World}
use Rattle.effects.specs.Effects.{own_by}
use Rattle.greedy.specs.Reached.{is_end, ends, at_end, reaches}
use Rattle.greedy.specs.LocalContext.{Uses, defining_op}
use Rattle.greedy.specs.Climbs.{Climbs}
use Rattle.greedy.specs.Near.{gained_values, lost_values, outer_ids}
use Rattle.greedy.specs.Adding.{OneOf}
use Rattle.greedy.specs.Shown.{shown_operands}

-- operation x is the user of one of the uses
abbrev pub IsIn : List (ℕ × ℕ) → ℕ → Type 0
IsIn us x = (j : ℕ) × (is_use x j us ≡ true)

module _ {N T A : Type 0} where
  -- operation x uses a value
  abbrev pub IsUser : Value → OpOf N T A → ℕ → Type 0
  IsUser v t x = IsIn (uses_of v t) x

  -- x is the parent of operation y, which ends its block
  abbrev pub IsAround : OpOf N T A → ℕ → ℕ → Type 0
  IsAround t y x = ends x y t ≡ true

  -- x is operation p, or ends a block of p
  abbrev pub IsOrEnds : ℕ → OpOf N T A → ℕ → Type 0
  IsOrEnds p t x = (eqb p x || ends p x t) ≡ true

  -- x is operation y; or the place is the end of a block, and x is the parent of that block or ends a block of the
  -- parent
  abbrev pub IsOrAtEnd : ℕ → Place → OpOf N T A → ℕ → Type 0
  IsOrAtEnd y place t x = (eqb y x || at_end place x t) ≡ true

  -- x is the parent of operation y, and the last operation of the block of y uses a result of y
  abbrev pub IsHanded : OpOf N T A → ℕ → ℕ → Type 0
  IsHanded t y x = (place : Place) × (place_of y t ≡ Some place) × (place.parent ≡ x)
      × ((l : ℕ) × (last_at place.parent place.region t ≡ Some l) × Uses l y t)

  -- x is the parent of operation y, which ends its block or has a user at the end of the block
  abbrev pub IsOver : OpOf N T A → ℕ → ℕ → Type 0
  IsOver t y x = IsAround t y x ⊎ IsHanded t y x

  -- x doesn't come after `passed`, and has property P, or is over an operation after `passed` that has it
  abbrev pub UpTo : OpOf N T A → ℕ → (ℕ → Type 0) → ℕ → Type 0
  UpTo t passed P x = (precedes passed x t ≡ false) × (P x ⊎ ((y : ℕ) × P y × (precedes passed y t ≡ true) × IsOver t y x))

  -- x uses a result of operation y; or y comes after `passed`, and x is the parent of y, with a user of y at its end
  abbrev pub IsSeer : OpOf N T A → ℕ → ℕ → ℕ → Type 0
  IsSeer t passed y x = (Uses x y t × (precedes passed y t ≡ false)) ⊎ ((precedes passed y t ≡ true) × IsHanded t y x)

-- whether an event inserts an operation at the end of a block
abbrev pub puts_last : Event → Bool
puts_last (Put x place fresh) = is_end place
puts_last (Take x place fresh) = false
puts_last (SetOperand x k old new) = false
puts_last (SetEntry x part key old new) = false
puts_last (Shift x old new) = is_end new

-- whether any of the events does
abbrev pub any_puts_last : List Event → Bool
any_puts_last [] = false
any_puts_last (e ∷ es) = puts_last e || any_puts_last es

-- an event that inserts nothing at the end of a block reaches operation x
abbrev pub IsReached : {N T A : Type 0} → OpOf N T A → Event → ℕ → Type 0
IsReached t e x = (puts_last e ≡ false) × (reaches e x t ≡ true)

-- whether an operation leaves a place in an event
abbrev pub leaves : Event → Bool
leaves (Put x place fresh) = false
leaves (Take x place fresh) = true
leaves (SetOperand x k old new) = false
leaves (SetEntry x part key old new) = false
leaves (Shift x old new) = true

-- the same as `IsReached`; if no operation leaves a place, only up to `passed`
abbrev pub IsReachedUpTo : {N T A : Type 0} → OpOf N T A → ℕ → Event → ℕ → Type 0
IsReachedUpTo t passed e x = ((leaves e ≡ true) × IsReached t e x) ⊎ ((leaves e ≡ false) × UpTo t passed (IsReached t e) x)

-- operation x defines a value
abbrev pub Gives : Value → ℕ → Type 0
Gives v x = defining_op v ≡ Some x

-- operation x defines a value without uses
abbrev pub GivesUnused : {N T A : Type 0} → OpOf N T A → Value → ℕ → Type 0
GivesUnused t v x = Gives v x × (uses_of v t ≡ [])

-- x defines a value that gains a use in an event, or one that loses a use and has none left
abbrev pub GivesMoved : World → Event → ℕ → Type 0
GivesMoved w e x =
    OneOf Gives (gained_values (shown_operands w.store) e) x
    ⊎ OneOf (GivesUnused w.store.module_of.tree) (lost_values (shown_operands w.store) e) x

-- x is operation y or is around it, and every operation from y to below x has recursive memory effects
abbrev pub IsClimbed : World → ℕ → ℕ → Type 0
IsClimbed w y x = (k : ℕ) × Climbs (own_by w.ctx) k x y w.store.module_of.tree

-- the same for the parent of a place of an event
abbrev pub IsOuter : World → Event → ℕ → Type 0
IsOuter w e x = OneOf (IsClimbed w) (outer_ids e) x

-- x is either of the two
abbrev pub IsNextTo : World → Event → ℕ → Type 0
IsNextTo w e x = GivesMoved w e x ⊎ IsOuter w e x
