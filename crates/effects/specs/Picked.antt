-- The defined values of a partial function on a range of numbers, in order.
use Rattle.std.specs.Prelude.{ℕ, zero, suc, List, [], ◌∷◌, map, Bool, true, false, ◌&&◌, if◌then◌else◌, Option, Some, None}
use Rattle.listeners_support.specs.Bits.{has}
use Rattle.effects.specs.declared.row.Row.{Row}
use Rattle.effects.specs.declared.effect_kinds.EffectKinds.{EffectKinds}
use Rattle.effects.specs.Dead.{may_go}
use Rattle.effects.specs.Effects.{is_none}
use Rattle.effects.specs.Reports.{having}
use Rattle.effects.specs.Points.{Rows}

-- the number and its value prepended to a list, if there is a value
abbrev pub with_said : {V : Type 0} → ℕ → Option V → List (ℕ × V) → List (ℕ × V)
with_said x None ps = ps
with_said x (Some v) ps = (x, v) ∷ ps

-- the defined values of `count` numbers from one on
abbrev pub picked : {V : Type 0} → (ℕ → Option V) → ℕ → ℕ → List (ℕ × V)
picked f from zero = []
picked f from (suc count) = with_said from (f from) (picked f (suc from) count)

-- `Some true` for true
abbrev pub if_true : Bool → Option Bool
if_true true = Some true
if_true false = None

-- whether an operation's effects are only allocations and reads, by its entry
abbrev pub idle_row : Option Row → Bool
idle_row None = false
idle_row (Some r) = may_go r.has

-- whether an operation of the set has only allocations and reads as effects
abbrev pub idle_in_set : List ℕ → Rows → ℕ → Option Bool
idle_in_set set rows x = if_true (has set x && idle_row (rows x))

-- the numbers of such operations among `count` numbers
abbrev pub idle_numbers : List ℕ → Rows → ℕ → ℕ → List ℕ
idle_numbers set rows from count = map (λ (p : ℕ × Bool). p.0) (picked (idle_in_set set rows) from count)

-- a set of effects, if it isn't empty
abbrev pub if_some : EffectKinds → Option EffectKinds
if_some s = if is_none s then None else Some s

-- the effects of an entry, if there are some
abbrev pub effects_in : Option Row → Option EffectKinds
effects_in None = None
effects_in (Some r) = if_some r.has

-- the same as a list
abbrev pub said_row : ℕ → Option Row → List (ℕ × EffectKinds)
said_row x None = []
said_row x (Some r) = having ((x, r.has) ∷ [])

-- the effects of an operation that is in the set
abbrev pub effects_in_set : List ℕ → Rows → ℕ → Option EffectKinds
effects_in_set set rows x = if has set x then effects_in (rows x) else None

-- the operations with effects among `count` numbers
abbrev pub acting_numbers : List ℕ → Rows → ℕ → ℕ → List (ℕ × EffectKinds)
acting_numbers set rows from count = picked (effects_in_set set rows) from count
