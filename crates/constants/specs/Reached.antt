-- The operations that an event reaches, and the limit of looks.
use Rattle.std.specs.Prelude.{ℕ, ◌+◌, ◌*◌, ◌==◌, eqb, if◌then◌else◌, Bool, false, ◌||◌, ◌&&◌, List, [], ◌∷◌, length}
use Rattle.std.specs.Prelude.{is_some}
use Rattle.std.specs.List.{list_any}
use Rattle.ir_event.specs.trees.declared.value.Value.{Value}
use Rattle.ir_event.specs.trees.declared.value.Value.TheVariants.{Result, Arg}
use Rattle.ir_event.specs.declared.event.Event.{Event}
use Rattle.ir_event.specs.Modules.{Module}
use Rattle.ir_event.specs.Bounds.{op_of}
use Rattle.ir_event.specs.Heads.{heads}
use Rattle.constants.specs.Facts.{Header, Facts}
use Rattle.constants.specs.Walk.{facts_of}

-- 1 if a condition holds, and 0 otherwise
abbrev pub one_if : Bool → ℕ
one_if b = if b then 1 else 0

abbrev pub is_result_of : ℕ → Value → Bool
is_result_of x (Result y k) = eqb y x
is_result_of x (Arg y r k) = false

-- the number of these values that are results of x
abbrev pub results_among : ℕ → List Value → ℕ
results_among x [] = 0
results_among x (v ∷ vs) = one_if (is_result_of x v) + results_among x vs

-- a sum over operations
abbrev pub over : List Header → (Header → ℕ) → ℕ
over [] g = 0
over (h ∷ hs) g = g h + over hs g

-- the number of operands of these operations that are results of x
abbrev pub uses_among : List Header → ℕ → ℕ
uses_among hs x = over hs (λ h. results_among x h.operands)

-- whether a value is a result of one of the operations r
abbrev pub is_result_in : (ℕ → Bool) → Value → Bool
is_result_in r (Result y k) = r y
is_result_in r (Arg y s k) = false

-- the operations r with x added or removed
abbrev pub with_op : ℕ → Bool → (ℕ → Bool) → ℕ → Bool
with_op x b r y = if y == x then b else r y

-- the reached operations: those at the beginning and, in order, each operation that uses a result of a reached
-- operation with a known result
abbrev pub reached_along : (ℕ → Bool) → List Header → (ℕ → Bool) → ℕ → Bool
reached_along knows [] r = r
reached_along knows (h ∷ hs) r =
    reached_along knows hs (with_op h.id (r h.id || list_any (is_result_in (λ y. r y && knows y)) h.operands) r)

-- the operations that a change of x reaches, given the facts before and after it
abbrev pub reached : Facts → Facts → List Header → ℕ → ℕ → Bool
reached before after hs x = reached_along (λ y. is_some (before y) || is_some (after y)) hs (λ y. y == x)

-- the limit of looks: 4, and for each reached operation twice the sum of 2, its operands and the uses of its results
abbrev pub most_over : (ℕ → Bool) → List Header → ℕ
most_over r hs = 4 + 2 * over hs (λ h. if r h.id then 2 + length h.operands + uses_among hs h.id else 0)

-- the limit of looks for an event that leads from one module to another
abbrev pub most_looks : Event → Module → Module → ℕ
most_looks e m n = most_over (reached (facts_of m.tree) (facts_of n.tree) (heads n.tree) (op_of e)) (heads n.tree)
