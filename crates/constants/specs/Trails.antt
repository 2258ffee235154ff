-- Uses between operations, and trails of operations.
use Rattle.std.specs.Prelude.{◌≡◌, ℕ, ◌+◌, Bool, true, List, [], ◌∷◌, Option, Some}
use Rattle.ir_event.specs.trees.declared.value.Value.TheVariants.{Result}
use Rattle.ir_event.specs.tree_laws.Members.{In}
use Rattle.dialects_int.specs.Folds.{Known}
use Rattle.constants.specs.Facts.{Header, Facts, value}

-- each id is in the list once
abbrev pub OnceEach : List ℕ → Type 0
OnceEach [] = Unit {0}
OnceEach (x ∷ xs) = (In x xs → ⊥) × OnceEach xs

-- a sum over a list
abbrev pub total : (ℕ → ℕ) → List ℕ → ℕ
total g [] = 0
total g (x ∷ xs) = g x + total g xs

-- the first result of d is an operand of y
pub record Uses (ops : ℕ → Option Header) (d y : ℕ) : Type 0 where
  pub here : Header
  pub is : ops y ≡ Some here
  pub operand : In (Result d 0) here.operands

-- operation y is there
abbrev pub IsThere : (ℕ → Option Header) → ℕ → Type 0
IsThere ops y = (h : Header) × (ops y ≡ Some h)

-- the result of y has a known value
abbrev pub IsKnown : Facts → ℕ → Type 0
IsKnown t y = (v : Known) × (t y ≡ Some v)

-- each known value is the fold of its operation
abbrev pub Follows : (ℕ → Option Header) → Facts → Type 0
Follows ops t = (y : ℕ) (v : Known) → t y ≡ Some v → value ops t y ≡ Some v

-- each operation of the trail is in it once and had a known value, and it is a first operation or uses a result of
-- the trail; so a property of the first operations that passes from operations with known values to their users holds
-- for the trail
pub record IsTrail (ops : ℕ → Option Header) (first : ℕ → Type 0) (t : Facts) (trail : List ℕ) : Type 0 where
  pub once : OnceEach trail
  pub known : (y : ℕ) → In y trail → IsKnown t y
  pub reached : (r : ℕ → Bool) → ((y : ℕ) → first y → r y ≡ true)
      → ((d y : ℕ) → r d ≡ true → IsKnown t d → Uses ops d y → r y ≡ true) → (y : ℕ) → In y trail → r y ≡ true
