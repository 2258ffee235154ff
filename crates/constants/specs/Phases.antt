-- The two phases of an update: the values that may have changed are forgotten, then the values that can be known are
-- learned.
use Rattle.std.specs.Prelude.{◌≡◌, ℕ, ◌+◌, ◌≤◌, List, [], ◌∷◌, ◌++◌, length, Option, Some, None, ◌⊎◌}
use Rattle.ir_event.specs.tree_laws.Members.{In}
use Rattle.dialects_int.specs.Folds.{Known}
use Rattle.constants.specs.Facts.{Header, Facts, value, AreLocal}
use Rattle.constants.specs.Walk.{with_fact}
use Rattle.constants.specs.Trails.{OnceEach, total, Uses, IsKnown, Follows, IsTrail}

-- some of the operations that satisfy P were forgotten and appended to the trail; if the step was completed, no known
-- value of such an operation is left
pub record Forgotten (done : Type 0) (P : ℕ → Type 0) (old new : Facts) (trail longer : List ℕ) : Type 0 where
  pub more : List ℕ
  pub is : longer ≡ trail ++ more
  pub once : OnceEach more
  pub only : (y : ℕ) → In y more → P y
  pub was : (y : ℕ) → In y more → IsKnown old y
  pub gone : (y : ℕ) → In y more → new y ≡ None
  pub kept : (y : ℕ) → (In y more → ⊥) → new y ≡ old y
  pub all : done → (y : ℕ) → P y → new y ≡ None

-- during the first phase: a known value is the fold of its operation, unless an operand is still to be followed; an
-- unknown value isn't, except at x and where it was forgotten
pub record Forgetting (ops : ℕ → Option Header) (x : ℕ) (t : Facts) (trail rest : List ℕ) : Type 0 where
  pub known : (y : ℕ) (v : Known) → t y ≡ Some v → ((d : ℕ) → In d rest → Uses ops d y → ⊥) → value ops t y ≡ Some v
  pub unknown : (y : ℕ) → t y ≡ None → (y ≡ x → ⊥) → (In y trail → ⊥) → value ops t y ≡ None

-- some of the operations that satisfy P were learned and appended to the trail; if the step was completed, an
-- operation without a known value has no fold, unless an operand was learned
pub record Learnt (done : Type 0) (ops : ℕ → Option Header) (P : ℕ → Type 0) (old new : Facts)
    (trail longer : List ℕ) : Type 0 where
  pub more : List ℕ
  pub is : longer ≡ trail ++ more
  pub once : OnceEach more
  pub only : (y : ℕ) → In y more → P y
  pub was : (y : ℕ) → In y more → old y ≡ None
  pub now : (y : ℕ) → In y more → IsKnown new y
  pub grows : (y : ℕ) (v : Known) → old y ≡ Some v → new y ≡ Some v
  pub sound : Follows ops old → Follows ops new
  pub kept : done → (y : ℕ) → (In y more → ⊥) → new y ≡ old y
  pub settled : done → (y : ℕ) → P y → new y ≡ None → ((d : ℕ) → In d more → Uses ops d y → ⊥) → value ops new y ≡ None

-- a known value was written at x, and x was appended to the trail; if the step wasn't completed, perhaps only the
-- value was written
abbrev pub Noted : Type 0 → ℕ → Known → Facts → Facts → List ℕ → List ℕ → Type 0
Noted done x v old new trail longer =
    (((y : ℕ) → new y ≡ with_fact x (Some v) old y) × (longer ≡ trail ++ x ∷ []))
    ⊎ ((done → ⊥) × (longer ≡ trail) × (((y : ℕ) → new y ≡ with_fact x (Some v) old y) ⊎ ((y : ℕ) → new y ≡ old y)))

-- during the second phase: a known value is the fold of its operation, and an unknown value has none, unless an
-- operand is still to be followed
pub record Learning (ops : ℕ → Option Header) (t : Facts) (rest : List ℕ) : Type 0 where
  pub known : Follows ops t
  pub unknown : (y : ℕ) → t y ≡ None → ((d : ℕ) → In d rest → Uses ops d y → ⊥) → value ops t y ≡ None

-- the second phase, where `uses` counts the uses of an operation's results: if it was completed, the facts agree with
-- the operations; it looks at the operations that it learned
pub record LearntFrom (done : Type 0) (ops : ℕ → Option Header) (uses : ℕ → ℕ) (x : ℕ) (forgotten : List ℕ)
    (old new : Facts) (before after : ℕ) : Type 0 where
  pub trail : List ℕ
  pub path : IsTrail ops (λ y. (y ≡ x) ⊎ In y forgotten) new trail
  pub sound : Follows ops old → Follows ops new
  pub few : after ≤ before + (1 + length forgotten + (total (λ d. 1 + uses d) trail + total uses trail))
  pub local : done → Forgetting ops x old forgotten [] → AreLocal ops new

-- the operations are the same except for x
abbrev pub SameBut : ℕ → (ℕ → Option Header) → (ℕ → Option Header) → Type 0
SameBut x was ops = (y : ℕ) → (y ≡ x → ⊥) → ops y ≡ was y

-- ys are the operations that have the first result of d as an operand
pub record AreUsers (ops : ℕ → Option Header) (d : ℕ) (ys : List ℕ) : Type 0 where
  pub all : (y : ℕ) → Uses ops d y → In y ys
  pub only : (y : ℕ) → In y ys → Uses ops d y
