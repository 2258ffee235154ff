-- The attached analyses: the visible state of an analysis, and the effects of calls.
use Rattle.std.specs.Prelude.{◌≡◌, ℕ, List, [], ◌∷◌, ◌++◌, Bool, true, false, ◌==◌, Some, is_some, map, position}
use Rattle.std.specs.Prelude.{remove, slice_get, slice_set}
use Rattle.std.specs.List.{AllZip}
use Rattle.ir_event.specs.trees.Meaning.{Operation}
use Rattle.ir_event.specs.Rows.{RowTerm}
use Rattle.ir_event.specs.Listener.{Listener}

-- the visible state of a listener: its kind, its analysis, and whether it is stale
pub record Shown : Type 0 where
  pub kind : ℕ
  pub analysis : Operation → List RowTerm
  pub stale : Bool

abbrev pub shown : Listener → Shown
shown a = record { kind = a.kind; analysis = a.analysis; stale = a.stale }

-- the visible states of listeners; `B` is their type, and `meaning` the meaning of each
abbrev pub all_shown : {B : Type 0} → (B → Listener) → List B → List Shown
all_shown meaning bs = map (λ b. shown (meaning b)) bs

-- b is the same analysis as a
pub record IsSame (a b : Shown) : Type 0 where
  pub kind : b.kind ≡ a.kind
  pub analysis : (t : Operation) → b.analysis t ≡ a.analysis t

-- b is the same analysis as a, and is stale if a is
pub record Ages (a b : Shown) : Type 0 where
  pub same : IsSame a b
  pub stale : a.stale ≡ true → b.stale ≡ true

-- any analysis may have become stale; none was added, removed, moved or made fresh
abbrev pub AllAge : List Shown → List Shown → Type 0
AllAge = AllZip Ages

abbrev pub is_kind : ℕ → Shown → Bool
is_kind kind a = a.kind == kind

-- whether an analysis of a kind is attached
abbrev pub has_kind : ℕ → List Shown → Bool
has_kind kind panel = is_some (position (is_kind kind) panel)

-- an analysis was added last, and isn't stale
pub record Attached (a : Shown) (old new : List Shown) : Type 0 where
  pub begun : Shown
  pub same : IsSame a begun
  pub stale : begun.stale ≡ false
  pub last : new ≡ old ++ begun ∷ []

-- the analysis of a kind was removed; the others keep their order
pub record Detached (kind : ℕ) (old new : List Shown) : Type 0 where
  pub place : ℕ
  pub is : position (is_kind kind) old ≡ Some place
  pub rest : new ≡ remove old place

-- the analysis of a kind was restarted, and is stale or not; the others are unchanged
pub record BegunAgain (kind : ℕ) (stale : Bool) (old new : List Shown) : Type 0 where
  pub place : ℕ
  pub before : Shown
  pub after : Shown
  pub is : position (is_kind kind) old ≡ Some place
  pub was : slice_get old place ≡ Some before
  pub same : IsSame before after
  pub gives : after.stale ≡ stale
  pub rest : new ≡ slice_set old place after
