-- Properties of the scoped names.
use Rattle.std.specs.Prelude.{◌≡◌, ℕ, ◌≤◌, ◌<◌, List, [], ◌∷◌, length, take, drop, Some, slice_get}
use Rattle.ir_text_tokens.specs.Scopes.{Binding, Scopes}
use Rattle.ir_text_tokens.specs.Places.{views, Agrees}
use Rattle.ir_text_tokens.specs.declared.names.ScopeStart.{ScopeStart}
use Rattle.ir_text_tokens.specs.declared.names.ScopedNames.TheInside.{Inside}

-- the bindings that were visible at the start of a region
abbrev pub visible_at : {T : Type 0} → List (Binding T) → ScopeStart → List (Binding T)
visible_at bs m = drop m.first (take m.count bs)

-- the bindings that were visible at the start of each region, the last region first
unfoldable pub visible_onto : {T : Type 0} → List (Binding T) → List (List (Binding T)) → List ScopeStart → List (List (Binding T))
visible_onto bs done [] = done
visible_onto bs done (m ∷ ms) = visible_onto bs (visible_at bs m ∷ done) ms

abbrev pub scopes_of : {T : Type 0} → Inside T → Scopes T
scopes_of n = record { here = drop n.first (views n.entries.items); outer = visible_onto (views n.entries.items) [] n.floors.items }

-- each region start has its first entry within its count, the counts rise, and none is more than `count`
pub record Standing (ms : List ScopeStart) (count : ℕ) : Type 0 where
  pub marked : (i : ℕ) (m : ScopeStart) → slice_get ms i ≡ Some m → (m.first ≤ m.count) × (m.count ≤ count)
  pub rising : (i j : ℕ) (m k : ScopeStart) → i < j → slice_get ms i ≡ Some m → slice_get ms j ≡ Some k → m.count ≤ k.count

pub record Holds {T : Type 0} (n : Inside T) : Type 0 where
  pub agrees : Agrees n.latest n.entries.items
  pub standing : Standing n.floors.items (length n.entries.items)
  pub floor : n.first ≤ length n.entries.items
