-- The bytes that a run wrote.
use Rattle.std.specs.Prelude.{List, ℕ, Bool, Result, Ok, Err}
use Rattle.mlir_work_script_base.specs.Writes.{Grows, GrowsPreceding, Stream}

-- a run gave a status and an output that satisfy `P`; after a write error, a prefix of such an output was written
abbrev pub RanOut : {S E : Type 0} → (S → List ℕ → Type 0) → Stream → Stream → Result S E → Type 0
RanOut P old new (Ok status) = (out : List ℕ) × P status out × Grows old new out
RanOut P old new (Err e) = (status : _) × (out : List ℕ) × P status out × GrowsPreceding old new out

-- listeners were attached so that `P` holds for the resulting list or state; after a write error, a prefix of such an
-- output was written
abbrev pub AttachedOut : {S E : Type 0} → (S → Bool → List ℕ → Type 0) → S → Stream → Stream → Result Bool E → Type 0
AttachedOut P panel old new (Ok accepted) = (out : List ℕ) × P panel accepted out × Grows old new out
AttachedOut P panel old new (Err e) = (some : _) × (accepted : Bool) × (out : List ℕ) × P some accepted out × GrowsPreceding old new out
