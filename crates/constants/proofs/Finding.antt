-- A fact learned in an IR state is a fact of an equal IR state.
use Rattle.std.proofs.Common.{◌≡◌, ℕ, Option, List, subst}
use Rattle.ir_event.specs.tree_laws.Members.{In}
use Rattle.constants.specs.Facts.{Header, Facts}
use Rattle.constants.specs.Trails.{IsThere}
use Rattle.constants.specs.Phases.{LearntFrom}

module _ {W : Type 0} (ops : W → ℕ → Option Header) (uses : W → ℕ → ℕ) where
  pub learnt_in : (w v : W) (D : Type 0) (x : ℕ) (forgotten slice : List ℕ) (a b : Facts) (before after : ℕ) → v ≡ w → slice ≡ forgotten
      → (IsThere (ops v) x → ((y : ℕ) → In y slice → IsThere (ops v) y) → LearntFrom D (ops v) (uses v) x slice a b before after)
      → IsThere (ops w) x → ((y : ℕ) → In y forgotten → IsThere (ops w) y) → LearntFrom D (ops w) (uses w) x forgotten a b before after
  learnt_in w v D x forgotten slice a b before after e f g =
      subst (λ l. IsThere (ops w) x → ((y : ℕ) → In y l → IsThere (ops w) y) → LearntFrom D (ops w) (uses w) x l a b before after) f
      (subst (λ z. IsThere (ops z) x → ((y : ℕ) → In y slice → IsThere (ops z) y) → LearntFrom D (ops z) (uses z) x slice a b before after) e g)
