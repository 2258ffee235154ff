-- Words for the theorems about parsing.
use Rattle.std.specs.Prelude.{ℕ, ◌≤◌, ◌⊎◌, List, [], ◌∷◌, length}
use Rattle.ir_types.specs.Things.{ContextModel}
use Rattle.ir_types.specs.Limits.{most_things}
use Rattle.ir_types.specs.Terms.{TypeTerm}
use Rattle.ir_text_types.specs.Denotation.{TypeDenotes}

module _ {A B : Type 0} (R : ContextModel → A → B → Type 0) where
  -- the lists have equal lengths, and each item denotes its counterpart
  abbrev pub Each : ContextModel → List A → List B → Type 0
  Each c [] [] = Unit {0}
  Each c [] (y ∷ ys) = ⊥
  Each c (x ∷ xs) [] = ⊥
  Each c (x ∷ xs) (y ∷ ys) = R c x y × Each c xs ys

-- the ids of types denote the types
abbrev pub TypesDenote : ContextModel → List ℕ → List TypeTerm → Type 0
TypesDenote = Each TypeDenotes

-- inputs and outputs
abbrev pub SignatureDenotes : ContextModel → List ℕ × List ℕ → List TypeTerm × List TypeTerm → Type 0
SignatureDenotes c x y = TypesDenote c x.0 y.0 × TypesDenote c x.1 y.1

-- no more names, types or attributes can be added
abbrev pub IsFull : ContextModel → Type 0
IsFull c = (most_things ≤ length c.names) ⊎ ((most_things ≤ length c.types) ⊎ (most_things ≤ length c.attrs))
