-- Casts are listed once, before they are erased one after another.
use Rattle.std.specs.Prelude.{◌≡◌, ℕ, List, filter}
use Rattle.ir_event.specs.trees.Ids.{ids}
use Rattle.ir_event.specs.trees.Meaning.{Operation}
use Rattle.conversion_base.specs.Reconciling.{is_cast}

-- the casts of a tree among some operations
abbrev pub casts_among : List ℕ → Operation → List ℕ
casts_among xs t = filter (λ x. is_cast x t) xs

-- the operations include all casts of a tree, in pre-order
abbrev pub HaveCasts : List ℕ → Operation → Type 0
HaveCasts xs t = casts_among xs t ≡ casts_among (ids t) t
