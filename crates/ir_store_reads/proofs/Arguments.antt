-- The arguments of a region, in a slot's shapes and in a node.
use Rattle.std.proofs.Common.{◌≡◌, ℕ, zero, suc, List, [], ◌∷◌, map, refl, Option, Some, None, slice_get}
use Rattle.std.specs.Prelude.{option_and_then, option_map}
use Rattle.ir_store_slots.specs.Rows.{RegionShape, shape_arguments}

pub node_arguments : (xs : List RegionShape) (r : ℕ) → option_and_then shape_arguments (slice_get xs r) ≡ option_and_then {T = Option (List ℕ)} (λ a. a) (slice_get (map (option_map {T = List ℕ × ℕ} (λ a. a.0)) xs) r)
node_arguments [] r = refl
node_arguments (None ∷ xs) zero = refl
node_arguments (Some a ∷ xs) zero = refl
node_arguments (a ∷ xs) (suc r) = node_arguments xs r
