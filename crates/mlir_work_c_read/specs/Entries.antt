-- Reads of the entries of operations, by the numbers of keys and attributes.
use Rattle.std.specs.Prelude.{ℕ, List, [], ◌∷◌, eqb, if◌then◌else◌, slice_get, Option, Some, None, option_and_then}
use Rattle.ir_event.specs.trees.Tree.{Op, head}
use Rattle.ir_event.specs.trees.Ids.{find}

-- entry k of the properties, and of the discardable attributes, of operation x
abbrev pub property_at : ℕ → ℕ → Op → Option (ℕ × ℕ)
property_at x k t = option_and_then (λ o. slice_get (head o).properties k) (find x t)

abbrev pub attribute_at : ℕ → ℕ → Op → Option (ℕ × ℕ)
attribute_at x k t = option_and_then (λ o. slice_get (head o).attributes k) (find x t)

-- the attribute of the entry with a key
abbrev pub at_key : ℕ → List (ℕ × ℕ) → Option ℕ
at_key key [] = None
at_key key (e ∷ es) = if eqb e.0 key then Some e.1 else at_key key es

-- the property, and the discardable attribute, of operation x at a key
abbrev pub property_by_key : ℕ → ℕ → Op → Option ℕ
property_by_key x key t = option_and_then (λ o. at_key key (head o).properties) (find x t)

abbrev pub attribute_by_key : ℕ → ℕ → Op → Option ℕ
attribute_by_key x key t = option_and_then (λ o. at_key key (head o).attributes) (find x t)
