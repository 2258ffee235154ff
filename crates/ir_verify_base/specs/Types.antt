-- The properties of types that the rules read (Builtin Dialect, "Types").
use Rattle.std.specs.Prelude.{ℕ, ◌+◌, length, List, [], ◌∷◌, Bool, true, false, ◌==◌, ◌||◌, Option, Some, None}
use Rattle.std.specs.Option.{option_eq}
use Rattle.std.specs.Cmp.Lexicographic.{pointwise}
use Rattle.ir_types.specs.declared.node.Sign.TheVariants.{Signless}
use Rattle.ir_types.specs.Terms.{TypeTerm, Integer, Index, Memref}
use Rattle.ir_types.specs.SameTypes.{same_type}

-- whether two lists of optional types are equal
abbrev pub same_types : List (Option TypeTerm) → List (Option TypeTerm) → Bool
same_types = pointwise (option_eq same_type)

-- the width of a signless integer type
abbrev pub width_of : TypeTerm → Option ℕ
width_of (Integer Signless w) = Some w
width_of _ = None

-- the kinds of types in the operation table
abbrev pub is_integer : TypeTerm → Bool
is_integer (Integer Signless w) = true
is_integer _ = false

abbrev pub is_index : TypeTerm → Bool
is_index Index = true
is_index _ = false

abbrev pub is_number : TypeTerm → Bool
is_number ty = is_integer ty || is_index ty

abbrev pub is_boolean : TypeTerm → Bool
is_boolean (Integer Signless w) = w == 1
is_boolean _ = false

abbrev pub is_memref : TypeTerm → Bool
is_memref (Memref dims elem) = true
is_memref _ = false

-- the number of dynamic dimensions
abbrev pub unknown_count : List (Option ℕ) → ℕ
unknown_count [] = 0
unknown_count (None ∷ dims) = unknown_count dims + 1
unknown_count (Some d ∷ dims) = unknown_count dims

-- the parts of a memref type: its rank, its number of dynamic dimensions, and its element type
abbrev pub memref_of : TypeTerm → Option (ℕ × ℕ × TypeTerm)
memref_of (Memref dims elem) = Some (length dims, unknown_count dims, elem)
memref_of _ = None
