-- The rules on the types of a well-shaped operation.
use Rattle.std.specs.Prelude.{if◌then◌else◌, ℕ, pos, List, [], ◌∷◌, codes, length, Bool, true, false, not, ◌==◌, ◌&&◌}
use Rattle.std.specs.Prelude.{◌||◌, nat_le, Option, Some, None, option_and_then}
use Rattle.std.specs.Ordering.{int_eq}
use Rattle.std.specs.Cmp.Lexicographic.{pointwise}
use Rattle.ir_types.specs.Terms.{TypeTerm, AttrTerm, DenseArray}
use Rattle.op_registry.specs.Rows.{Row, RegionRow}
use Rattle.op_registry.specs.Properties.{integer_of}
use Rattle.ir_types.specs.SameTypes.{same_type}
use Rattle.ir_verify_base.specs.Types.{width_of, is_index, is_number, memref_of}
use Rattle.ir_verify_base.specs.Fits.{Node, Surroundings, Known, known_of, is_named, property, block_at, any_region}
use Rattle.ir_verify_base.specs.Fits.{there, types_fit}

-- rule 2: the type of an operand doesn't satisfy its rule, or the first operand whose rule is `Number` isn't a number
abbrev pub is_no_number : Option TypeTerm → Bool
is_no_number None = false
is_no_number (Some t) = not (is_number t)

abbrev pub breaks_2 : Row → Surroundings → Bool
breaks_2 row s = is_no_number (known_of row s).number || not (types_fit (known_of row s) row.operands s.types)

-- rule 4: the type of a result doesn't satisfy its rule
abbrev pub breaks_4 : Row → Surroundings → Bool
breaks_4 row s = not (types_fit (known_of row s) row.results (there s.node.head.results))

-- rule 7: the argument types of a block don't satisfy their rules
abbrev pub arguments_differ : Known → RegionRow → Option (List TypeTerm) → Bool
arguments_differ known region None = false
arguments_differ known region (Some args) = not (types_fit known region.arguments (there args))

abbrev pub any_differ : Known → List RegionRow → Node → Bool
any_differ known regions node = any_region (λ k region. arguments_differ known region (block_at k node)) regions

abbrev pub breaks_7 : Row → Surroundings → Bool
breaks_7 row s = any_differ (known_of row s) row.regions s.node

-- rule 14: the value of a constant isn't of the type of its result
abbrev pub is_of_another : Option (TypeTerm × ℕ) → List TypeTerm → Bool
is_of_another (Some integer) (t ∷ []) = not (same_type integer.0 t)
is_of_another _ _ = false

abbrev pub breaks_14 : Surroundings → Bool
breaks_14 s =
    is_named s.node (codes "arith.constant")
    && is_of_another (option_and_then integer_of (property (codes "value") s.node)) s.node.head.results

-- the widths of the single operand and the single result, if both are signless integers
abbrev pub both_widths : Option ℕ → Option ℕ → Option (ℕ × ℕ)
both_widths (Some v) (Some w) = Some (v, w)
both_widths _ _ = None

abbrev pub widths : List (Option TypeTerm) → List TypeTerm → Option (ℕ × ℕ)
widths (t ∷ []) (u ∷ []) = both_widths (option_and_then width_of t) (width_of u)
widths _ _ = None

-- whether there are widths, and the result's isn't greater
abbrev pub no_greater : Option (ℕ × ℕ) → Bool
no_greater None = false
no_greater (Some p) = nat_le p.1 p.0

abbrev pub isnt_greater : List (Option TypeTerm) → List TypeTerm → Bool
isnt_greater operands results = no_greater (widths operands results)

-- whether there are widths, and the result's isn't smaller
abbrev pub no_smaller : Option (ℕ × ℕ) → Bool
no_smaller None = false
no_smaller (Some p) = nat_le p.0 p.1

abbrev pub isnt_smaller : List (Option TypeTerm) → List TypeTerm → Bool
isnt_smaller operands results = no_smaller (widths operands results)

-- rule 18: an extension isn't to a greater width, or a truncation isn't to a smaller one
abbrev pub is_extension : Node → Bool
is_extension node = is_named node (codes "arith.extsi") || is_named node (codes "arith.extui")

abbrev pub breaks_18 : Surroundings → Bool
breaks_18 s =
    if is_named s.node (codes "arith.trunci") then isnt_smaller s.types s.node.head.results
    else is_extension s.node && isnt_greater s.types s.node.head.results

-- rule 19: not exactly one of the operand and the result of an index cast is `index`
abbrev pub is_an_index : Option TypeTerm → Bool
is_an_index None = false
is_an_index (Some t) = is_index t

abbrev pub not_one : Bool → Bool → Bool
not_one true b = b
not_one false b = not b

abbrev pub not_one_index : List (Option TypeTerm) → List TypeTerm → Bool
not_one_index (t ∷ []) (u ∷ []) = not_one (is_an_index t) (is_index u)
not_one_index _ _ = false

abbrev pub is_index_cast : Node → Bool
is_index_cast node = is_named node (codes "arith.index_cast") || is_named node (codes "arith.index_castui")

abbrev pub breaks_19 : Surroundings → Bool
breaks_19 s = is_index_cast s.node && not_one_index s.types s.node.head.results

-- rule 20: the number of indices of a load or store isn't the memref's rank, or the type of its value isn't the
-- element type; or the number of operands of an allocation isn't the number of dynamic dimensions
abbrev pub element_differs : Option (ℕ × ℕ × TypeTerm) → ℕ → Option TypeTerm → Bool
element_differs (Some memref) indices (Some t) = not (indices == memref.0) || not (same_type t memref.2)
element_differs (Some memref) indices None = not (indices == memref.0)
element_differs None indices t = false

abbrev pub load_differs : List (Option TypeTerm) → List TypeTerm → Bool
load_differs (m ∷ indices) (t ∷ []) = element_differs (option_and_then memref_of m) (length indices) (Some t)
load_differs _ _ = false

abbrev pub store_differs : List (Option TypeTerm) → Bool
store_differs (t ∷ m ∷ indices) = element_differs (option_and_then memref_of m) (length indices) t
store_differs _ = false

abbrev pub sizes_differ : ℕ → Option (ℕ × ℕ × TypeTerm) → Bool
sizes_differ sizes None = false
sizes_differ sizes (Some memref) = not (sizes == memref.1)

abbrev pub alloc_differs : List (Option TypeTerm) → List TypeTerm → Bool
alloc_differs sizes (t ∷ []) = sizes_differ (length sizes) (memref_of t)
alloc_differs sizes _ = false

abbrev pub breaks_20 : Surroundings → Bool
breaks_20 s =
    if is_named s.node (codes "memref.load") then load_differs s.types s.node.head.results
    else if is_named s.node (codes "memref.store") then store_differs s.types
    else is_named s.node (codes "memref.alloc") && alloc_differs s.types s.node.head.results

-- rule 24: an allocation of n operands has segment sizes other than n and 0
abbrev pub segments_differ : ℕ → Option AttrTerm → Bool
segments_differ n (Some (DenseArray ty values)) = not (pointwise int_eq values (pos n ∷ pos 0 ∷ []))
segments_differ n _ = false

abbrev pub breaks_24 : Surroundings → Bool
breaks_24 s =
    is_named s.node (codes "memref.alloc")
    && segments_differ (length s.types) (property (codes "operandSegmentSizes") s.node)
