-- The rules on the position of an operation.
use Rattle.std.specs.Prelude.{if◌then◌else◌, ℕ, List, [], ◌∷◌, codes, drop, Bool, true, false, not, ◌&&◌, ◌||◌, Option}
use Rattle.std.specs.Prelude.{Some, None, option_map, option_and_then}
use Rattle.std.specs.Str.{bytes_eq}
use Rattle.std.specs.List.{list_any}
use Rattle.ir_types.specs.Terms.{TypeTerm}
use Rattle.ir_types.specs.Words.{is_listed}
use Rattle.op_registry.specs.declared.definition.Trait.TheVariants.{Terminator}
use Rattle.op_registry.specs.Rows.{Row}
use Rattle.op_registry.specs.Registry.{row_of, has_trait}
use Rattle.ir_verify_base.specs.Types.{same_types}
use Rattle.ir_verify_base.specs.Fits.{Node, Outer, Surroundings, is_named, block_at, there, function_type}
use Rattle.ir_verify_base.specs.Shapes.{is_well_shaped}

-- whether the operation ends no block
abbrev pub ends_none : Option Node → Bool
ends_none None = true
ends_none (Some ended) = false

-- rule 10: a terminator isn't the last operation of its block
abbrev pub is_inside : Option Outer → Bool
is_inside None = false
is_inside (Some outer) = ends_none outer.ended

abbrev pub breaks_10 : Surroundings → Bool
breaks_10 s = has_trait Terminator s.node.head.name && is_inside s.outer

-- whether a name is one of the list
abbrev pub is_one : List ℕ → List (List ℕ) → Bool
is_one name names = list_any (bytes_eq name) names

-- whether the parent of an operation is listed and has none of these names
abbrev pub has_other_parent : List (List ℕ) → Option Outer → Bool
has_other_parent names None = false
has_other_parent names (Some outer) = is_listed outer.name && not (is_one outer.name names)

-- rule 11: the parent of a terminator is listed, and its row doesn't allow the parent
abbrev pub breaks_11 : Row → Surroundings → Bool
breaks_11 row s = has_trait Terminator s.node.head.name && has_other_parent row.parents s.outer

-- rule 23: the parent of a function is listed and isn't a module
abbrev pub breaks_23 : Surroundings → Bool
breaks_23 s = is_named s.node (codes "func.func") && has_other_parent (codes "builtin.module" ∷ []) s.outer

-- the operation whose block the operation ends, if that operation is well-shaped
abbrev pub if_well_shaped : Node → Option Row → Option Node
if_well_shaped node None = None
if_well_shaped node (Some row) = if is_well_shaped row node then Some node else None

abbrev pub well_shaped : Node → Option Node
well_shaped node = if_well_shaped node (row_of node.head.name)

abbrev pub ended_of : Surroundings → Option Node
ended_of s = option_and_then well_shaped (option_and_then (λ (outer : Outer). outer.ended) s.outer)

-- whether there are expected types, and the types differ from them
abbrev pub differ : Option (List (Option TypeTerm)) → List (Option TypeTerm) → Bool
differ None types = false
differ (Some wanted) types = not (same_types wanted types)

-- the types that a function returns
abbrev pub returned : Node → Option (List (Option TypeTerm))
returned parent =
    if is_named parent (codes "func.func")
    then option_map (λ (f : List TypeTerm × List TypeTerm). there f.1) (function_type parent) else None

-- rule 15: the operand types of a return at the end of a function differ from the function's result types
abbrev pub breaks_15 : Surroundings → Bool
breaks_15 s = is_named s.node (codes "func.return") && differ (option_and_then returned (ended_of s)) s.types

-- the operand types that an operation expects of a yield: the types of its results, or in a while loop those of the
-- first block's arguments
abbrev pub yielded : Node → Option (List (Option TypeTerm))
yielded parent =
    if is_named parent (codes "scf.while") then option_map there (block_at 0 parent)
    else if is_named parent (codes "scf.for") || is_named parent (codes "scf.if") then Some (there parent.head.results)
    else None

-- rule 16: the operand types of a yield at the end of a block differ from the expected ones
abbrev pub breaks_16 : Surroundings → Bool
breaks_16 s = is_named s.node (codes "scf.yield") && differ (option_and_then yielded (ended_of s)) s.types

-- the operand types that a while loop expects of a condition: the types of its results
abbrev pub passed : Node → Option (List (Option TypeTerm))
passed parent = if is_named parent (codes "scf.while") then Some (there parent.head.results) else None

-- rule 17: the operand types after the first, of a condition at the end of a block, differ from the expected ones
abbrev pub breaks_17 : Surroundings → Bool
breaks_17 s = is_named s.node (codes "scf.condition") && differ (option_and_then passed (ended_of s)) (drop 1 s.types)
