-- The rules on an operation's own form: counts and properties. The other rules apply only to well-shaped operations.
use Rattle.std.specs.Prelude.{ℕ, ◌-◌, List, length, Bool, false, not, ◌==◌, ◌&&◌, ◌||◌, is_some, Option, Some, None}
use Rattle.std.specs.List.{list_any}
use Rattle.ir_types.specs.Terms.{AttrTerm}
use Rattle.op_registry.specs.Rows.{Row, PropertyRow}
use Rattle.op_registry.specs.Properties.{is_allowed}
use Rattle.ir_verify_base.specs.Fits.{Node, property, count_fits}

-- the number of operands after the fixed ones
abbrev pub initial_count : Row → Node → ℕ
initial_count row node = length node.head.operands - length row.operands.first

-- rule 1: the row doesn't allow the number of operands
abbrev pub breaks_1 : Row → Node → Bool
breaks_1 row node = not (count_fits (initial_count row node) row.operands (length node.head.operands))

-- rule 3: the row doesn't allow the number of results
abbrev pub breaks_3 : Row → Node → Bool
breaks_3 row node = not (count_fits (initial_count row node) row.results (length node.head.results))

-- rule 5: the number of regions isn't the row's number
abbrev pub breaks_5 : Row → Node → Bool
breaks_5 row node = not (length node.arguments == length row.regions)

-- rule 12: a property that the row requires is missing
abbrev pub is_missing : Node → PropertyRow → Bool
is_missing node p = p.required && not (is_some (property p.key node))

abbrev pub breaks_12 : Row → Node → Bool
breaks_12 row node = list_any (is_missing node) row.properties

-- rule 13: a property of the row is of the wrong kind
abbrev pub is_refused : List ℕ → Option AttrTerm → Bool
is_refused key None = false
is_refused key (Some a) = not (is_allowed key a)

abbrev pub is_wrong : Node → PropertyRow → Bool
is_wrong node p = is_refused p.key (property p.key node)

abbrev pub breaks_13 : Row → Node → Bool
breaks_13 row node = list_any (is_wrong node) row.properties

-- whether the operation is well-shaped: its counts and its properties are those of its row
abbrev pub has_wrong_counts : Row → Node → Bool
has_wrong_counts row node = breaks_1 row node || (breaks_3 row node || breaks_5 row node)

abbrev pub has_wrong_properties : Row → Node → Bool
has_wrong_properties row node = breaks_12 row node || breaks_13 row node

abbrev pub is_well_shaped : Row → Node → Bool
is_well_shaped row node = not (has_wrong_counts row node || has_wrong_properties row node)
