-- The rules on the blocks of a well-shaped operation.
use Rattle.std.specs.Prelude.{if◌then◌else◌, ℕ, List, codes, length, Bool, true, not, ◌==◌, ◌&&◌, ◌||◌, Option, Some}
use Rattle.std.specs.Prelude.{None, option_and_then, is_some, is_none, slice_get}
use Rattle.std.specs.Str.{bytes_eq}
use Rattle.ir_types.specs.Words.{is_listed}
use Rattle.op_registry.specs.declared.definition.Trait.TheVariants.{Terminator}
use Rattle.op_registry.specs.Rows.{Row, RegionRow}
use Rattle.op_registry.specs.Registry.{has_trait}
use Rattle.op_registry.specs.Properties.{string_of}
use Rattle.ir_verify_base.specs.Fits.{Node, Surroundings, is_named, property, block_at, any_region}

-- the name of the last operation in the block of region k
abbrev pub last_at : ℕ → Surroundings → Option (List ℕ)
last_at k s = option_and_then (λ last. last) (slice_get s.lasts k)

-- rule 6: a region that must have a block has none
abbrev pub is_without : Node → ℕ → RegionRow → Bool
is_without node k region = not region.may_be_empty && is_none (block_at k node)

abbrev pub breaks_6 : Row → Surroundings → Bool
breaks_6 row s = any_region (is_without s.node) row.regions

-- rule 8: the block of a function is empty, or its last operation is listed and isn't a terminator
abbrev pub ends_badly : Option (List ℕ) → Bool
ends_badly None = true
ends_badly (Some name) = is_listed name && not (has_trait Terminator name)

abbrev pub breaks_8 : Surroundings → Bool
breaks_8 s = is_named s.node (codes "func.func") && (is_some (block_at 0 s.node) && ends_badly (last_at 0 s))

-- rule 9: the block is empty, or its last operation isn't the required terminator
abbrev pub isnt_required : List ℕ → Option (List ℕ) → Bool
isnt_required wanted None = true
isnt_required wanted (Some name) = not (bytes_eq name wanted)

abbrev pub ends_otherwise : ℕ → List ℕ → Surroundings → Bool
ends_otherwise k wanted s = is_some (block_at k s.node) && isnt_required wanted (last_at k s)

abbrev pub breaks_9 : Surroundings → Bool
breaks_9 s =
    if is_named s.node (codes "scf.while")
    then ends_otherwise 0 (codes "scf.condition") s || ends_otherwise 1 (codes "scf.yield") s
    else if is_named s.node (codes "scf.if")
    then ends_otherwise 0 (codes "scf.yield") s || ends_otherwise 1 (codes "scf.yield") s
    else is_named s.node (codes "scf.for") && ends_otherwise 0 (codes "scf.yield") s

-- rule 21: an `scf.if` with results has no second block
abbrev pub breaks_21 : Surroundings → Bool
breaks_21 s = is_named s.node (codes "scf.if") && (not (length s.node.head.results == 0) && is_none (block_at 1 s.node))

-- rule 22: a function without a block is public: it has no visibility, or its visibility is `public`
abbrev pub is_public : Option (List ℕ) → Bool
is_public None = true
is_public (Some visibility) = bytes_eq visibility (codes "public")

abbrev pub breaks_22 : Surroundings → Bool
breaks_22 s =
    is_named s.node (codes "func.func")
    && (is_none (block_at 0 s.node) && is_public (option_and_then string_of (property (codes "sym_visibility") s.node)))
