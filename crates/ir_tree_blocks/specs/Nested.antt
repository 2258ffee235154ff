-- Nesting the blocks of a region below their parents.
use Rattle.std.specs.Prelude.{ℕ, zero, suc, List, [], ◌∷◌, eqb, false, if◌then◌else◌, map}
use Rattle.ir_tree.specs.types.Things.{ContextModel}
use Rattle.ir_tree.specs.types.Terms.{type_term}
use Rattle.ir_tree.specs.Tree.{Op, op, no_regions, region, block, ops_of}
use Rattle.ir_tree_blocks.specs.declared.nesting.BlockToNest.{BlockToNest}
use Rattle.ir_tree_blocks.specs.Nesting.{Layout, NestedBlock, no_scopes, scope}
use Rattle.ir_tree_blocks.specs.Read.{ops_meaning}

-- a block: its id, its label, its arguments and its operations, which are nested
abbrev pub nested_view : ContextModel → BlockToNest → NestedBlock
nested_view c b = record { id = b.id; label = b.label; args = map (type_term c) b.args.items; ops = ops_meaning c b.ops.items }

-- the layout of the blocks of a list whose parent is block v: a scope for each, in order; `inside` gives what is below each
abbrev pub layout_among : (ℕ → Layout) → ℕ → List BlockToNest → Layout
layout_among inside v [] = no_scopes
layout_among inside v (b ∷ bs) = if eqb b.parent v then scope b.label false (inside b.label) (layout_among inside v bs) else layout_among inside v bs

-- the layout of what is inside a scope, if there are at most n levels of scopes from that one on
abbrev pub layout_inside : List BlockToNest → ℕ → ℕ → Layout
layout_inside all zero v = no_scopes
layout_inside all (suc n) v = layout_among (layout_inside all n) v all

-- the layout of the blocks below block v, at most n levels deep
abbrev pub layout_below : List BlockToNest → ℕ → ℕ → Layout
layout_below all n v = layout_among (layout_inside all n) v all

-- a scope whose names have the ids n and k, with these operations
abbrev pub unchecked_scope : ℕ → ℕ → BlockToNest → List Op → Op
unchecked_scope n k b os =
    op (record { id = b.id; name = n; operands = []; results = []; properties = []; attributes = (k, b.order) ∷ [] }) (region (block b.args.items (ops_of os)) no_regions)
