-- A function with a loop, flat and nested, and nested trees that break the form.
use Rattle.std.specs.Prelude.{ℕ, pos, List, [], ◌∷◌, codes, map, false}
use Rattle.ir_tree.specs.declared.value.Value.{Value}
use Rattle.ir_tree.specs.declared.value.Value.TheVariants.{Result, Arg}
use Rattle.ir_tree.specs.types.declared.node.Sign.TheVariants.{Signless}
use Rattle.ir_tree.specs.types.Terms.{TypeTerm, Integer, AttrTerm, IntegerOf, DenseArray}
use Rattle.ir_tree.specs.Tree.{op, no_regions, region, block, no_ops, next}
use Rattle.ir_tree.specs.Meaning.{Operation}
use Rattle.ir_tree_blocks.specs.Flat.{Head, FlatOp, flat_op, no_flat_regions, flat_region, flat_blocks, no_blocks, next_block, no_flat_ops, next_op}
use Rattle.ir_tree_blocks.specs.Scopes.{i32}
use Rattle.ir_tree_blocks.specs.Nesting.{Ops, Layout, no_scopes, scope}

abbrev pub i1 : TypeTerm
i1 = Integer Signless 1

-- the head of an operation without properties
abbrev pub plain_head : ℕ → List ℕ → List Value → List TypeTerm → List (List ℕ × AttrTerm) → Head
plain_head x name operands results attributes = record { id = x; name = name; operands = operands; results = results; properties = []; attributes = attributes }

-- the operations of the function: the first value of the counter, the jump to the loop, the loop's test and its branch, and
-- the return; the argument of the loop's block is the counter
abbrev pub func : Head
func = plain_head 1 (codes "func.func") [] [] []

abbrev pub constant : Head
constant = plain_head 2 (codes "arith.constant") [] (i32 ∷ []) []

abbrev pub jump : List (List ℕ × AttrTerm) → Head
jump attributes = plain_head 3 (codes "cf.br") (Result 2 0 ∷ []) [] attributes

abbrev pub test : Head
test = plain_head 5 (codes "arith.cmpi") (Arg 4 0 0 ∷ Arg 1 0 0 ∷ []) (i1 ∷ []) []

abbrev pub branch : List (List ℕ × AttrTerm) → Head
branch attributes = plain_head 6 (codes "cf.cond_br") (Result 5 0 ∷ Arg 4 0 0 ∷ []) [] attributes

abbrev pub return_op : Head
return_op = plain_head 8 (codes "func.return") (Arg 4 0 0 ∷ []) [] []

abbrev pub leaf : Head → FlatOp
leaf h = flat_op h [] no_flat_regions

-- the flat tree: the loop is block 2, which comes after block 1, where the function returns
abbrev pub flat_loop : FlatOp
flat_loop =
    flat_op func [] (flat_region (flat_blocks (i32 ∷ [])
    (next_op (leaf constant) (next_op (flat_op (jump []) (2 ∷ []) no_flat_regions) no_flat_ops))
    (next_block 7 1 [] (next_op (leaf return_op) no_flat_ops)
    (next_block 4 2 (i32 ∷ []) (next_op (leaf test) (next_op (flat_op (branch []) (2 ∷ 1 ∷ []) no_flat_regions) no_flat_ops))
    no_blocks))) no_flat_regions)

-- block 2 is below the entry, and block 1 below block 2
abbrev pub loop_layout : ℕ → ℕ → Layout
loop_layout x r = scope 2 false (scope 1 false no_scopes no_scopes) no_scopes

-- the attribute for successors, and the one for the label of a scope
abbrev pub targets : List ℕ → List (List ℕ × AttrTerm)
targets ls = (codes "cf.successors", DenseArray i32 (map pos ls)) ∷ []

abbrev pub labelled : ℕ → List (List ℕ × AttrTerm)
labelled l = (codes "order", IntegerOf i32 l) ∷ []

abbrev pub single : Head → Operation
single h = op h no_regions

abbrev pub scope_with : ℕ → List (List ℕ × AttrTerm) → List TypeTerm → Ops → Operation
scope_with x attributes args os = op (plain_head x (codes "cf.block") [] [] attributes) (region (block args os) no_regions)

-- the nested tree, with these successors of the jump, and this after the branch
abbrev pub loop_with : List ℕ → Ops → Operation
loop_with ls tail =
    op func (region (block (i32 ∷ []) (next (single constant) (next (single (jump (targets ls)))
    (next (scope_with 4 (labelled 2) (i32 ∷ []) (next (single test) (next (single (branch (targets (2 ∷ 1 ∷ [])))) tail))) no_ops)))) no_regions)

-- the scope of block 1
abbrev pub last_scope : List (List ℕ × AttrTerm) → Operation
last_scope attributes = scope_with 7 attributes [] (next (single return_op) no_ops)

abbrev pub nested_loop : Operation
nested_loop = loop_with (2 ∷ []) (next (last_scope (labelled 1)) no_ops)

-- block 1 is missing; it has no label; it has the label of the loop
abbrev pub without_block : Operation
without_block = loop_with (2 ∷ []) no_ops

abbrev pub without_label : Operation
without_label = loop_with (2 ∷ []) (next (last_scope []) no_ops)

abbrev pub with_label_twice : Operation
with_label_twice = loop_with (2 ∷ []) (next (last_scope (labelled 2)) no_ops)

-- the entry jumps to block 1, which is inside the loop
abbrev pub out_of_sight : Operation
out_of_sight = loop_with (1 ∷ []) (next (last_scope (labelled 1)) no_ops)

-- an operation is after a scope; it is after the branch
abbrev pub after_scope : Operation
after_scope = loop_with (2 ∷ []) (next (last_scope (labelled 1)) (next (single constant) no_ops))

abbrev pub after_branch : Operation
after_branch = loop_with (2 ∷ []) (next (single constant) (next (last_scope (labelled 1)) no_ops))
