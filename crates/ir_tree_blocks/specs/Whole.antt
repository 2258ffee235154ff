-- The five conditions on nested trees.
use Rattle.std.specs.Prelude.{◌≡◌, ℕ, List, codes, Bool, true, false, ◌&&◌, ◌||◌, not}
use Rattle.std.specs.Str.{bytes_eq}
use Rattle.ir_tree.specs.Tree.{empty, block, no_ops, next, head, regions}
use Rattle.ir_tree.specs.Limits.{every}
use Rattle.ir_tree.specs.Meaning.{Operation}
use Rattle.ir_tree_blocks.specs.Flat.{Head}
use Rattle.ir_tree_blocks.specs.Scopes.{is_scope, successors_of}
use Rattle.ir_tree_blocks.specs.Nesting.{Ops, Region}
use Rattle.ir_tree_blocks.specs.Form.{IsInForm, all_lists, all_regions, ends_in_scopes, is_lexical, is_nil, is_shaped, labels_differ, only_last_names}

-- whether the regions of operations with a name may have one block only
unfoldable pub has_single_blocks : List ℕ → Bool
has_single_blocks name =
    bytes_eq name (codes "builtin.module") || (bytes_eq name (codes "scf.for") || (bytes_eq name (codes "scf.if") || bytes_eq name (codes "scf.while")))

-- whether a list has no scope
abbrev pub has_no_scope : Ops → Bool
has_no_scope no_ops = true
has_no_scope (next o os) = not (is_scope (head o)) && has_no_scope os

-- whether no scope is right in a region of an operation whose regions may have one block only
abbrev pub keeps_single_blocks : Operation → Bool
keeps_single_blocks o = not (has_single_blocks (head o).name) || all_lists has_no_scope (regions o)

-- the five conditions: F1 to F4, and F5: no scope is right in a region that may have one block only
pub record IsNested (t : Operation) : Type 0 where
  pub form : IsInForm t
  pub single_blocks : every keeps_single_blocks t ≡ true

-- whether a region has a block
abbrev pub is_block : Region → Bool
is_block empty = false
is_block (block args os) = true

-- whether the operations of the block of a region, if it has one, pass a test
abbrev pub list_passes : (Ops → Bool) → Region → Bool
list_passes p empty = true
list_passes p (block args os) = p os

-- F2 and F3 for the operations of one block
abbrev pub is_ordered : Ops → Bool
is_ordered os = ends_in_scopes os && only_last_names os

-- whether an operation is no scope and has successors
abbrev pub names_blocks : Head → Bool
names_blocks h = not (is_scope h) && not (is_nil (successors_of h))

-- the conditions on one operation that need no labels of other operations
abbrev pub is_formed : Operation → Bool
is_formed o = is_shaped o && (all_lists is_ordered (regions o) && keeps_single_blocks o)

-- the conditions on the labels of a region
abbrev pub has_good_labels : Region → Bool
has_good_labels g = labels_differ g && is_lexical g

-- whether an operation is a scope, or the labels of each of its regions are good
abbrev pub has_good_regions : Operation → Bool
has_good_regions o = is_scope (head o) || all_regions has_good_labels (regions o)

-- the conditions as tests: of the shape of operations, and of labels
abbrev pub is_each_formed : Operation → Bool
is_each_formed t = not (is_scope (head t)) && every is_formed t

abbrev pub is_nested : Operation → Bool
is_nested t = is_each_formed t && every has_good_regions t
