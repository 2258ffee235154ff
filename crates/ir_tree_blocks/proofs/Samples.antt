-- The samples, by computation.
use Rattle.std.proofs.Common.{◌≡◌, refl, false}
use Rattle.ir_tree.specs.Limits.{every}
use Rattle.ir_tree_blocks.specs.Scopes.{is_scope, order_of, number_in, numbers_in, is_unreachable, successors_in, attributes_with, other_attributes, scope_head}
use Rattle.ir_tree_blocks.specs.Nesting.{nest}
use Rattle.ir_tree_blocks.specs.Flattening.{flatten}
use Rattle.ir_tree_blocks.specs.Form.{is_shaped, each_region, each_block, labels_differ, is_lexical, ends_in_scopes, only_last_names, IsInForm}
use Rattle.ir_tree_blocks.specs.Samples.{flat_loop, loop_layout, nested_loop, without_block, without_label, with_label_twice, out_of_sight, after_scope, after_branch}

pub loop_nested : nest loop_layout flat_loop ≡ nested_loop
unfolding attributes_with scope_head
loop_nested = refl

pub loop_flat : flatten nested_loop ≡ flat_loop
unfolding is_scope order_of number_in numbers_in successors_in other_attributes
loop_flat = refl

pub loop_in_form : IsInForm nested_loop
unfolding is_scope order_of number_in numbers_in is_unreachable successors_in
loop_in_form = record { scopes = record { root = refl; shaped = refl; labels = refl }; scopes_last = refl; terminators = refl; lexical = refl }

pub block_missing : each_region is_lexical without_block ≡ false
unfolding is_scope order_of number_in numbers_in is_unreachable successors_in
block_missing = refl

pub label_missing : every is_shaped without_label ≡ false
unfolding is_scope order_of number_in
label_missing = refl

pub label_twice : each_region labels_differ with_label_twice ≡ false
unfolding is_scope order_of number_in numbers_in is_unreachable successors_in
label_twice = refl

pub label_hidden : each_region is_lexical out_of_sight ≡ false
unfolding is_scope order_of number_in numbers_in is_unreachable successors_in
label_hidden = refl

pub scope_first : each_block ends_in_scopes after_scope ≡ false
unfolding is_scope
scope_first = refl

pub branch_first : each_block only_last_names after_branch ≡ false
unfolding is_scope numbers_in successors_in
branch_first = refl
