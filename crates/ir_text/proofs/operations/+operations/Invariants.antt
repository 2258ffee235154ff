use Rattle.std.proofs.Common.{◌≡◌, drop, map}
use Rattle.std.specs.Prelude.{IsTrue}
use Rattle.std.specs.List.{list_all}
use Rattle.ir_tree.specs.Tree.{regions_of, ops_of}
use Rattle.ir_tree.specs.Limits.{regions_every, ops_every}
use Rattle.ir_tree.specs.View.{region_view}
use Rattle.ir_tree.specs.Limits.{all_arguments_pass}
use Rattle.ir_tree.specs.Passing.{op_passes}
use Rattle.ir_tree.specs.Meaning.{is_name, is_type, is_attr}
use Rattle.ir_text.specs.Printing.{print_regions, print_ops}
use Rattle.ir_text.specs.View.{printed_in, regions_in, ops_in}
use Rattle.ir_text.proofs.operations.+operations.Given as goal

abbrev pub invariant-print_op-regions : goal.invariant-print_op-regions
invariant-print_op-regions l = record {
  text : print_regions l.margin l.op-inside.id l.place (regions_in l.ctx (drop l.place l.op-inside.regions.items)) (printed_in l.ctx l.out) ≡ print_regions l.margin l.op-inside.id 0 (regions_in l.ctx l.op-inside.regions.items) (printed_in l.ctx l.initial.out);
  arguments : IsTrue (all_arguments_pass (list_all (is_type l.ctx)) (regions_of (map region_view (drop l.place l.op-inside.regions.items))));
  inside : IsTrue (regions_every (op_passes (is_name l.ctx) (is_type l.ctx) (is_attr l.ctx)) (regions_of (map region_view (drop l.place l.op-inside.regions.items))));
}

abbrev pub invariant-write_region-ops : goal.invariant-write_region-ops
invariant-write_region-ops l = record {
  text : print_ops l.blanks.items (ops_in l.ctx (drop l.op-index l.op-items)) (printed_in l.ctx l.out) ≡ print_ops l.blanks.items (ops_in l.ctx l.op-items) (printed_in l.ctx l.initial.out);
  inside : IsTrue (ops_every (op_passes (is_name l.ctx) (is_type l.ctx) (is_attr l.ctx)) (ops_of (drop l.op-index l.op-items)));
}
