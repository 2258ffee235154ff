use Rattle.std.proofs.Common.{◌≡◌, ◌++◌, map, drop}
use Rattle.ir_tree.specs.Tree.{regions_of, ops_of, region_list, op_list}
use Rattle.ir_tree.specs.Edited.{regions_edited, ops_edited}
use Rattle.ir_tree.specs.View.{region_view}
use Rattle.ir_tree.proofs.edits.+edit.Given as goal

abbrev pub invariant-edited_regions-loop-number : goal.invariant-edited_regions-loop-number
invariant-edited_regions-loop-number g l =
    map region_view l.copies.items ++ region_list (regions_edited (g.H.HeadEdit.gives l.heads) (g.L.ListEdit.gives l.lists) l.owner l.number (regions_of (map region_view (drop l.number l.region-items))))
    ≡ region_list (regions_edited (g.H.HeadEdit.gives l.heads) (g.L.ListEdit.gives l.lists) l.owner 0 (regions_of (map region_view l.region-items)))

abbrev pub invariant-edited_region-loop-op : goal.invariant-edited_region-loop-op
invariant-edited_region-loop-op g l =
    l.copies.items ++ op_list (ops_edited (g.H.HeadEdit.gives l.heads) (g.L.ListEdit.gives l.lists) (ops_of (drop l.op-index l.op-items)))
    ≡ op_list (ops_edited (g.H.HeadEdit.gives l.heads) (g.L.ListEdit.gives l.lists) (ops_of l.op-items))
