use Rattle.std.proofs.Common.{◌≡◌, ◌++◌, map, take, drop}
use Rattle.ir_tree.specs.Edits.{put_value}
use Rattle.ir_tree.proofs.tree_edits.replace_in.Given as goal

abbrev pub invariant-loop-value : goal.invariant-loop-value
invariant-loop-value l = take l.value-index l.value-items ++ map (put_value l.old l.new) (drop l.value-index l.value-items) ≡ map (put_value l.old l.new) l.initial.value-items
