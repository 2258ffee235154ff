use Rattle.std.proofs.Common.{◌≡◌, map, drop}
use Rattle.std.specs.List.{list_all}
use Rattle.ir_event.specs.types.Terms.{type_term}
use Rattle.ir_event.specs.trees.Tree.{regions_of}
use Rattle.ir_event.specs.trees.Limits.{all_arguments_pass}
use Rattle.ir_event.specs.trees.View.{region_view}
use Rattle.mlir_work_transforms.specs.Unproved.{is_narrow_type}
use Rattle.mlir_work_transforms.proofs.narrow.arguments_are_narrow.Given as goal

abbrev pub invariant-loop-region : goal.invariant-loop-region
invariant-loop-region l =
    all_arguments_pass (list_all (λ ty. is_narrow_type l.most (type_term l.ctx ty))) (regions_of (map region_view l.region-items))
    ≡ all_arguments_pass (list_all (λ ty. is_narrow_type l.most (type_term l.ctx ty))) (regions_of (map region_view (drop l.region-index l.region-items)))
