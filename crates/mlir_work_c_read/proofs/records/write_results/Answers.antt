use Rattle.std.proofs.Common.{◌+◌, ◌-◌, length, take, drop, subst, arith}
use Rattle.mlir_work_c_read.specs.Records.{result_items}
use Rattle.mlir_work_c_read.proofs.Joining.{ContinuesFrom, begins_from, continues_from, ends_from, rest_length}
use Rattle.mlir_work_c_read.proofs.Recording.{results_none, results_step}
use Rattle.mlir_work_c_read.proofs.records.write_results.Goals as goal

pub results-init : goal.results-init
results-init c = (omega arith, begins_from (result_items c.args.all.now 0 c.args.types.now) c.args.at c.args.into.now c.requires.at)

pub of-requires : goal.of-requires
of-requires c =
    let sum = c.results.invariant.0 in
    let some = c.in-len1-up.len_at_least in
    let same = c.requires.uses in
    omega (arith, sum, some, same)

pub write_result-place-requires : goal.write_result-place-requires
write_result-place-requires c =
    let size = c.results.invariant.1.size in
    let inside = c.results.invariant.1.inside in
    omega (arith, size, inside)

pub results-preserved : goal.results-preserved
results-preserved c =
    let xs = c.results.rest.now in
    let left = rest_length xs c.in-len1-up.len_at_least in
    let sum = c.results.invariant.0 in (
      omega (arith, left, sum),
      continues_from _ (result_items c.args.all.now (c.results.index + 1) (take (length xs - 1) (drop 1 xs))) (result_items c.args.all.now c.results.index xs) _ c.args.at c.results.place c.write_result-place.result c.results.into c.write_result-place.new.into c.args.into.now
          (results_step c.args.all.now c.results.index xs c.ty-item.result _ c.of.result c.in-len1-up.len_at_least c.ty-item.is c.of.ensures) c.write_result-place.ensures c.results.invariant.1,
    )

pub returns : goal.returns
returns c =
    ends_from (result_items c.args.all.now 0 c.args.types.now) c.args.at c.results.place c.results.into c.args.into.now
    (subst (λ l. ContinuesFrom l (result_items c.args.all.now 0 c.args.types.now) c.args.at c.results.place c.results.into c.args.into.now) (results_none c.args.all.now c.results.index c.results.rest.now c.in_default.len_below) c.results.invariant.1)
