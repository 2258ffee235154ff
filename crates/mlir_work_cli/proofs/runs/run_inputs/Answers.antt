use Rattle.std.proofs.Common.{inl, map, subst}
use Rattle.mlir_work_cli.proofs.FileLists.{RunWith, all_run, next_status, none_at, rest_at}
use Rattle.mlir_work_cli.proofs.runs.run_inputs.Goals as goal

pub inputs-preserved : goal.inputs-preserved
inputs-preserved g c =
    let all = map (λ i. i.items) c.args.inputs.now in
    let ends = subst (λ text. g.R.Runs.ends text c.in_ok-status.status) c.deref.ensures.value c.in_ok-status.ensures.ended in
    rw c.worse-worst.ensures
    (next_status g.R.Runs.ends all _ c.input-item.result.items c.inputs.worst c.in_ok-status.status
    (subst (λ rest. RunWith g.R.Runs.ends all (map (λ i. i.items) rest) c.inputs.worst) (rest_at c.inputs.rest.now c.input-item.result c.in-len1-up.len_at_least c.input-item.is) c.inputs.invariant)
    ends)

pub returns : goal.returns
returns g c =
    let all = map (λ i. i.items) c.args.inputs.now in
    inl (all_run g.R.Runs.ends all c.inputs.worst
    (subst (λ rest. RunWith g.R.Runs.ends all (map (λ i. i.items) rest) c.inputs.worst) (none_at c.inputs.rest.now c.in_default.len_below) c.inputs.invariant))
