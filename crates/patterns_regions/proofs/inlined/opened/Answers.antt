use Rattle.std.proofs.Common.{◌∙◌, sym, ap, subst}
use Rattle.patterns_plans.specs.reads.Lists.{AllFit, edits_meaning}
use Rattle.patterns_regions.proofs.Openings.{built, opening_meant, opening_fits}
use Rattle.patterns_regions.proofs.inlined.opened.Goals as goal

pub returns-clause-edits : goal.returns-clause-edits
returns-clause-edits c t =
    ap (edits_meaning t) (built t c.args.op c.args.point.now c.args.ops.now c.args.values.now c.args.handed.now _ _ _ _ _ c.new-edits.ensures.items c.in_ok-replace_arguments.ensures c.in_ok-move_all.ensures c.in_ok-replace_results.ensures c.in_ok-push.ensures.items)
    ∙ opening_meant t c.args.op c.args.point.now c.args.ops.now c.args.values.now c.args.handed.now

pub returns-clause-fits_in : goal.returns-clause-fits_in
returns-clause-fits_in c t =
    subst (AllFit t)
    (sym (built t c.args.op c.args.point.now c.args.ops.now c.args.values.now c.args.handed.now _ _ _ _ _ c.new-edits.ensures.items c.in_ok-replace_arguments.ensures c.in_ok-move_all.ensures c.in_ok-replace_results.ensures c.in_ok-push.ensures.items))
    (opening_fits t c.args.op c.args.point.now c.args.ops.now c.args.values.now c.args.handed.now)
