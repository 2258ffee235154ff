use Rattle.std.proofs.Common.{List, subst}
use Rattle.patterns.proofs.Adding.{added_on}
use Rattle.user_patterns_apply.specs.declared.rewrite_plan.NewOp.{NewOp}
use Rattle.user_patterns_apply.proofs.Additions.{from_item}
use Rattle.user_patterns_apply.proofs.Makings.{Making, making_more, making_none}
use Rattle.user_patterns_apply.proofs.edits.all_makings.Goals as goal

pub made-init : goal.made-init
made-init g c = making_none g.L.Analysis.meaning c.args.next c.args.point.now c.args.made.now c.args.bench.now c.is_wellformed.ensures.context.holds c.requires.of _ c.new-edits.ensures.items

pub returns-in-Err-clause-added : goal.returns-in-Err-clause-added
returns-in-Err-clause-added g c = added_on g.L.Analysis.meaning c.args.bench.now c.made.bench c.push_making.new.bench c.made.invariant.holds c.made.invariant.added c.in-Err.ensures.added

pub made-preserved : goal.made-preserved
made-preserved g c =
    let split = from_item c.made.rest.now c.first-item.result _ c.in-len1-up.len_at_least c.first-item.is in
    making_more g.L.Analysis.meaning c.args.next c.args.point.now c.args.made.now c.args.bench.now c.first-item.result _ c.made.bench c.push_making.new.bench c.made.edits.items c.push_making.new.edits.items
    (subst (λ (z : List NewOp). Making g.L.Analysis.meaning c.args.next c.args.point.now c.args.made.now c.args.bench.now z c.made.bench c.made.edits.items) split c.made.invariant)
    c.is_wellformed-in-len1-up.ensures.context.holds c.in_default-push_making.ensures.added c.in_default-push_making.ensures.fits_in c.in_default-push_making.ensures.meaning
