use Rattle.std.proofs.Common.{ap, inl, refl, sym, ◌∙◌}
use Rattle.conversion_base.specs.Lists.{edits_meaning}
use Rattle.conversion_base.specs.Rewrites.{carried_out}
use Rattle.patterns.specs.Applied.{limit_reason}
use Rattle.patterns.specs.Held.{module_held}
use Rattle.patterns.proofs.Carrying.{limited, unlimited}
use Rattle.conversion.proofs.VisibleValues.{leads_along, made_so, refused_so, same_module, failure, wanted}
use Rattle.conversion.proofs.bench.carry.Goals as goal

pub returns-in-Some-clause-answers : goal.returns-in-Some-clause-answers
returns-in-Some-clause-answers g c =
    let due = sym (ap (limit_reason 1) (same_module c.world.result.now c.args.bench.now.transaction c.world.ensures.ctx c.world.ensures.store)) ∙ sym c.limit_reason.ensures ∙ c.in-Some.is in
    refused_so (carried_out (edits_meaning c.args.bench.now.transaction.ctx c.args.edits.now) (module_held c.args.bench.now.transaction)) c.in-Some.refusal c.args.bench.now (limited (edits_meaning c.args.bench.now.transaction.ctx c.args.edits.now) (module_held c.args.bench.now.transaction) 1 c.in-Some.refusal c.requires.one due)

pub returns-in-Some-clause-leads : goal.returns-in-Some-clause-leads
returns-in-Some-clause-leads g c = failure g.L.Analysis.meaning c.args.bench.now

pub returns-in-Ok-clause-answers : goal.returns-in-Ok-clause-answers
returns-in-Ok-clause-answers g c =
    let due = sym (ap (limit_reason 1) (same_module c.world.result.now c.args.bench.now.transaction c.world.ensures.ctx c.world.ensures.store)) ∙ sym c.limit_reason.ensures ∙ c.in_default.is in
    made_so (carried_out (edits_meaning c.args.bench.now.transaction.ctx c.args.edits.now) (module_held c.args.bench.now.transaction)) c.args.bench.now c.apply_edits-carried.new.bench (unlimited (edits_meaning c.args.bench.now.transaction.ctx c.args.edits.now) (module_held c.args.bench.now.transaction) 1 c.requires.one due) c.in-Ok.ensures.ok

pub returns-in-Ok-clause-leads : goal.returns-in-Ok-clause-leads
returns-in-Ok-clause-leads g c = leads_along g.L.Analysis.meaning c.apply_edits-carried.result c.args.bench.now c.apply_edits-carried.new.bench c.is_wellformed.ensures.context.holds c.apply_edits-carried.ensures.along c.apply_edits-carried.ensures.journal

pub returns-in-Err-clause-answers : goal.returns-in-Err-clause-answers
returns-in-Err-clause-answers g c = (wanted (carried_out (edits_meaning c.args.bench.now.transaction.ctx c.args.edits.now) (module_held c.args.bench.now.transaction)) c.apply_edits-carried.new.bench.transaction.ctx _ (inl refl), c.in-Err.ensures.err)

pub returns-in-Err-clause-leads : goal.returns-in-Err-clause-leads
returns-in-Err-clause-leads g c = leads_along g.L.Analysis.meaning c.apply_edits-carried.result c.args.bench.now c.apply_edits-carried.new.bench c.is_wellformed.ensures.context.holds c.apply_edits-carried.ensures.along c.apply_edits-carried.ensures.journal
