use Rattle.std.proofs.Common.{refl, ◌∙◌, inl}
use Rattle.patterns_lowering.specs.Held.{module_held}
use Rattle.patterns_lowering.specs.Lists.{edits_meaning}
use Rattle.patterns.specs.Making.{listed_edits}
use Rattle.patterns.specs.Planned.{planned_edits}
use Rattle.patterns.proofs.Carrying.{applied_none, applied_added, applied_along, journaled_along, kept_added, due_free, kept_along, no_headroom, wanting, was_carried, was_limited}
use Rattle.patterns_lowering.proofs.Journals.{recorded_none}
use Rattle.patterns.proofs.apply_plan.apply_plan.Goals as goal

pub returns-in-Some-clause-carried : goal.returns-in-Some-clause-carried
returns-in-Some-clause-carried g c =
    (refl, was_limited c.world-world.result.now c.args.bench.now.transaction c.world-world.ensures.ctx c.world-world.ensures.store c.args.op c.args.planned c.requires.of c.made_makes.result c.in-Some.refusal c.limit_reason.result c.made_makes.ensures c.limit_reason.ensures c.in-Some.is)

pub returns-in-Some-clause-stays : goal.returns-in-Some-clause-stays
returns-in-Some-clause-stays g c = applied_none g.L.Analysis.meaning c.args.bench.now

pub returns-in-Err-clause-carried : goal.returns-in-Err-clause-carried
returns-in-Err-clause-carried g c = (c.in-Err.ensures.added.grown.same, no_headroom (planned_edits c.args.bench.now.transaction.ctx (module_held c.args.bench.now.transaction).next c.args.op c.args.planned) (module_held c.args.bench.now.transaction) c.edits_for.new.bench.transaction.ctx c.in-Err.refusal c.in-Err.ensures.refused)

pub returns-in-Err-clause-stays : goal.returns-in-Err-clause-stays
returns-in-Err-clause-stays g c = applied_added g.L.Analysis.meaning c.args.bench.now c.edits_for.new.bench c.in-Err.ensures.added

pub returns-in-Ok-apply_listed-clause-carried : goal.returns-in-Ok-apply_listed-clause-carried
returns-in-Ok-apply_listed-clause-carried g c =
    was_carried c.world-world.result.now c.args.bench.now.transaction c.world-world.ensures.ctx c.world-world.ensures.store c.args.op c.args.planned c.requires.of c.made_makes.result c.limit_reason.result c.made_makes.ensures c.limit_reason.ensures c.in_default.is
    c.new.result (c.new.ensures ∙ c.next_id.ensures) c.edits_for.new.bench.transaction c.apply_listed.new.bench.transaction (edits_meaning c.edits_for.new.bench.transaction.ctx (listed_edits (record { point = c.args.planned.point; next = c.new.result; op = c.args.op }) c.in-Ok.edits))
    c.in-Ok.ensures.added.grown.same c.in-Ok.ensures.stands.meaning
    c.in-Ok-apply_listed.ensures.ok

pub returns-in-Ok-apply_listed-clause-stays : goal.returns-in-Ok-apply_listed-clause-stays
returns-in-Ok-apply_listed-clause-stays g c = applied_along g.L.Analysis.meaning c.args.bench.now c.edits_for.new.bench c.apply_listed.new.bench c.is_wellformed.ensures.context.holds c.in-Ok.ensures.added c.in-Ok-apply_listed.ensures.along

pub returns-in-Err-apply_listed-clause-stays : goal.returns-in-Err-apply_listed-clause-stays
returns-in-Err-apply_listed-clause-stays g c = applied_along g.L.Analysis.meaning c.args.bench.now c.edits_for.new.bench c.apply_listed.new.bench c.is_wellformed.ensures.context.holds c.in-Ok.ensures.added c.in-Err-apply_listed.ensures.along

pub returns-in-Err-apply_listed-clause-carried : goal.returns-in-Err-apply_listed-clause-carried
returns-in-Err-apply_listed-clause-carried g c =
    let why = c.in-Err-apply_listed.ensures.refused in (
      c.in-Err-apply_listed.ensures.err ∙ c.in-Ok.ensures.added.grown.same,
      inl (wanting c.world-world.result.now c.args.bench.now.transaction c.world-world.ensures.ctx c.world-world.ensures.store c.args.op c.args.planned c.requires.of c.made_makes.result c.limit_reason.result c.made_makes.ensures c.limit_reason.ensures c.in_default.is
          c.new.result (c.new.ensures ∙ c.next_id.ensures) c.requires.free c.edits_for.new.bench.transaction (edits_meaning c.edits_for.new.bench.transaction.ctx (listed_edits (record { point = c.args.planned.point; next = c.new.result; op = c.args.op }) c.in-Ok.edits)) c.in-Err-apply_listed.refusal
          c.in-Ok.ensures.added.grown.same c.in-Ok.ensures.stands.meaning why),
    )

pub returns-in-Ok-apply_listed-clause-journal : goal.returns-in-Ok-apply_listed-clause-journal
returns-in-Ok-apply_listed-clause-journal g c = journaled_along g.L.Analysis.meaning c.args.bench.now c.edits_for.new.bench c.apply_listed.new.bench c.is_wellformed.ensures.context.holds c.in-Ok.ensures.added c.in-Ok-apply_listed.ensures.journal

pub returns-in-Some-clause-journal : goal.returns-in-Some-clause-journal
returns-in-Some-clause-journal g c = recorded_none c.args.bench.now.transaction

pub returns-in-Err-clause-journal : goal.returns-in-Err-clause-journal
returns-in-Err-clause-journal g c = kept_added g.L.Analysis.meaning c.args.bench.now c.edits_for.new.bench c.in-Err.ensures.added

pub returns-in-Err-apply_listed-clause-journal : goal.returns-in-Err-apply_listed-clause-journal
returns-in-Err-apply_listed-clause-journal g c = kept_along g.L.Analysis.meaning c.args.bench.now c.edits_for.new.bench c.apply_listed.new.bench c.in-Ok.ensures.added c.in-Err-apply_listed.ensures.journal

pub made_makes-requires : goal.made_makes-requires
made_makes-requires g c = (c.args.bench.now.transaction.ctx, c.requires.of)

pub apply_listed-requires : goal.apply_listed-requires
apply_listed-requires g c =
    record {
      fits_in = c.in-Ok.ensures.stands.fits_in;
      free =
          due_free c.world-world.result.now c.args.bench.now.transaction c.world-world.ensures.ctx c.world-world.ensures.store c.args.op c.args.planned c.requires.of c.made_makes.result c.limit_reason.result c.made_makes.ensures c.limit_reason.ensures c.in_default.is
          c.new.result (c.new.ensures ∙ c.next_id.ensures) c.requires.free c.edits_for.new.bench.transaction (edits_meaning c.edits_for.new.bench.transaction.ctx (listed_edits (record { point = c.args.planned.point; next = c.new.result; op = c.args.op }) c.in-Ok.edits)) c.in-Ok.ensures.added.grown.same c.in-Ok.ensures.stands.meaning;
    }
