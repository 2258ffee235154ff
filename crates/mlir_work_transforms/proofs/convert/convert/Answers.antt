use Rattle.std.proofs.Common.{ap, List, Option, option_map, sym, ◌∙◌}
use Rattle.ir_event.proofs.of_types.Growth.{grows_trans}
use Rattle.mlir_work_script_base.specs.Clauses.{clauses_of, target_of as said_target}
use Rattle.conversion.specs.Converting.{command_aim}
use Rattle.conversion.specs.Targets.{target_model}
use Rattle.conversion.specs.declared.match_failure.MatchFailure.{MatchFailure}
use Rattle.conversion_base.specs.declared.applied_rule.AppliedRule.{AppliedRule}
use Rattle.mlir_work_transforms.proofs.Converted.{refused_converts, refused_does, then_converts, then_does, then_journal, then_led, then_stays, then_reported, unaimed_converts, unaimed_does}
use Rattle.mlir_work_transforms.proofs.convert.convert.Goals as goal

pub returns-in-Err-clause-does : goal.returns-in-Err-clause-does
returns-in-Err-clause-does g c =
    refused_does g.L.Analysis.meaning (command_aim (said_target c.args.full (clauses_of c.args.clauses.now))) c.args.bench.now c.target_of.new.bench c.target_of.ensures.interned c.in-Err.refusal c.led_benches_are_kept.ensures.ages
    c.in-Err.ensures.want (c.target_of.ensures.interned.led c.is_wellformed.ensures.context.holds).1

pub returns-in-Err-clause-converts : goal.returns-in-Err-clause-converts
returns-in-Err-clause-converts g c =
    refused_converts g.L.Analysis.meaning (command_aim (said_target c.args.full (clauses_of c.args.clauses.now))) c.args.bench.now c.target_of.new.bench c.target_of.ensures.interned c.in-Err.refusal c.in-Err.ensures.want

pub returns-in-Err-clause-grows : goal.returns-in-Err-clause-grows
returns-in-Err-clause-grows g c = c.target_of.ensures.interned.grows

pub returns-in-Err-clause-led : goal.returns-in-Err-clause-led
returns-in-Err-clause-led g c = (c.target_of.ensures.interned.led c.is_wellformed.ensures.context.holds).1

pub returns-in_default-clause-does : goal.returns-in_default-clause-does
returns-in_default-clause-does g c =
    unaimed_does g.L.Analysis.meaning (command_aim (said_target c.args.full (clauses_of c.args.clauses.now))) c.args.bench.now c.target_of.new.bench c.target_of.ensures.interned c.led_benches_are_kept.ensures.ages
    (ap (option_map (target_model c.target_of.new.bench.transaction.ctx)) (sym c.in_default.is) ∙ c.in-Ok.ensures.aim) (c.target_of.ensures.interned.led c.is_wellformed.ensures.context.holds).1

pub returns-in_default-clause-converts : goal.returns-in_default-clause-converts
returns-in_default-clause-converts g c =
    unaimed_converts g.L.Analysis.meaning (command_aim (said_target c.args.full (clauses_of c.args.clauses.now))) c.args.bench.now c.target_of.new.bench c.target_of.ensures.interned
    (ap (option_map (target_model c.target_of.new.bench.transaction.ctx)) (sym c.in_default.is) ∙ c.in-Ok.ensures.aim)

pub returns-in_default-clause-grows : goal.returns-in_default-clause-grows
returns-in_default-clause-grows g c = c.target_of.ensures.interned.grows

pub returns-in_default-clause-led : goal.returns-in_default-clause-led
returns-in_default-clause-led g c = (c.target_of.ensures.interned.led c.is_wellformed.ensures.context.holds).1

pub returns-clause-does : goal.returns-clause-does
returns-clause-does g c =
    then_does g.L.Analysis.meaning (command_aim (said_target c.args.full (clauses_of c.args.clauses.now))) c.args.bench.now c.target_of.new.bench c.target_of.ensures.interned c.convert_traced.new.bench _ (ap (option_map (target_model c.target_of.new.bench.transaction.ctx)) (sym c.in-Some.is) ∙ c.in-Ok.ensures.aim) c.convert_traced.result
    c.convert_traced.ensures.does

pub returns-clause-converts : goal.returns-clause-converts
returns-clause-converts g c =
    then_converts g.L.Analysis.meaning (command_aim (said_target c.args.full (clauses_of c.args.clauses.now))) c.args.bench.now c.target_of.new.bench c.target_of.ensures.interned c.convert_traced.new.bench _ (ap (option_map (target_model c.target_of.new.bench.transaction.ctx)) (sym c.in-Some.is) ∙ c.in-Ok.ensures.aim) c.convert_traced.result
    c.convert_traced.ensures.converts

pub returns-clause-grows : goal.returns-clause-grows
returns-clause-grows g c = grows_trans c.args.bench.now.transaction.ctx c.target_of.new.bench.transaction.ctx c.convert_traced.new.bench.transaction.ctx c.target_of.ensures.interned.grows c.convert_traced.ensures.grows

pub returns-clause-led : goal.returns-clause-led
returns-clause-led g c =
    then_led g.L.Analysis.meaning (command_aim (said_target c.args.full (clauses_of c.args.clauses.now))) c.args.bench.now c.target_of.new.bench c.target_of.ensures.interned c.convert_traced.new.bench c.is_wellformed.ensures.context.holds c.convert_traced.ensures.led

pub returns-in-Err-clause-journal : goal.returns-in-Err-clause-journal
returns-in-Err-clause-journal g c = c.target_of.ensures.interned.left

pub returns-in_default-clause-journal : goal.returns-in_default-clause-journal
returns-in_default-clause-journal g c = c.target_of.ensures.interned.left

pub returns-clause-journal : goal.returns-clause-journal
returns-clause-journal g c =
    then_journal g.L.Analysis.meaning (command_aim (said_target c.args.full (clauses_of c.args.clauses.now))) c.args.bench.now c.target_of.new.bench c.target_of.ensures.interned c.convert_traced.result c.convert_traced.new.bench c.convert_traced.ensures.journal

pub returns-in-Err-clause-stays : goal.returns-in-Err-clause-stays
returns-in-Err-clause-stays g c = g.T.Tracer.untouched c.args.tracer.now

pub returns-in_default-clause-stays : goal.returns-in_default-clause-stays
returns-in_default-clause-stays g c = g.T.Tracer.untouched c.args.tracer.now

pub returns-clause-reported : goal.returns-clause-reported
returns-clause-reported g c =
    then_reported g.L.Analysis.meaning (command_aim (said_target c.args.full (clauses_of c.args.clauses.now))) c.args.bench.now c.target_of.new.bench c.target_of.ensures.interned c.convert_traced.new.bench _
    (ap (option_map (target_model c.target_of.new.bench.transaction.ctx)) (sym c.in-Some.is) ∙ c.in-Ok.ensures.aim) c.convert_traced.result (λ (ks : List AppliedRule). g.T.Tracer.reported ks c.args.tracer.now c.convert_traced.new.tracer) c.convert_traced.ensures.reported

pub returns-clause-stays : goal.returns-clause-stays
returns-clause-stays g c =
    then_stays g.L.Analysis.meaning (command_aim (said_target c.args.full (clauses_of c.args.clauses.now))) c.args.bench.now c.target_of.new.bench c.target_of.ensures.interned c.convert_traced.new.bench _
    (ap (option_map (target_model c.target_of.new.bench.transaction.ctx)) (sym c.in-Some.is) ∙ c.in-Ok.ensures.aim) c.convert_traced.result (λ (s : Option MatchFailure). g.T.Tracer.stayed s c.args.tracer.now c.convert_traced.new.tracer) c.convert_traced.ensures.stays
