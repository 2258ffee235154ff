use Rattle.std.proofs.Common.{ap, subst, ℕ, Ok}
use Rattle.conversion_base.specs.Legalization.{legalization_of, standing}
use Rattle.conversion_base.specs.Targets.{TargetOf, target_model}
use Rattle.conversion.specs.States.{Comes}
use Rattle.conversion_base.proofs.Makes.{rules_make}
use Rattle.conversion.specs.MatchFailures.{last_rule, match_failure_by}
use Rattle.conversion.proofs.Rising.{few_reported, rises_legalization}
use Rattle.conversion.proofs.Stops.{failed_at, failed_stays}
use Rattle.conversion.proofs.parts.legalise_at.Goals as goal

pub returns-then-legalization-clause-few : goal.returns-then-legalization-clause-few
returns-then-legalization-clause-few g c =
    let state = g.B.ConversionRewriter.state in
    let start = state c.args.bench.now in
    let a = target_model start.things c.args.target.now in
    few_reported (legalization_of a c.target.inside.depth) (rises_legalization rules_make a c.requires.aim.rules c.target.inside.depth)
    start.held c.args.op c.in-Ok.legalization (state c.legalise.new.bench).held c.in-Ok.ensures.comes c.if-legalization.true

pub returns-else-legalization-clause-ends : goal.returns-else-legalization-clause-ends
returns-else-legalization-clause-ends g c =
    let state = g.B.ConversionRewriter.state in
    let start = state c.args.bench.now in
    let here = state c.legalise.new.bench in
    let o = standing (legalization_of (target_model start.things c.args.target.now) c.args.target.now.depth) start.held c.args.op in
    let comes = subst (λ (n : ℕ). Comes (standing (legalization_of (target_model start.things c.args.target.now) n) start.held c.args.op) (Ok c.in-Ok.legalization) start here) (ap (λ (t : TargetOf ℕ). t.depth) c.target.view_is) c.in-Ok.ensures.comes in
    failed_at c.args.op o c.in-Ok.legalization start here (match_failure_by (last_rule c.args.target.now.rules) here.held c.args.op) c.unlegalized_error.result comes c.if-legalization.false c.unlegalized_error.ensures

pub returns-else-legalization-clause-stays : goal.returns-else-legalization-clause-stays
returns-else-legalization-clause-stays g c next =
    let state = g.B.ConversionRewriter.state in
    let start = state c.args.bench.now in
    let here = state c.legalise.new.bench in
    let o = standing (legalization_of (target_model start.things c.args.target.now) c.args.target.now.depth) start.held c.args.op in
    let comes = subst (λ (n : ℕ). Comes (standing (legalization_of (target_model start.things c.args.target.now) n) start.held c.args.op) (Ok c.in-Ok.legalization) start here) (ap (λ (t : TargetOf ℕ). t.depth) c.target.view_is) c.in-Ok.ensures.comes in
    failed_stays next (λ m. match_failure_by (last_rule c.args.target.now.rules) m c.args.op) c.args.op o c.in-Ok.legalization start here c.unlegalized_error.result comes c.if-legalization.false c.unlegalized_error.ensures
