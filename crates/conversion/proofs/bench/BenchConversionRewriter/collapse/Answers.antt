use Rattle.std.proofs.Common.{subst, sym}
use Rattle.ir_event.specs.Modules.{module_in}
use Rattle.conversion_base.specs.Rewrites.{Rewrite}
use Rattle.conversion_base.specs.Reconciling.{collapse}
use Rattle.conversion_base.proofs.Collapsing.{collapse_erased, collapse_none, collapse_rule}
use Rattle.patterns.specs.Held.{module_held}
use Rattle.conversion.specs.Benches.{seen}
use Rattle.conversion.specs.States.{Answers}
use Rattle.conversion.proofs.VisibleValues.{answered_none, same_module, failure}
use Rattle.conversion.proofs.bench.BenchConversionRewriter.collapse.Goals as goal

pub returns-then-not-is_inner_cast-clause-answers : goal.returns-then-not-is_inner_cast-clause-answers
returns-then-not-is_inner_cast-clause-answers g c =
    answered_none (collapse (module_held c.args.self.now.transaction) c.args.op) c.args.self.now
    (collapse_none (module_in c.world-world.result.now) (module_held c.args.self.now.transaction) (same_module c.world-world.result.now c.args.self.now.transaction c.world-world.ensures.ctx c.world-world.ensures.store) c.args.op c.is_inner_cast.result c.is_inner_cast.ensures c.if-not-is_inner_cast.true)

pub returns-then-not-is_inner_cast-clause-leads : goal.returns-then-not-is_inner_cast-clause-leads
returns-then-not-is_inner_cast-clause-leads g c = failure g.L.Analysis.meaning c.args.self.now

pub returns-then-is_unused-clause-answers : goal.returns-then-is_unused-clause-answers
returns-then-is_unused-clause-answers g c =
    subst (λ (w : Rewrite). Answers w c.erase.result (seen c.args.self.now) (seen c.erase.new.bench))
    (sym (collapse_erased (module_in c.world-world.result.now) (module_held c.args.self.now.transaction) (same_module c.world-world.result.now c.args.self.now.transaction c.world-world.ensures.ctx c.world-world.ensures.store) c.args.op c.is_inner_cast.result c.is_inner_cast.ensures c.if-not-is_inner_cast.false c.is_unused.result c.is_unused.ensures c.if-is_unused.true)) c.erase.ensures.answers

pub returns-then-is_unused-clause-leads : goal.returns-then-is_unused-clause-leads
returns-then-is_unused-clause-leads g c = c.erase.ensures.leads

pub returns-clause-answers : goal.returns-clause-answers
returns-clause-answers g c =
    subst (λ (w : Rewrite). Answers w c.apply_rule.result (seen c.args.self.now) (seen c.apply_rule.new.bench))
    (sym (collapse_rule (module_in c.world-world.result.now) (module_held c.args.self.now.transaction) (same_module c.world-world.result.now c.args.self.now.transaction c.world-world.ensures.ctx c.world-world.ensures.store) c.args.op c.is_inner_cast.result c.is_inner_cast.ensures c.if-not-is_inner_cast.false c.is_unused.result c.is_unused.ensures c.if-is_unused.false)) c.apply_rule.ensures.answers

pub returns-clause-leads : goal.returns-clause-leads
returns-clause-leads g c = c.apply_rule.ensures.leads
