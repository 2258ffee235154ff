use Rattle.std.proofs.Common.{sym, ◌∙◌}
use Rattle.conversion_base.specs.Rewrites.{rewrite_of}
use Rattle.conversion_base.proofs.Collapsing.{none_there}
use Rattle.patterns.specs.Held.{module_held}
use Rattle.conversion.proofs.VisibleValues.{answered, answered_none, here_or_gone, leads_applied, failure}
use Rattle.conversion.proofs.bench.apply_rule.Goals as goal

pub returns-then-not-in_tree-clause-answers : goal.returns-then-not-in_tree-clause-answers
returns-then-not-in_tree-clause-answers g c =
    let gone = sym (here_or_gone c.world.result.now c.args.bench.now.transaction c.world.ensures.ctx c.world.ensures.store c.args.op c.in_tree.result c.in_tree.ensures) ∙ c.if-not-in_tree.true in
    answered_none (rewrite_of c.args.rule (module_held c.args.bench.now.transaction) c.args.op) c.args.bench.now (none_there c.args.rule (module_held c.args.bench.now.transaction) c.args.op gone)

pub returns-then-not-in_tree-clause-leads : goal.returns-then-not-in_tree-clause-leads
returns-then-not-in_tree-clause-leads g c = failure g.L.Analysis.meaning c.args.bench.now

pub returns-clause-answers : goal.returns-clause-answers
returns-clause-answers g c =
    let here = sym (here_or_gone c.world.result.now c.args.bench.now.transaction c.world.ensures.ctx c.world.ensures.store c.args.op c.in_tree.result c.in_tree.ensures) ∙ c.if-not-in_tree.false in
    answered (rewrite_of c.args.rule (module_held c.args.bench.now.transaction) c.args.op) c.args.op c.args.bench.now c.apply-applied.new.bench c.apply-applied.result here c.apply-applied.ensures.ok c.apply-applied.ensures.err c.apply-applied.ensures.refused

pub returns-clause-leads : goal.returns-clause-leads
returns-clause-leads g c = leads_applied g.L.Analysis.meaning c.apply-applied.result c.args.bench.now c.apply-applied.new.bench c.is_wellformed.ensures.context.holds c.apply-applied.ensures.stays c.apply-applied.ensures.journal
