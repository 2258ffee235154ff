use Rattle.std.proofs.Common.{◌∙◌, sym, arith}
use Rattle.ir_event.specs.trees.Meaning.{isolated_in}
use Rattle.patterns_regions.proofs.Unused.{none_used, some_used, unused_meant}
use Rattle.patterns_regions.proofs.dead.is_unused.Goals as goal

pub returns-then-is_some : goal.returns-then-is_some
returns-then-is_some c =
    let t = c.args.world.now.store.module_of.tree in
    sym (unused_meant c.args.world.now.ctx c.args.op t ∙ some_used c.args.op c.results.number t c.first_use.result c.first_use.ensures c.is_some.result c.is_some.ensures c.if-is_some.true)

pub returns : goal.returns
returns c =
    let w = c.args.world.now in
    let t = w.store.module_of.tree in
    let past = c.results-test.false in
    sym (unused_meant w.ctx c.args.op t
    ∙ none_used (isolated_in w.ctx) c.args.op t w.wellformed.distinct w.wellformed.wellformed.visible (λ k h. let few = c.result_count-count.ensures k h in c.results.invariant k (omega (arith, few, past))))
