use Rattle.std.proofs.Common.{◌∙◌, drop, arith}
use Rattle.greedy.specs.Parts.{IsSeer}
use Rattle.greedy.proofs.Adding.{rest_all, place_more, place_done}
use Rattle.greedy.proofs.users.push_seers_from.Goals as goal

pub listed-init : goal.listed-init
listed-init c = (c.len-count.ensures ∙ c.args.ops.now.ok.0, rest_all (IsSeer c.args.world.now.store.module_of.tree c.args.passed) (drop c.args.from c.args.ops.now.items) c.args.ops.now.items)

pub listed-preserved : goal.listed-preserved
listed-preserved c =
    let low = c.listed-test.true in
    let size = c.listed.invariant.0 in
    (c.listed.invariant.0, place_more (IsSeer c.args.world.now.store.module_of.tree c.args.passed) (drop c.args.from c.args.ops.now.items) c.args.ops.now.items c.listed.ops.items _ c.listed.place c.index-op.result.now c.index-op.result.now (omega (arith, low, size)) c.index-op.ensures c.listed.invariant.1 c.in_ok-push_seers.ensures)

pub returns : goal.returns
returns c =
    let past = c.listed-test.false in
    let size = c.listed.invariant.0 in
    place_done (IsSeer c.args.world.now.store.module_of.tree c.args.passed) (drop c.args.from c.args.ops.now.items) c.args.ops.now.items c.listed.ops.items c.listed.place (omega (arith, past, size)) c.listed.invariant.1
