use Rattle.std.proofs.Common.{length, sym, ap, subst, arith, ◌++◌}
use Rattle.std.proofs.lemmas.List.{length_push}
use Rattle.ir_store_lists.specs.Lists.{list_at}
use Rattle.ir_store_lists.proofs.Walks.{Walk, walk_start, walk_step, walk_end, head_not_free}
use Rattle.ir_store_lists.proofs.chains.LinkedLists.nodes.Goals as goal

pub loop-node-init : goal.loop-node-init
loop-node-init c = walk_start c.self.inside.links.items c.self.inside.linked c.args.head c.index.result.now c.args.out.now.items c.self.inside.headroom c.args.self.now c.requires c.self.view_is c.index.ensures

pub index-requires-in-loop-node : goal.index-requires-in-loop-node
index-requires-in-loop-node c =
    let s = walk_step c.self.inside.links.items c.args.head c.loop-node.node c.index.result.now c.loop-node.out.items _ (head_not_free c.self.inside.links.items c.self.inside.linked c.args.head c.self.inside.headroom c.args.self.now c.requires c.self.view_is) c.loop-node-test.true c.loop-node.invariant in
    omega (arith, s.inside, c.self.inside.links.ok.0)

pub loop-node-smaller : goal.loop-node-smaller
loop-node-smaller c =
    let s = walk_step c.self.inside.links.items c.args.head c.loop-node.node c.index-in-loop-node.result.now c.loop-node.out.items _ (head_not_free c.self.inside.links.items c.self.inside.linked c.args.head c.self.inside.headroom c.args.self.now c.requires c.self.view_is) c.loop-node-test.true c.loop-node.invariant in
    omega (arith, s.shorter, ap length c.in_ok-push.ensures.items, length_push c.loop-node.out.items c.loop-node.node)

pub loop-node-preserved : goal.loop-node-preserved
loop-node-preserved c =
    let s = walk_step c.self.inside.links.items c.args.head c.loop-node.node c.index-in-loop-node.result.now c.loop-node.out.items _ (head_not_free c.self.inside.links.items c.self.inside.linked c.args.head c.self.inside.headroom c.args.self.now c.requires c.self.view_is) c.loop-node-test.true c.loop-node.invariant in
    subst (λ z. Walk c.self.inside.links.items c.args.head c.index-in-loop-node.result.now.next z (c.args.out.now.items ++ list_at c.args.self.now.lists c.args.head)) (sym c.in_ok-push.ensures.items) (s.next c.index-in-loop-node.ensures)

pub returns : goal.returns
returns c = walk_end _ _ _ _ _ c.loop-node-test.false c.loop-node.invariant
