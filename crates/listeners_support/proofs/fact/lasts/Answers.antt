use Rattle.std.proofs.Common.{◌≡◌, ◌∙◌, ◌+◌, ◌-◌, ◌<◌, ◌++◌, ◌∷◌, [], suc, sym, ap, append_assoc, append-nil, arith}
use Rattle.ir_event.specs.trees.Ids.{find}
use Rattle.ir_event.specs.tree_laws.Reads.{last_at}
use Rattle.listeners_support.specs.Near.{somes}
use Rattle.listeners_support.specs.Gathered.{tree_in, from_on, regions_found}
use Rattle.listeners_support.proofs.Following.{lasts_read}
use Rattle.listeners_support.proofs.fact.lasts.Goals as goal

pub loop-region-preserved : goal.loop-region-preserved
loop-region-preserved c =
    let inv = c.loop-region.invariant in
    let w = c.args.view.now.world.now in
    let tree = tree_in w in
    let op = c.args.op in
    let count = regions_found (find op tree) in
    let r = c.loop-region.region in
    let out = c.loop-region.ops.items in
    let looks = c.last-last.ensures.looks in
    let before = inv.looks in
    let last = c.last-last.ensures.answer ∙ ap (λ u. last_at op r (tree_in u)) inv.world in
    let below : r < count = (let t = c.loop-region-test.true in let n = c.region_count-count.ensures.count in omega arith) in
    let one : count - r ≡ suc (count - (r + 1)) = omega arith in
    let more = from_on (λ k. last_at op k tree) (r + 1) (count - (r + 1)) in
    record {
      world = c.last-last.ensures.world ∙ inv.world;
      looks = omega arith;
      ops = ap (λ l. l ++ more) (c.in_ok-push-2.ensures.items ∙ ap (λ z. out ++ z ∷ []) last)
          ∙ append_assoc out (last_at op r tree ∷ []) more
          ∙ ap (λ k. out ++ from_on (λ j. last_at op j tree) r k) (sym one)
          ∙ inv.ops;
    }

pub returns-clause-ops : goal.returns-clause-ops
returns-clause-ops c =
    let w = c.args.view.now.world.now in
    let tree = tree_in w in
    let op = c.args.op in
    let count = regions_found (find op tree) in
    let r = c.loop-region.region in
    let out = c.loop-region.ops.items in
    let none : count - r ≡ 0 = (let t = c.loop-region-test.false in let n = c.region_count-count.ensures.count in omega arith) in
    ap somes (sym (append-nil out) ∙ ap (λ k. out ++ from_on (λ j. last_at op j tree) r k) (sym none) ∙ c.loop-region.invariant.ops) ∙ ap (λ l. op ∷ l) (lasts_read tree op)
