use Rattle.std.proofs.Common.{◌≡◌, ◌∙◌, ◌+◌, ◌-◌, ◌<◌, ◌++◌, ◌∷◌, [], suc, sym, ap, append_assoc, arith}
use Rattle.listeners_support.specs.Gathered.{tree_in, last_name_at, from_on}
use Rattle.listeners_support.proofs.gather.lasts_of.Goals as goal

pub loop-region-preserved : goal.loop-region-preserved
loop-region-preserved c =
    let inv = c.loop-region.invariant in
    let w = c.args.view.now.world.now in
    let f = last_name_at c.args.op (tree_in w) in
    let r = c.loop-region.region in
    let out = c.loop-region.lasts.items in
    let looks = c.last_name-name.ensures.looks in
    let before = inv.looks in
    let name = c.last_name-name.ensures.name ∙ ap (λ u. last_name_at c.args.op (tree_in u) r) inv.world in
    let below : r < c.args.regions = c.loop-region-test.true in
    let one : c.args.regions - r ≡ suc (c.args.regions - (r + 1)) = omega arith in
    record {
      world = c.last_name-name.ensures.world ∙ inv.world;
      looks = omega arith;
      lasts = ap (λ l. l ++ from_on f (r + 1) (c.args.regions - (r + 1))) (c.in_ok-push.ensures.items ∙ ap (λ z. out ++ z ∷ []) name)
          ∙ append_assoc out (f r ∷ []) (from_on f (r + 1) (c.args.regions - (r + 1)))
          ∙ ap (λ k. out ++ from_on f r k) (sym one)
          ∙ inv.lasts;
    }
