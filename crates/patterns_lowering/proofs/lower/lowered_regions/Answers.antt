use Rattle.std.proofs.Common.{◌≡◌, ap, refl, subst, map, drop, ◌∷◌, [], ◌+◌, ℕ, List, true}
use Rattle.std.specs.List.{list_all}
use Rattle.ir_event.specs.trees.Limits.{all_arguments_pass, arguments_pass}
use Rattle.ir_event.specs.trees.Meaning.{is_type}
use Rattle.ir_event.specs.trees.Tree.{regions_of, region_list}
use Rattle.ir_event.specs.trees.View.{region_view}
use Rattle.ir_event.specs.trees.declared.tree.TreeRegion.{TreeRegion}
use Rattle.ir_event.proofs.of_trees.Lists.{regions_from}
use Rattle.ir_event.proofs.of_trees.Steps.{made_next, made_all, map_more, next_left}
use Rattle.patterns_lowering.specs.Numbers.{regions_lowered}
use Rattle.patterns_lowering.proofs.lower.lowered_regions.Goals as goal
use Rattle.std.proofs.lemmas.Bool.{and_parts}

pub regions-preserved : goal.regions-preserved
regions-preserved c =
    let xs = c.args.regions.now in
    let n = c.regions.region-index in
    let x = c.region-item.result in
    let y = c.in_ok-lowered_region.field-0 in
    let p = list_all (is_type c.args.ctx.now) in
    let todo = λ (k : ℕ) (zs : List TreeRegion). region_list (regions_lowered c.args.ctx.now c.args.wide (regions_of (map region_view zs))) in
    let grown = map_more region_view c.regions.lowered.items c.push.new.self.items y c.in_ok-push.ensures.items in
    let next = ap (λ r. r ∷ todo (n + 1) (drop (n + 1) xs)) c.in_ok-lowered_region.ensures in
    record {
      made = made_next todo xs n x (region_view y ∷ []) (map region_view c.regions.lowered.items) (map region_view c.push.new.self.items) (todo 0 xs) c.regions-test.true c.region-item.is grown next c.regions.invariant.made;
      known =
          (and_parts (arguments_pass p (region_view x)) (all_arguments_pass p (regions_of (map region_view (drop (n + 1) xs))))
          (subst (λ (zs : List TreeRegion). all_arguments_pass p (regions_of (map region_view zs)) ≡ true) (next_left xs n x c.regions-test.true c.region-item.is) c.regions.invariant.known)).1;
    }

pub returns : goal.returns
returns c =
    let xs = c.args.regions.now in
    let todo = λ (k : ℕ) (zs : List TreeRegion). region_list (regions_lowered c.args.ctx.now c.args.wide (regions_of (map region_view zs))) in
    regions_from (map region_view c.regions.lowered.items) (regions_lowered c.args.ctx.now c.args.wide (regions_of (map region_view xs)))
    (made_all todo xs c.regions.region-index (map region_view c.regions.lowered.items) (todo 0 xs) refl c.regions-test.false c.regions.invariant.made)
