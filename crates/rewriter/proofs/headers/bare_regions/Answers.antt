use Rattle.std.proofs.Common.{◌≡◌, refl, subst, map, ℕ, List}
use Rattle.ir_event.specs.trees.Tree.{regions_of, region_list}
use Rattle.ir_event.specs.trees.View.{region_view}
use Rattle.ir_event.specs.trees.declared.tree.TreeRegion.{TreeRegion}
use Rattle.ir_event.proofs.of_trees.Lists.{regions_from}
use Rattle.ir_event.proofs.of_trees.Steps.{made_all}
use Rattle.rewriter_machine.specs.Inserting.{bare_regions}
use Rattle.rewriter.proofs.headers.bare_regions.Goals as goal

pub returns : goal.returns
returns c =
    let xs = c.deref-region-items.result.now in
    let made = map region_view c.loop-region.copies.items in
    let todo = λ (n : ℕ) (xs : List TreeRegion). region_list (bare_regions (regions_of (map region_view xs))) in
    let all = made_all todo xs c.loop-region.region-index made (todo 0 xs) refl c.loop-region-test.false c.loop-region.invariant in
    subst (λ (xs : List TreeRegion). regions_of made ≡ bare_regions (regions_of (map region_view xs))) c.deref-region-items.ensures.value (regions_from made (bare_regions (regions_of (map region_view xs))) all)
