use Rattle.std.proofs.Common.{sym, ap, subst, map}
use Rattle.ir_store_reads.specs.trees.Tree.{head, regions, regions_of}
use Rattle.ir_store_reads.specs.trees.Ids.{regions_ids}
use Rattle.ir_store_reads.specs.trees.View.{region_view}
use Rattle.ir_store.specs.Loads.{Adds, put_regions, MayRegions, AreBelow}
use Rattle.ir_store.proofs.Loading.{root_may, root_below, root_loaded, head_below}
use Rattle.ir_store.proofs.load.spread.Goals as goal

pub load_regions-requires-clause-may : goal.load_regions-requires-clause-may
load_regions-requires-clause-may c =
    let s = c.in_ok-store.store in
    subst (λ z. MayRegions z 0 (regions_of (map region_view c.tree.inside.regions.items)) s.module_of.tree) (sym (ap (λ z. (head z).id) c.tree.view_is))
    (subst (λ z. MayRegions (head c.args.tree.now).id 0 z s.module_of.tree) (sym (ap regions c.tree.view_is)) (root_may c.args.tree.now c.requires.distinct c.args.next c.requires.below s c.in_ok-store.ensures))

pub load_regions-requires-clause-below : goal.load_regions-requires-clause-below
load_regions-requires-clause-below c =
    let s = c.in_ok-store.store in
    subst (λ z. AreBelow s.module_of.next (regions_ids z)) (sym (ap regions c.tree.view_is)) (root_below c.args.tree.now c.requires.distinct c.args.next c.requires.below s c.in_ok-store.ensures)

pub returns : goal.returns
returns c =
    let s = c.in_ok-store.store in
    root_loaded c.args.tree.now c.requires.distinct c.args.next c.requires.below s c.in_ok-store.ensures c.load_regions.new.store
    (subst (λ z. Adds (put_regions z 0 (regions c.args.tree.now) s.module_of.tree) (regions_ids (regions c.args.tree.now)) s c.load_regions.new.store) (ap (λ z. (head z).id) c.tree.view_is)
    (subst (λ z. Adds (put_regions c.tree.inside.id 0 z s.module_of.tree) (regions_ids z) s c.load_regions.new.store) (ap regions c.tree.view_is) c.in_ok-load_regions.ensures))

pub from_root-requires-clause-below : goal.from_root-requires-clause-below
from_root-requires-clause-below c = head_below c.args.next c.args.tree.now c.requires.below
