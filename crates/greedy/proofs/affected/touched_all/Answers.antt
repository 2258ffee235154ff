use Rattle.std.proofs.Common.{◌≡◌, Vec, Global}
use Rattle.ir_event.specs.trees.Ids.{ids}
use Rattle.ir_event.specs.types.declared.ids.OpId.{OpId}
use Rattle.ir_event.specs.Modules.{Module, module_in}
use Rattle.greedy.specs.Listing.{Touched}
use Rattle.greedy.proofs.Adding.{if_ok}
use Rattle.greedy.proofs.Gathering.{all_touched}
use Rattle.greedy.proofs.affected.touched_all.Goals as goal

pub returns-clause-ok : goal.returns-clause-ok
returns-clause-ok c =
    let w = c.args.world.now in
    if_ok (λ (v : Vec OpId Global). v.items ≡ ids w.store.module_of.tree) (λ (v : Vec OpId Global). (m : Module) → Touched m (module_in w) v.items) c.operations.result (λ v e. all_touched w v.items e) c.operations.ensures.listed
