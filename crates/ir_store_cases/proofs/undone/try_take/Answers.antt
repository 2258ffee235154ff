use Rattle.std.proofs.Common.{rules, ◌≡◌, Some, None, false}
use Rattle.ir_tree.specs.Ids.{HasDistinctIds}
use Rattle.ir_tree.specs.Places.{place_of}
use Rattle.ir_tree_laws.specs.Reasons.{take_reason}
use Rattle.ir_store.specs.Calls.{after_restore, after_take}
use Rattle.ir_store_cases.proofs.Held.{taken_back}
use Rattle.ir_store_cases.proofs.undone.try_take.Goals as goal

pub returns : goal.returns
returns c =
    let s = c.args.store.now in
    let distinct : HasDistinctIds s.module_of.tree = search rules in
    let place : place_of c.args.op s.module_of.tree ≡ Some c.in-Some.place = search rules in
    let reason : take_reason c.args.op s.module_of.tree ≡ None = search rules in
    let done : c.restore.new.self ≡ after_restore c.args.op c.in-Some.place false (after_take c.args.op s) = search rules in
    λ e. taken_back c.args.op c.in-Some.place s c.restore.new.self distinct place reason done
