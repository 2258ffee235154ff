use Rattle.std.proofs.Common.{refl, ◌++◌}
use Rattle.std.specs.Prelude.{option_to_list}
use Rattle.listeners_symbols.specs.Lines.{numbers_at}
use Rattle.listeners.specs.Marks.{IsDefinition, Reaches, IsUnder, left_at, queue_of}
use Rattle.listeners.proofs.Taken.{removed_more}
use Rattle.listeners.proofs.Steps.{from_item, le_trans, prefix_step, taken_found}
use Rattle.listeners.proofs.marking.reach.Goals as goal

pub loop-rest-preserved : goal.loop-rest-preserved
loop-rest-preserved c =
    let roles = numbers_at c.args.roles.now in
    let ds = c.args.definitions.now in
    let inv = c.loop-rest.invariant in
    let next = c.look_in-found.result in
    let rest = c.loop-rest.rest.now in
    let whole = from_item rest c.part-item.result _ _ c.in-len1-up.len_at_least c.part-item.is refl in
    let P = IsDefinition roles in
    let U = IsUnder roles in
    let R = Reaches roles ds in
    let q0 = queue_of c.args.pending.now in
    let q1 = queue_of c.loop-rest.pending in
    let q2 = queue_of c.take_found.new.pending in
    let l0 = left_at c.args.left.now in
    let l1 = left_at c.loop-rest.left in
    let l2 = left_at c.take_found.new.left in (
      (
        inv.0.0 ++ option_to_list next,
        prefix_step roles ds c.args.table.now c.loop-rest.found next c.part-item.result _ rest c.args.parts.now inv.0.0 c.look_in-found.ensures whole inv.0.1,
        removed_more P U R inv.0.0 (option_to_list next) q0 q1 q2 l0 l1 l2 inv.0.2 (taken_found P U R next q1 q2 l1 l2 c.in_ok-take_found.ensures.taken),
      ),
      le_trans _ _ _ inv.1 c.in_ok-take_found.ensures.size,
    )
