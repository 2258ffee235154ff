use Rattle.std.proofs.Common.{◌≡◌, ◌∙◌, ◌-◌, arith, suc}
use Rattle.ir_store_slots.proofs.Idle.{free_step, freed_step}
use Rattle.ir_store_slots.proofs.use_lists.free_uses.Goals as goal

pub nodes-preserved : goal.nodes-preserved
nodes-preserved c =
    let e : c.nodes.left ≡ suc (c.nodes.left - 1) = omega (arith, c.nodes-test.true) in (
      free_step c.nodes.at (c.nodes.left - 1) c.nodes.left c.nodes.uses.homes _ e c.remove.ensures.homes c.nodes.invariant.0,
      freed_step c.nodes.at (c.nodes.left - 1) c.nodes.left c.nodes.uses.homes _ e c.remove.ensures.homes ∙ c.nodes.invariant.1,
    )
