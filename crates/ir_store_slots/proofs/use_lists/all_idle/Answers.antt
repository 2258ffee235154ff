use Rattle.std.proofs.Common.{◌∙◌, sym, arith}
use Rattle.ir_store_slots.proofs.Idle.{none_nil, idle_step, heads_step}
use Rattle.ir_store_slots.proofs.use_lists.all_idle.Goals as goal

pub heads-preserved : goal.heads-preserved
heads-preserved c = (
  heads_step c.heads.at _ c.heads.left _ (omega (arith, c.heads-test.true)) c.heads.invariant.0,
  idle_step c.args.uses.now.lists c.heads.at _ c.heads.left (omega (arith, c.heads-test.true)) (none_nil _ _ c.first.ensures (sym c.is_some.ensures ∙ c.if-is_some.false)) ∙ c.heads.invariant.1,
)
