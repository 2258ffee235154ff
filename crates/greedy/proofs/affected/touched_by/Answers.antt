use Rattle.std.proofs.Common.{sym, ◌∙◌}
use Rattle.greedy.proofs.Gathering.{near_touched}
use Rattle.greedy.proofs.affected.touched_by.Goals as goal

pub returns-in-Ok-near-clause-ok : goal.returns-in-Ok-near-clause-ok
returns-in-Ok-near-clause-ok c = near_touched c.args.world.now c.args.events.now c.args.passed c.near.new.ops.items (c.in-Ok-near.ensures (sym c.any_puts_last.ensures ∙ c.if-any_puts_last.false))

pub returns-in-Ok-clause-ok : goal.returns-in-Ok-clause-ok
returns-in-Ok-clause-ok c m l x h u p = c.in-Ok.ensures.ok m x h u
