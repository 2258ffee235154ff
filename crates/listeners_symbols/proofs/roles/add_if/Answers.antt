use Rattle.listeners_symbols.proofs.Marked.{added_stays}
use Rattle.listeners_symbols.proofs.roles.add_if.Goals as goal

pub returns-in_ok-insert-clause-remains : goal.returns-in_ok-insert-clause-remains
returns-in_ok-insert-clause-remains c = added_stays c.args.op c.args.set.now c.insert.new.self c.in_ok-insert.ensures.updates
