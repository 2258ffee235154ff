use Rattle.listeners.proofs.Changing.{new_table}
use Rattle.listeners.proofs.table.UseTable.with_headroom.Goals as goal

pub returns : goal.returns
returns c = new_table c.in_ok-changed.changed c.args.listed c.in_ok-changed.ensures
