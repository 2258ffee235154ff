use Rattle.listeners.proofs.Changing.{new_table}
use Rattle.listeners.proofs.table.UseTable.new.Goals as goal

pub returns : goal.returns
returns c = new_table c.new.result c.args.listed c.new.ensures
