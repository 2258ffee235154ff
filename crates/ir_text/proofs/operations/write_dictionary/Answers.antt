use Rattle.ir_text.proofs.Meanings.{entries_are}
use Rattle.ir_text.proofs.operations.write_dictionary.Goals as goal

pub returns : goal.returns
returns c = rw (entries_are c.args.ctx.now c.args.entries.now) c.write_entries.ensures
