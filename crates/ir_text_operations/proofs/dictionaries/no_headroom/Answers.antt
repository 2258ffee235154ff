use Rattle.std.proofs.Common.{sym}
use Rattle.ir_text_operations.specs.EntryReading.{is_property_in}
use Rattle.ir_text_operations.proofs.Roomy.{roomy}
use Rattle.ir_text_operations.proofs.dictionaries.no_headroom.Goals as goal

pub returns-then-entries-lt-MOST_ENTRIES : goal.returns-then-entries-lt-MOST_ENTRIES
returns-then-entries-lt-MOST_ENTRIES c = sym (roomy (is_property_in c.args.ctx.now c.args.op.now) c.args.properties.now c.args.entries.now c.in-empty.len_below c.if-entries-lt-MOST_ENTRIES.true c.args.key)
