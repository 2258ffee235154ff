use Rattle.std.proofs.Common.{rules}
use Rattle.ir_event.specs.trees.Meaning.{key_before_in}
use Rattle.ir_text_operations.proofs.Placing.{put_at}
use Rattle.mlir_work_c_read.proofs.dictionaries.push_among.Goals as goal

pub returns : goal.returns
returns c = rw (put_at (key_before_in c.args.ctx.now) c.args.entry c.args.sorted.now.items) (search rules)
