use Rattle.std.proofs.Common.{length}
use Rattle.ir_text_operations.proofs.dictionaries.+push_all.Given as goal

abbrev pub decreases-push_all : goal.decreases-push_all
decreases-push_all l = length l.entries.now
