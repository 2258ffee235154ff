use Rattle.std.proofs.Common.{length}
use Rattle.mlir_work_c_read.proofs.dictionaries.+insert_attributes.Given as goal

abbrev pub decreases-insert_attributes : goal.decreases-insert_attributes
decreases-insert_attributes l = length l.entries.now
