use Rattle.std.proofs.Common.{length}
use Rattle.mlir_work_c_read.proofs.dictionaries.+insert_properties.Given as goal

abbrev pub decreases-insert_properties : goal.decreases-insert_properties
decreases-insert_properties l = length l.entries.now
