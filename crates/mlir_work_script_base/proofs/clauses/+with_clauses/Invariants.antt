use Rattle.std.proofs.Common.{length}
use Rattle.mlir_work_script_base.proofs.clauses.+with_clauses.Given as goal

abbrev pub decreases-with_clauses : goal.decreases-with_clauses
decreases-with_clauses l = length l.text.now
