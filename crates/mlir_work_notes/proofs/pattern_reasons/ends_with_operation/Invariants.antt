use Rattle.std.proofs.Common.{◌≡◌, length, false}
use Rattle.mlir_work_notes.specs.PatternReasons.{ends_dotted}
use Rattle.mlir_work_notes.proofs.pattern_reasons.ends_with_operation.Given as goal

-- the rest leads from this answer to that of the whole text
abbrev pub invariant-bytes : goal.invariant-bytes
invariant-bytes l = ends_dotted l.dotted l.rest ≡ ends_dotted false l.text

abbrev pub decreases-bytes : goal.decreases-bytes
decreases-bytes l = length l.rest
