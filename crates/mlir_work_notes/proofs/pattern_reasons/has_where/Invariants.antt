use Rattle.std.proofs.Common.{◌≡◌, length}
use Rattle.mlir_work_notes.specs.PatternReasons.{has_where}
use Rattle.mlir_work_notes.proofs.pattern_reasons.has_where.Given as goal

-- the bytes that are read begin no `where`
abbrev pub invariant-bytes : goal.invariant-bytes
invariant-bytes l = has_where l.rest ≡ has_where l.text

abbrev pub decreases-bytes : goal.decreases-bytes
decreases-bytes l = length l.rest
