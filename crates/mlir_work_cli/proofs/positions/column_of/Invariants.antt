use Rattle.std.proofs.Common.{◌≡◌, ◌+◌, ◌≤◌, length}
use Rattle.mlir_work_cli.specs.Positions.{column_from}
use Rattle.mlir_work_cli.proofs.positions.column_of.Given as goal

-- the rest leads from this column to that of the whole text, and the column counts bytes that are read
abbrev pub invariant-bytes : goal.invariant-bytes
invariant-bytes l = record {
  leads : column_from l.column l.rest ≡ column_from 1 l.text;
  short : l.column + length l.rest ≤ length l.text + 1;
}

abbrev pub decreases-bytes : goal.decreases-bytes
decreases-bytes l = length l.rest
