use Rattle.std.proofs.Common.{◌≡◌, ◌+◌, false, drop}
use Rattle.mlir_work_json.specs.Cuts.{cell_len}
use Rattle.mlir_work_json.proofs.cuts.cell_len.Given as goal

-- the length so far plus the length of the cell in the rest is the length of the first cell
abbrev pub invariant-loop-byte : goal.invariant-loop-byte
invariant-loop-byte l = record {
  place : l.len ≡ l.byte-index;
  same : l.len + cell_len l.quoted (drop l.byte-index l.text) ≡ cell_len false l.text;
}
