use Rattle.std.proofs.Common.{◌≡◌}
use Rattle.mlir_work_cli.specs.Positions.{from_line}
use Rattle.mlir_work_cli.proofs.positions.line_at.Given as goal

-- the rest has the wanted line, which is its line `left`
abbrev pub invariant-lines : goal.invariant-lines
invariant-lines l = from_line l.rest l.left ≡ from_line l.text l.number

abbrev pub decreases-lines : goal.decreases-lines
decreases-lines l = l.left
