use Rattle.std.proofs.Common.{◌≡◌, ◌-◌, drop, length}
use Rattle.std.specs.List.{position_from}
use Rattle.std.specs.Str.{bytes_eq}
use Rattle.mlir_work_c_read.proofs.texts.find_name.Given as goal

abbrev pub invariant-names : goal.invariant-names
invariant-names l = position_from (bytes_eq l.text) l.number (drop l.number l.ctx.names) ≡ position_from (bytes_eq l.text) 0 l.ctx.names

abbrev pub decreases-names : goal.decreases-names
decreases-names l = length l.ctx.names - l.number
