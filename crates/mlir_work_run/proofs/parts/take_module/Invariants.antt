use Rattle.std.proofs.Common.{◌≡◌, ◌≤◌, ◌-◌, length}
use Rattle.mlir_work_script_base.specs.Limits.{most_input_bytes}
use Rattle.mlir_work_run.specs.Feeding.{waiting}
use Rattle.mlir_work_run.proofs.Feeds.{Before}
use Rattle.mlir_work_run.proofs.parts.take_module.Given as goal

-- the text taken so far precedes the pending input, and no line of it is the divider
abbrev pub invariant-lines : goal.invariant-lines
invariant-lines g l = record {
  before : Before (waiting l.initial.kept.items (g.R.Source.intake l.initial.reader).remaining) (waiting l.kept.items (g.R.Source.intake l.reader).remaining) l.text.items;
  short : length l.text.items ≤ most_input_bytes;
  failed : (g.R.Source.intake l.reader).failed ≡ (g.R.Source.intake l.initial.reader).failed;
}

abbrev pub decreases-lines : goal.decreases-lines
decreases-lines g l = most_input_bytes - length l.text.items
