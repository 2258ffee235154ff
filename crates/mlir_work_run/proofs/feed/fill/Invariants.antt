use Rattle.std.proofs.Common.{◌≡◌}
use Rattle.std.specs.Io.KnownBytes.{Keeps}
use Rattle.mlir_work_run.specs.Feeding.{HasFeed, waiting}
use Rattle.mlir_work_run.proofs.feed.fill.Given as goal

-- the pending input doesn't change, and the buffer has no line feed
abbrev pub invariant-turns : goal.invariant-turns
invariant-turns g l = record {
  whole : Keeps (waiting l.initial.kept.items (g.R.Source.intake l.initial.reader).remaining) (waiting l.kept.items (g.R.Source.intake l.reader).remaining);
  feedless : HasFeed l.kept.items → ⊥;
  failed : (g.R.Source.intake l.reader).failed ≡ (g.R.Source.intake l.initial.reader).failed;
}
