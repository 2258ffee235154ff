use Rattle.std.proofs.Common.{length, ◌+◌, ◌-◌}
use Rattle.conversion.specs.States.{Leads}
use Rattle.conversion.proofs.Walking.{Walking}
use Rattle.conversion.proofs.collapsing.collapse_next.Given as goal

abbrev pub invariant-places : goal.invariant-places
invariant-places g l = Walking (g.B.ConversionRewriter.state l.initial.bench) l.ops l.walk.passed l.walk.again.keys (g.B.ConversionRewriter.state l.bench) × Leads g.B.ConversionRewriter.state g.B.ConversionRewriter.transaction g.B.ConversionRewriter.led l.initial.bench l.bench

abbrev pub decreases-places : goal.decreases-places
decreases-places g l = length l.walk.again.keys + (length l.ops - l.walk.passed)
