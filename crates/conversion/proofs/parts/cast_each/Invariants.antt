use Rattle.std.proofs.Common.{[], length}
use Rattle.conversion_base.specs.Conversion.{cast_at}
use Rattle.conversion.specs.States.{Leads}
use Rattle.conversion.proofs.Turns.{Turning}
use Rattle.conversion.proofs.parts.cast_each.Given as goal

abbrev pub invariant-ops : goal.invariant-ops
invariant-ops g l = Turning cast_at l.ops (g.B.ConversionRewriter.state l.initial.bench) l.rest [] (g.B.ConversionRewriter.state l.bench) × Leads g.B.ConversionRewriter.state g.B.ConversionRewriter.transaction g.B.ConversionRewriter.led l.initial.bench l.bench

abbrev pub decreases-ops : goal.decreases-ops
decreases-ops g l = length l.rest
