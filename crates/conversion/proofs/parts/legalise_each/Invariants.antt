use Rattle.std.proofs.Common.{◌+◌, ◌≤◌, length}
use Rattle.conversion_base.specs.Conversion.{legalised_at}
use Rattle.conversion.specs.States.{Leads}
use Rattle.conversion_base.specs.Targets.{target_model}
use Rattle.conversion.proofs.Stops.{StillStays}
use Rattle.conversion.proofs.Turns.{Turning}
use Rattle.conversion.proofs.parts.legalise_each.Given as goal

abbrev pub invariant-ops : goal.invariant-ops
invariant-ops g l =
    Turning (legalised_at (target_model (g.B.ConversionRewriter.state l.initial.bench).things l.target)) l.ops (g.B.ConversionRewriter.state l.initial.bench) l.rest l.applied.items (g.B.ConversionRewriter.state l.bench)
    × (length l.applied.items + (g.B.ConversionRewriter.state l.initial.bench).held.next ≤ (g.B.ConversionRewriter.state l.bench).held.next)
    × StillStays (target_model (g.B.ConversionRewriter.state l.initial.bench).things l.target) l.ops (g.B.ConversionRewriter.state l.initial.bench) l.rest (g.B.ConversionRewriter.state l.bench)
    × Leads g.B.ConversionRewriter.state g.B.ConversionRewriter.transaction g.B.ConversionRewriter.led l.initial.bench l.bench

abbrev pub decreases-ops : goal.decreases-ops
decreases-ops g l = length l.rest
