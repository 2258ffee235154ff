use Rattle.std.proofs.Common.{◌≡◌, length}
use Rattle.conversion_base.specs.Conversion.{first_illegal}
use Rattle.conversion_base.specs.Targets.{target_model}
use Rattle.conversion.proofs.parts.illegal_of.Given as goal

abbrev pub invariant-ops : goal.invariant-ops
invariant-ops g l =
    first_illegal (target_model (g.B.ConversionRewriter.state l.bench).things l.target) (g.B.ConversionRewriter.state l.bench).held.tree l.rest ≡ first_illegal (target_model (g.B.ConversionRewriter.state l.bench).things l.target) (g.B.ConversionRewriter.state l.bench).held.tree l.ops

abbrev pub decreases-ops : goal.decreases-ops
decreases-ops g l = length l.rest
