use Rattle.std.proofs.Common.{◌≡◌, ◌++◌, length}
use Rattle.conversion_base.specs.Listing.{casts_among}
use Rattle.conversion.proofs.collapsing.casts_of.Given as goal

abbrev pub invariant-ops : goal.invariant-ops
invariant-ops g l = l.casts.items ++ casts_among l.rest (g.B.ConversionRewriter.state l.bench).held.tree ≡ casts_among l.ops (g.B.ConversionRewriter.state l.bench).held.tree

abbrev pub decreases-ops : goal.decreases-ops
decreases-ops g l = length l.rest
