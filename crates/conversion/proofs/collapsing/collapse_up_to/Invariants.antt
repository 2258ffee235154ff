use Rattle.conversion_base.specs.Listing.{HaveCasts}
use Rattle.conversion.specs.Walks.{Walked}
use Rattle.conversion.specs.States.{Leads}
use Rattle.conversion.proofs.Turns.{Collapsing}
use Rattle.conversion.proofs.collapsing.collapse_up_to.Given as goal

abbrev pub invariant-casts : goal.invariant-casts
invariant-casts g l =
    Collapsing l.most (g.B.ConversionRewriter.state l.initial.bench) l.left (g.B.ConversionRewriter.state l.bench)
    × Leads g.B.ConversionRewriter.state g.B.ConversionRewriter.transaction g.B.ConversionRewriter.led l.initial.bench l.bench
    × HaveCasts l.ops (g.B.ConversionRewriter.state l.bench).held.tree
    × Walked l.ops l.walk.passed l.walk.again.keys (g.B.ConversionRewriter.state l.bench).held

abbrev pub decreases-casts : goal.decreases-casts
decreases-casts g l = l.left
