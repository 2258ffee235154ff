use Rattle.std.proofs.Common.{◌*◌, ◌+◌, ◌-◌, false, [], ◌∷◌, length}
use Rattle.conversion_base.specs.Legalization.{trailing, each_of, legalization_of, made_since}
use Rattle.conversion.specs.States.{Leads, applied_since}
use Rattle.conversion_base.specs.Targets.{target_model}
use Rattle.conversion.proofs.Trying.{Making, Trying}
use Rattle.conversion.proofs.legalise.+legalise.Given as goal

abbrev pub decreases-legalise : goal.decreases-legalise
decreases-legalise g l = 5 * l.below

abbrev pub decreases-first_rule : goal.decreases-first_rule
decreases-first_rule g l = 5 * l.below + 4

abbrev pub decreases-try_rule : goal.decreases-try_rule
decreases-try_rule g l = 5 * l.below + 3

abbrev pub decreases-after_rule : goal.decreases-after_rule
decreases-after_rule g l = 5 * l.below + 2

abbrev pub decreases-each_made : goal.decreases-each_made
decreases-each_made g l = 5 * l.below + 1

abbrev pub decreases-first_rule-rules : goal.decreases-first_rule-rules
decreases-first_rule-rules g l = length l.rest

abbrev pub decreases-each_made-made : goal.decreases-each_made-made
decreases-each_made-made g l = l.end - l.id

abbrev pub invariant-first_rule-rules : goal.invariant-first_rule-rules
invariant-first_rule-rules g l =
    Trying (legalization_of (target_model (g.B.ConversionRewriter.state l.initial.bench).things l.target) l.below) l.op l.target.rules l.rest (g.B.ConversionRewriter.state l.initial.bench) (g.B.ConversionRewriter.state l.bench) l.limit_reached
    × Leads g.B.ConversionRewriter.state g.B.ConversionRewriter.transaction g.B.ConversionRewriter.led l.initial.bench l.bench

abbrev pub invariant-each_made-made : goal.invariant-each_made-made
invariant-each_made-made g l =
    Making (legalization_of (target_model (g.B.ConversionRewriter.state l.initial.bench).things l.target) l.below)
    (trailing (applied_since l.fn.rule l.fn.op l.from (g.B.ConversionRewriter.state l.initial.bench).held ∷ []) false
    (each_of (legalization_of (target_model (g.B.ConversionRewriter.state l.initial.bench).things l.target) l.below) (made_since l.from (g.B.ConversionRewriter.state l.initial.bench).held) (g.B.ConversionRewriter.state l.initial.bench).held))
    l.id l.end (g.B.ConversionRewriter.state l.bench) l.applied.items l.limit_reached
    × Leads g.B.ConversionRewriter.state g.B.ConversionRewriter.transaction g.B.ConversionRewriter.led l.initial.bench l.bench
