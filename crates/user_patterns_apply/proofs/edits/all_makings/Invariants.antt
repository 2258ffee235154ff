use Rattle.std.proofs.Common.{length}
use Rattle.user_patterns_apply.proofs.Makings.{Making}
use Rattle.user_patterns_apply.proofs.edits.all_makings.Given as goal

abbrev pub invariant-made : goal.invariant-made
invariant-made g l = Making g.L.Analysis.meaning l.fn.next l.fn.point l.fn.made l.initial.bench l.rest l.bench l.edits.items

abbrev pub decreases-made : goal.decreases-made
decreases-made g l = length l.rest
