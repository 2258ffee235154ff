use Rattle.std.proofs.Common.{length, ◌≡◌, ◌+◌}
use Rattle.ir_event.specs.types.Sound.{Holds}
use Rattle.patterns.specs.RewriterCalls.{Journaled}
use Rattle.patterns.specs.Held.{module_held, open_marks}
use Rattle.greedy.specs.PatternSet.{patterns_of, first_matching_entry, first_applicable_rewrite}
use Rattle.greedy.proofs.first_pattern.apply_first_pattern.Given as goal

abbrev pub invariant-candidates : goal.invariant-candidates
invariant-candidates g l =
    (module_held l.bench.transaction ≡ module_held l.fn.bench.transaction)
    × ((open_marks l.bench.transaction ≡ open_marks l.fn.bench.transaction)
    × (Holds l.bench.transaction.ctx
    × (Journaled g.L.Analysis.meaning l.fn.bench l.bench
    × ((first_applicable_rewrite (patterns_of l.rest) (module_held l.fn.bench.transaction) l.fn.op ≡ first_applicable_rewrite (patterns_of l.fn.candidates) (module_held l.fn.bench.transaction) l.fn.op)
    × ((first_matching_entry l.place (patterns_of l.rest) (module_held l.fn.bench.transaction) l.fn.op ≡ first_matching_entry 0 (patterns_of l.fn.candidates) (module_held l.fn.bench.transaction) l.fn.op)
    × (l.place + length l.rest ≡ length l.fn.candidates))))))

abbrev pub decreases-candidates : goal.decreases-candidates
decreases-candidates g l = length l.rest
