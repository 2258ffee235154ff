-- Canonicalization of one operation: the highest-priority rule that matches there, repeatedly while the operation
-- exists, up to a limit.
use Rattle.std.specs.Prelude.{ℕ, ◌&&◌, nat_le, true, if◌then◌else◌}
use Rattle.ir_event.specs.types.declared.refusal.Refusal.TheVariants.{BadLimit, NoSuchOp}
use Rattle.ir_event.specs.trees.Ids.{has_id}
use Rattle.ir_event.specs.Modules.{Module}
use Rattle.conversion.specs.patterns.Canonicalization.{Canonical, greedy_rules, most_rewrites, aborted}
use Rattle.conversion.specs.rewriter.Machine.{Transformation}
use Rattle.greedy.specs.Changes.{made_of}
use Rattle.greedy.specs.PatternSet.{by_rules, only_at}
use Rattle.greedy.specs.Rewriting.{rewritten_from}

-- at most so many rewrites of a module that has `x`, by the rules of canonicalization, at `x` only
abbrev pub canonical_at : ℕ → ℕ → Module → Canonical
canonical_at limit x m = if has_id x m.tree then rewritten_from (only_at x (by_rules greedy_rules)) limit 0 m else aborted NoSuchOp

-- the same with a limit in the allowed range
unfoldable pub canonicalization_at : ℕ → ℕ → Module → Canonical
canonicalization_at limit x m =
    if nat_le 1 limit && nat_le limit most_rewrites then canonical_at limit x m else aborted BadLimit

-- the transformation
abbrev pub canonicalizing_at : ℕ → ℕ → Transformation
canonicalizing_at limit x = record { transformed = λ m. made_of (canonicalization_at limit x m); interns = true }
