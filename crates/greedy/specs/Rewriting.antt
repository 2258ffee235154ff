-- Rewriting by a pattern set (`applyPatternsGreedily`). Each step takes the first operation in pre-order at which an
-- entry applies and applies the first such entry, up to a limit of rewrites. With the rules of canonicalization, in
-- the order of their numbers, rewriting is canonicalization.
use Rattle.std.specs.Prelude.{◌≡◌, ℕ, zero, suc, ◌+◌, ◌&&◌, nat_le, List, [], ◌∷◌, if◌then◌else◌}
use Rattle.ir_event.specs.types.declared.refusal.Refusal.TheVariants.{BadLimit}
use Rattle.ir_event.specs.trees.Ids.{ids}
use Rattle.ir_event.specs.Modules.{Module}
use Rattle.patterns_base.specs.Rewrites.{Rewrite, none}
use Rattle.patterns_base.specs.Canonicalization.{or_else, greedy_rules, Canonical, aborted, ended, end_of, go_on}
use Rattle.patterns_base.specs.Canonicalization.{canonicalization_of, most_rewrites}
use Rattle.greedy.specs.PatternSet.{PatternSetModel, by_rules}

-- the rewrite at the first operation at which an entry applies
unfoldable pub first_by : PatternSetModel → List ℕ → Module → Rewrite
first_by a [] m = none
first_by a (x ∷ xs) m = or_else (a.comes m x) (first_by a xs m)

-- the next rewrite of a module
abbrev pub next_by : PatternSetModel → Module → Rewrite
next_by a m = first_by a (ids m.tree) m

-- at most a number of rewrites, after others were made
unfoldable pub rewritten_from : PatternSetModel → ℕ → ℕ → Module → Canonical
rewritten_from a zero done m = ended m done (end_of (next_by a m))
rewritten_from a (suc left) done m = go_on (next_by a m) m done (rewritten_from a left (done + 1))

-- at most a number of rewrites of a module
unfoldable pub rewriting_of : PatternSetModel → ℕ → Module → Canonical
rewriting_of a limit m =
    if nat_le 1 limit && nat_le limit most_rewrites then rewritten_from a limit 0 m else aborted BadLimit

-- rewriting by the rules of canonicalization is canonicalization
abbrev pub IsOfItsRules : Type 0
IsOfItsRules = (limit : ℕ) (m : Module) → rewriting_of (by_rules greedy_rules) limit m ≡ canonicalization_of limit m
