-- Greedy canonicalization (`applyPatternsGreedily`). Each step takes the first operation in pre-order at which a rule
-- applies and applies the highest-priority rule there, up to a limit of rewrites.
use Rattle.std.specs.Prelude.{◌≡◌, ℕ, zero, suc, ◌+◌, ◌&&◌, nat_le, List, [], ◌∷◌, if◌then◌else◌, Some}
use Rattle.std.specs.List.{filter}
use Rattle.ir_types.specs.declared.refusal.Refusal.{Refusal}
use Rattle.ir_types.specs.declared.refusal.Refusal.TheVariants.{BadLimit}
use Rattle.ir_tree.specs.Ids.{ids, find}
use Rattle.ir_tree.specs.Tree.{head}
use Rattle.ir_tree.specs.Meaning.{Operation}
use Rattle.rewriter_machine.specs.events.Modules.{Module}
use Rattle.patterns_base.specs.declared.rule.Rule.{Rule}
use Rattle.patterns_base.specs.RuleNames.{all_rules, is_canonical}
use Rattle.patterns_base.specs.Rules.{rules_for}
use Rattle.patterns_base.specs.Rewrites.{Rewrite, none, refused, becomes, rewrite_of}

-- the first of two rewrites, or the second if the first is none
abbrev pub or_else : Rewrite → Rewrite → Rewrite
or_else none b = b
or_else (refused e) b = refused e
or_else (becomes m) b = becomes m

-- the first of some rules that applies at an operation
unfoldable pub first_rule : List Rule → Module → ℕ → Rewrite
first_rule [] m x = none
first_rule (r ∷ rs) m x = or_else (rewrite_of r m x) (first_rule rs m x)

-- the rules that canonicalization tries
abbrev pub greedy_rules : List Rule
greedy_rules = filter is_canonical all_rules

-- the rewrite of the highest-priority rule at an operation
abbrev pub highest_priority : Module → ℕ → Rewrite
highest_priority m x = first_rule greedy_rules m x

-- the rewrite at the first of some operations at which a rule applies
unfoldable pub first_among : List ℕ → Module → Rewrite
first_among [] m = none
first_among (x ∷ xs) m = or_else (highest_priority m x) (first_among xs m)

-- the next rewrite of a module
abbrev pub next_rewrite : Module → Rewrite
next_rewrite m = first_among (ids m.tree) m

-- how a run ends: no rule applies, or the limit was reached
pub data End : Type 0 where
  converged : End
  limited : End

-- a refusal, or the module after a number of rewrites
pub data Canonical : Type 0 where
  aborted : Refusal → Canonical
  ended : Module → ℕ → End → Canonical

-- how a run ends at the limit, by the next rewrite
abbrev pub end_of : Rewrite → End
end_of none = converged
end_of (refused e) = limited
end_of (becomes m) = limited

-- how a run continues after the next rewrite of a module, which a number of rewrites made
abbrev pub go_on : Rewrite → Module → ℕ → (Module → Canonical) → Canonical
go_on none m done more = ended m done converged
go_on (refused e) m done more = aborted e
go_on (becomes n) m done more = more n

-- at most a number of rewrites, after others were made
unfoldable pub canonical_from : ℕ → ℕ → Module → Canonical
canonical_from zero done m = ended m done (end_of (next_rewrite m))
canonical_from (suc left) done m = go_on (next_rewrite m) m done (canonical_from left (done + 1))

-- the largest limit that is allowed
unfoldable pub most_rewrites : ℕ
most_rewrites = 1000000

-- at most a number of rewrites of a module
unfoldable pub canonicalization_of : ℕ → Module → Canonical
canonicalization_of limit m =
    if nat_le 1 limit && nat_le limit most_rewrites then canonical_from limit 0 m else aborted BadLimit

-- the canonicalization rules that the table lists for a name
abbrev pub greedy_rules_for : List ℕ → List Rule
greedy_rules_for name = filter is_canonical (rules_for name)

-- no other rules need to be tried
abbrev pub TableSuffices : Type 0
TableSuffices = (m : Module) (x : ℕ) (o : Operation) → find x m.tree ≡ Some o
    → highest_priority m x ≡ first_rule (greedy_rules_for (head o).name) m x
