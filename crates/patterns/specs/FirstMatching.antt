-- The first of some rules that applies at an operation.
use Rattle.std.specs.Prelude.{◌≡◌, ℕ, List, [], ◌∷◌, Option, Some, None}
use Rattle.ir_event.specs.Modules.{Module}
use Rattle.patterns_soundness.specs.base.Canonicalization.{first_rule}
use Rattle.patterns_soundness.specs.base.Rewrites.{Rewrite, none, refused, becomes, rewrite_of}
use Rattle.patterns_soundness.specs.base.declared.rule.Rule.{Rule}

-- a rule if it makes a rewrite, or else another
abbrev pub rule_or : Rewrite → Rule → Option Rule → Option Rule
rule_or none r other = other
rule_or (refused e) r other = Some r
rule_or (becomes m) r other = Some r

-- the first of some rules that applies at an operation
unfoldable pub first_matching_rule : List Rule → Module → ℕ → Option Rule
first_matching_rule [] m x = None
first_matching_rule (r ∷ rs) m x = rule_or (rewrite_of r m x) r (first_matching_rule rs m x)

-- the rewrite of an optional rule at an operation
abbrev pub rewrite_if : Option Rule → Module → ℕ → Rewrite
rewrite_if None m x = none
rewrite_if (Some r) m x = rewrite_of r m x

-- the rewrite of the first rule that applies is the rewrite by the list
abbrev pub FirstMatchingIsFirst : Type 0
FirstMatchingIsFirst = (rs : List Rule) (m : Module) (x : ℕ) → first_rule rs m x ≡ rewrite_if (first_matching_rule rs m x) m x
