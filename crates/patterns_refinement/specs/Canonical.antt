-- Canonicalization of a module without unrealized casts, and without loops and conditionals of `scf`, refines what it
-- computes.
use Rattle.std.specs.Prelude.{◌≡◌, ◌≤◌, ℕ, List, [], ◌∷◌, codes, Bool, true, ◌&&◌, not}
use Rattle.std.specs.List.{list_any}
use Rattle.ir_event.specs.Modules.{Module}
use Rattle.patterns_laws.specs.Words.{named}
use Rattle.patterns_base.specs.declared.rule.Rule.{Rule}
use Rattle.patterns_base.specs.declared.rule.Rule.TheVariants.{OpenBranch, OpenLoop, StopLoop}
use Rattle.patterns_base.specs.Rules.{has_rule}
use Rattle.patterns_base.specs.Canonicalization.{End, canonicalization_of, ended}
use Rattle.patterns_refinement.specs.Meaning.{Assignment, Each}
use Rattle.patterns_refinement.specs.Keeping.{Computing, IsReady}
use Rattle.patterns_refinement.specs.Runs.{ComputesThrough}

-- the rules on loops and conditionals, which compute nothing in this model
abbrev pub opening_rules : List Rule
opening_rules = OpenBranch ∷ OpenLoop ∷ StopLoop ∷ []

-- the names of operations at which these rules don't apply and that aren't unrealized casts
abbrev pub is_plain : List ℕ → Bool
is_plain name = not (named (codes "builtin.unrealized_conversion_cast") name) && not (list_any (λ r. has_rule r name) opening_rules)

-- a module of such operations
abbrev pub IsPlain : Module → Type 0
IsPlain m = Each (λ h. is_plain h.name ≡ true) m.tree

-- canonicalization of such a module, up to a limit or to its end, keeps the module of this form and refines what it
-- computes
abbrev pub CanonicalizationKeeps : Type 0
CanonicalizationKeeps =
    (limit : ℕ) (m n : Module) (k : ℕ) (e : End) → IsReady m → IsPlain m → canonicalization_of limit m ≡ ended n k e
    → IsReady n × IsPlain n × (m.next ≤ n.next)
    × ((a : Assignment) (done : ℕ → Bool) → Computing a done m.tree → ComputesThrough a done m n)
