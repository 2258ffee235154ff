-- Patterns that hold at all widths for all outcomes of their variables, poison included (`HoldsAtAllWidths` of
-- `user_patterns_claims`). Such a pattern refines what a module computes, also if it matches a `select`, creates a
-- division, or a value is poison.
use Rattle.std.specs.Prelude.{◌≡◌, ◌⊎◌, ℕ, ◌+◌, List, [], ◌∷◌, length, map, Bool, true, false, not, ◌&&◌, ◌||◌, eqb, nat_lt}
use Rattle.std.specs.List.{list_all, list_any}
use Rattle.ir_types.specs.declared.bits.BitsKind.{BitsKind}
use Rattle.ir_types.specs.Bits.{width_of}
use Rattle.ir_types.specs.Reasons.{is_width}
use Rattle.ir_tree_laws.specs.Members.{In}
use Rattle.ir_event.specs.Modules.{Module}
use Rattle.patterns_base.specs.declared.rule.Rule.{Rule}
use Rattle.patterns_base.specs.Rewrites.{Rewrite, becomes, rewrite_of}
use Rattle.patterns_base.specs.Canonicalization.{End, canonicalization_of, ended}
use Rattle.user_patterns_check.specs.Outcomes.{Outcome}
use Rattle.user_patterns_data.specs.declared.pattern.ExtraConstant.{ExtraConstant}
use Rattle.user_patterns_data.specs.declared.pattern.ExtraConstant.TheVariants as extra
use Rattle.user_patterns_data.specs.declared.pattern.PatternType.{PatternType}
use Rattle.user_patterns_data.specs.declared.pattern.PatternType.TheVariants as sort
use Rattle.user_patterns_data.specs.declared.pattern.PatternOp.{PatternOp}
use Rattle.user_patterns_data.specs.Fitting.{content_with}
use Rattle.user_patterns_data.specs.Shapes.{PatternModel}
use Rattle.user_patterns_data.specs.WellFormed.{is_well_formed}
use Rattle.user_patterns_build.specs.CanBuild.{can_build, new_type}
use Rattle.user_patterns_build.specs.Unified.{kind_in}
use Rattle.user_patterns_widths.specs.AllWidths.{holds_at_all_widths}
use Rattle.user_patterns_widths.specs.Lasting.{RefinesAtAllWidths}
use Rattle.user_patterns_claims.specs.Outcomes.{AreOutcomes, HoldsAtAllWidths, keeps_outcomes}
use Rattle.user_patterns_apply.specs.Own.{user_pattern_rewrite}
use Rattle.greedy.specs.Rewriting.{rewriting_of}
use Rattle.greedy.specs.PatternSet.{RuleOrPatternModel, OfUserPattern, OfRule, pattern_set_from}
use Rattle.patterns_refinement.specs.Applied.{IsProper, all_named}
use Rattle.user_patterns_claims.specs.Quotients.{is_without_quotients}
use Rattle.patterns_refinement.specs.Keeping.{IsReady}
use Rattle.patterns_refinement.specs.Runs.{kept_rules}
use Rattle.patterns_refinement.specs.Canonical.{IsPlain}
use Rattle.patterns_refinement.specs.Passing.{FoundAt, KeptAt, is_kinded_at, kinds_there}
use Rattle.patterns_refinement.specs.Refining.{IsRefinedBy}
use Rattle.patterns_refinement.specs.UsedTypes.{uses_only}
use Rattle.patterns_refinement.specs.Narrow.{HaveKinds}
use Rattle.patterns_refinement.specs.ByForm.{is_kinded_by_form}

-- ---- at one match

-- the new side refines the old side for all outcomes of the variables, at these kinds
abbrev pub KeepsForOutcomes : PatternModel → List BitsKind → Type 0
KeepsForOutcomes p ks = (os : List Outcome) → AreOutcomes p ks 0 p.values os → keeps_outcomes (content_with ks p) os ≡ true

-- at the kinds of the match the new values take their operands, and the pattern refines for all outcomes
abbrev pub KeepsOutcomesAt : PatternModel → Module → ℕ → Type 0
KeepsOutcomesAt p m x = (at : FoundAt p m x) → (is_kinded_at (kinds_there p m x at) p ≡ true) × KeepsForOutcomes p (kinds_there p m x at)

-- a pattern that creates no signed division, and refines for all outcomes at the kinds of the match, refines what a
-- ready module computes
abbrev pub OutcomesKeepThere : Type 0
OutcomesKeepThere =
    (p : PatternModel) (m n : Module) (x : ℕ) → is_without_quotients p ≡ true → IsProper p → IsReady m → user_pattern_rewrite p m x ≡ becomes n
    → KeepsOutcomesAt p m x → KeptAt m n x

-- ---- modules

-- Each integer of the module has 1 to 128 bits. A context refuses other integer types.
abbrev pub IsInRange : Module → Type 0
IsInRange m = HaveKinds (λ k. is_width (width_of k)) m

-- ---- patterns

-- the types of a pattern by number: types with one type variable but two numbers count as different
abbrev pub numbered_type : ℕ → PatternType → PatternType
numbered_type i (sort.Concrete k) = sort.Concrete k
numbered_type i (sort.Variable v) = sort.Variable i

abbrev pub numbered_types : ℕ → List PatternType → List PatternType
numbered_types i [] = []
numbered_types i (s ∷ ss) = numbered_type i s ∷ numbered_types (i + 1) ss

abbrev pub numbered : PatternModel → PatternModel
numbered p = record p { types = length p.value_types; value_types = numbered_types 0 p.value_types }

-- a concrete type has 1 to 128 bits
abbrev pub has_width : PatternType → Bool
has_width (sort.Concrete k) = is_width (width_of k)
has_width (sort.Variable v) = true

-- each concrete type has 1 to 128 bits, or the pattern has a variable of another type, so it matches nothing
abbrev pub has_widths : PatternModel → Bool
has_widths p = list_all has_width p.value_types || list_any (λ t. not (has_width (kind_in p.value_types t))) p.values

abbrev pub is_concrete : PatternType → Bool
is_concrete (sort.Concrete k) = true
is_concrete (sort.Variable v) = false

-- the type is that of a literal on the left
abbrev pub is_literal_type : ℕ → ExtraConstant → Bool
is_literal_type t (extra.Literal l) = eqb t l.ty
is_literal_type t (extra.SameAs i) = false

-- a type of the pattern that is concrete, or that a literal, a variable, a matched operation or a new value has
abbrev pub is_had : PatternModel → ℕ → Bool
is_had p t =
    nat_lt t (length p.value_types)
    && (is_concrete (kind_in p.value_types t)
    || (list_any (is_literal_type t) p.extra || (list_any (eqb t) p.values || (list_any (eqb t) (map PatternOp.ty p.old) || list_any (eqb t) (map new_type p.new)))))

-- Tests of a pattern's form. Its matched operations have names, and it creates no signed division, which may be
-- undefined for poison by -1. Its concrete types are valid, it asks and uses widths only of types that it has, and its
-- new operations take operands of the types that they need. Each pattern that a text defines passes all tests but the
-- one on signed divisions.
abbrev pub is_sound_form : PatternModel → Bool
is_sound_form p =
    all_named p && (is_without_quotients p && (has_widths p && (uses_only (is_had p) p && is_kinded_by_form (numbered p))))

-- a pattern whose sides are one polynomial or are computed bit by bit, and that refines for all values at all widths
pub record HoldsByForm (p : PatternModel) : Type 0 where
  pub proper : IsProper p
  pub for_all_widths : holds_at_all_widths p ≡ true
  pub refines : RefinesAtAllWidths p

-- a pattern that holds at all widths for all outcomes
pub record HoldsForOutcomes (p : PatternModel) : Type 0 where
  pub wellformed : is_well_formed p ≡ true
  pub buildable : can_build p ≡ true
  pub form : is_sound_form p ≡ true
  pub holds : HoldsAtAllWidths p

-- ---- the laws

-- such a pattern keeps widths in range, and refines what a ready module computes
abbrev pub OutcomesKeep : Type 0
OutcomesKeep =
    (p : PatternModel) (m n : Module) (x : ℕ) → HoldsForOutcomes p → IsReady m → IsInRange m → user_pattern_rewrite p m x ≡ becomes n
    → IsInRange n × KeptAt m n x

-- the listed rules keep widths in range too
abbrev pub RulesStayInRange : Type 0
RulesStayInRange = (r : Rule) → In r kept_rules → (m n : Module) (x : ℕ) → IsReady m → IsInRange m → rewrite_of r m x ≡ becomes n → IsInRange n

-- and so do patterns that hold by the form of both sides
abbrev pub PatternsStayInRange : Type 0
PatternsStayInRange =
    (p : PatternModel) (m n : Module) (x : ℕ) → HoldsByForm p → IsReady m → IsInRange m → user_pattern_rewrite p m x ≡ becomes n → IsInRange n

-- a listed rule, or a pattern that holds at all widths by its form or for all outcomes
abbrev pub IsProved : RuleOrPatternModel → Type 0
IsProved (OfRule r) = In r kept_rules
IsProved (OfUserPattern p) = HoldsByForm p ⊎ HoldsForOutcomes p

-- the rewrite that `apply` makes at an operation
abbrev pub applied : RuleOrPatternModel → Module → ℕ → Rewrite
applied (OfRule r) m x = rewrite_of r m x
applied (OfUserPattern p) m x = user_pattern_rewrite p m x

-- `apply` of one of them keeps widths in range, and the module after it refines the module before, as an observer sees
-- it
abbrev pub ProvedApplyRefines : Type 0
ProvedApplyRefines =
    (t : RuleOrPatternModel) → IsProved t → (m n : Module) (x : ℕ) → IsReady m → IsInRange m → applied t m x ≡ becomes n
    → IsReady n × IsInRange n × IsRefinedBy m n

-- `rewrite` by a list of them, up to a limit or to its end
abbrev pub ProvedRewriteRefines : Type 0
ProvedRewriteRefines =
    (ts : List RuleOrPatternModel) → ((t : RuleOrPatternModel) → In t ts → IsProved t) → (limit : ℕ) (m n : Module) (k : ℕ) (e : End)
    → IsReady m → IsInRange m → rewriting_of (pattern_set_from ts) limit m ≡ ended n k e
    → IsReady n × IsInRange n × IsRefinedBy m n

-- canonicalization keeps widths in range, if the module has no unrealized casts, and no loops and conditionals of
-- `scf`
abbrev pub CanonStaysInRange : Type 0
CanonStaysInRange =
    (limit : ℕ) (m n : Module) (k : ℕ) (e : End) → IsReady m → IsPlain m → IsInRange m
    → canonicalization_of limit m ≡ ended n k e → IsInRange n
