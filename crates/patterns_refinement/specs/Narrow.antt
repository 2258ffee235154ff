-- Modules whose arithmetic is narrow: each value that has a kind is an integer of at most as many bits as a check
-- tested. In such a module the check of a pattern that passes poison on is enough for refinement, without a premise
-- at an operation. The same holds for runs of such patterns and rules.
use Rattle.std.specs.Prelude.{◌≡◌, ◌≤◌, ℕ, List, map, eqb, nat_le, Bool, true, false, ◌&&◌, ◌||◌, Some}
use Rattle.std.specs.List.{list_any}
use Rattle.ir_types.specs.declared.bits.BitsKind.{BitsKind}
use Rattle.ir_types.specs.declared.bits.BitsKind.TheVariants as kind
use Rattle.ir_tree.specs.declared.value.Value.{Value}
use Rattle.ir_tree_laws.specs.Members.{In}
use Rattle.ir_event.specs.Modules.{Module}
use Rattle.patterns_base.specs.declared.rule.Rule.{Rule}
use Rattle.patterns_base.specs.Rewrites.{becomes, rewrite_of}
use Rattle.patterns_base.specs.Canonicalization.{End, canonicalization_of, ended}
use Rattle.user_patterns_check.specs.declared.verdict.Verdict.TheVariants as verdict
use Rattle.user_patterns_check.specs.Families.{AreWidths, IsVerdict}
use Rattle.user_patterns_data.specs.declared.pattern.PatternType.{PatternType}
use Rattle.user_patterns_data.specs.declared.pattern.PatternType.TheVariants as sort
use Rattle.user_patterns_data.specs.declared.pattern.PatternOp.{PatternOp}
use Rattle.user_patterns_data.specs.Fitting.{content_at, fits, kinds_with}
use Rattle.user_patterns_data.specs.Shapes.{PatternModel}
use Rattle.user_patterns_build.specs.Unified.{first_same}
use Rattle.user_patterns_build.specs.Unified as united
use Rattle.user_patterns_apply.specs.Own.{user_pattern_rewrite}
use Rattle.greedy.specs.Rewriting.{rewriting_of}
use Rattle.greedy.specs.PatternSet.{RuleOrPatternModel, OfUserPattern, OfRule, pattern_set_from}
use Rattle.patterns_refinement.specs.Better.{kind_in}
use Rattle.patterns_refinement.specs.Applied.{IsProper}
use Rattle.patterns_refinement.specs.Keeping.{IsReady}
use Rattle.patterns_refinement.specs.Runs.{kept_rules}
use Rattle.patterns_refinement.specs.Canonical.{IsPlain}
use Rattle.patterns_refinement.specs.RuleListRuns.{KeptThrough}
use Rattle.patterns_refinement.specs.Passing.{KeptAt, is_kinded_at, is_passing}
use Rattle.patterns_refinement.specs.UsedTypes.{uses_only}

-- ---- modules

abbrev pub is_narrow : ℕ → BitsKind → Bool
is_narrow most (kind.Int w) = nat_le 1 w && nat_le w most
is_narrow most kind.Index = false

-- the kinds of the module's values are of a set
abbrev pub HaveKinds : (BitsKind → Bool) → Module → Type 0
HaveKinds good m = (v : Value) (k : BitsKind) → kind_in m.tree v ≡ Some k → good k ≡ true

-- a module without `index` whose integers have at most `most` bits
abbrev pub IsNarrow : ℕ → Module → Type 0
IsNarrow most m = HaveKinds (is_narrow most) m

-- ---- patterns

module _ (most : ℕ) (p : PatternModel) where
  -- the type of a variable or of a matched operation
  abbrev pub is_visited : ℕ → Bool
  is_visited t = list_any (eqb t) p.values || list_any (eqb t) (map PatternOp.ty p.old)

  -- the type is concrete and narrow; or a match binds it, and it is the first type of its type variable
  abbrev pub is_settled_as : ℕ → PatternType → Bool
  is_settled_as t (sort.Concrete k) = is_narrow most k
  is_settled_as t (sort.Variable v) = is_visited t && eqb (first_same (sort.Variable v) p.value_types) t

  abbrev pub is_settled : ℕ → Bool
  is_settled t = is_settled_as t (united.kind_in p.value_types t)

  -- each type that the pattern uses is settled
  abbrev pub all_settled : Bool
  all_settled = uses_only is_settled p

  -- a pattern that passes poison on, that a check up to `most` bits found to hold, whose types are settled, and whose
  -- new operations take their operands at all widths up to `most` at which it may be applied
  pub record HoldsNarrow : Type 0 where
    pub proper : IsProper p
    pub passing : is_passing p ≡ true
    pub settled : all_settled ≡ true
    pub kinded : (ws : List ℕ) → AreWidths p.types most ws → fits (kinds_with ws p.value_types) p ≡ true → is_kinded_at (kinds_with ws p.value_types) p ≡ true
    pub some : 1 ≤ most
    pub holds : IsVerdict (content_at p) p.types most verdict.Holds

-- ---- the laws

-- such a pattern keeps narrow modules narrow, and refines what they compute
abbrev pub NarrowKeep : Type 0
NarrowKeep =
    (most : ℕ) (p : PatternModel) (m n : Module) (x : ℕ) → HoldsNarrow most p → IsReady m → IsNarrow most m
    → user_pattern_rewrite p m x ≡ becomes n → IsNarrow most n × KeptAt m n x

-- the listed rules do so too
abbrev pub NarrowRulesKeep : Type 0
NarrowRulesKeep =
    (most : ℕ) → 1 ≤ most → (r : Rule) → In r kept_rules → (m n : Module) (x : ℕ) → IsReady m → IsNarrow most m
    → rewrite_of r m x ≡ becomes n → IsNarrow most n

-- such a rule, or such a pattern
abbrev pub IsNarrowly : ℕ → RuleOrPatternModel → Type 0
IsNarrowly most (OfRule r) = In r kept_rules
IsNarrowly most (OfUserPattern p) = HoldsNarrow most p

-- rewriting by a list of them keeps narrow modules narrow, and refines what they compute, up to a limit or to its end
abbrev pub NarrowRewritingKeeps : Type 0
NarrowRewritingKeeps =
    (most : ℕ) → 1 ≤ most → (ts : List RuleOrPatternModel) → ((t : RuleOrPatternModel) → In t ts → IsNarrowly most t)
    → (limit : ℕ) (m n : Module) (k : ℕ) (e : End) → IsReady m → IsNarrow most m
    → rewriting_of (pattern_set_from ts) limit m ≡ ended n k e → IsNarrow most n × KeptThrough m n

-- canonicalization keeps a narrow module narrow, if it has no unrealized casts, and no loops and conditionals of
-- `scf`
abbrev pub NarrowCanonicalizationKeeps : Type 0
NarrowCanonicalizationKeeps =
    (most : ℕ) → 1 ≤ most → (limit : ℕ) (m n : Module) (k : ℕ) (e : End) → IsReady m → IsPlain m → IsNarrow most m
    → canonicalization_of limit m ≡ ended n k e → IsNarrow most n
