-- The module after a user pattern is applied, if the root's outcome is known.
use Rattle.std.specs.Prelude.{◌≡◌, ℕ, List, Bool, true, Some}
use Rattle.ir_types.specs.Words.{is_isolated}
use Rattle.ir_tree.specs.declared.value.Value.TheVariants.{Result}
use Rattle.ir_tree.specs.WellFormed.{IsWellFormed}
use Rattle.ir_event.specs.Modules.{Module}
use Rattle.dialects_int.specs.Folds.{Known}
use Rattle.patterns_base.specs.Looks.{is_verified}
use Rattle.patterns_base.specs.Rewrites.{becomes}
use Rattle.user_patterns_check.specs.declared.verdict.Verdict.TheVariants as verdict
use Rattle.user_patterns_check.specs.Checks.{AlwaysKeeps}
use Rattle.user_patterns_check.specs.Families.{AreWidths, IsVerdict}
use Rattle.user_patterns_data.specs.Fitting.{content_at, content_with}
use Rattle.user_patterns_data.specs.Shapes.{PatternModel}
use Rattle.user_patterns_apply.specs.Own.{user_pattern_rewrite}
use Rattle.patterns_refinement.specs.Meaning.{AreOfTypes, Assignment, FitsAll}
use Rattle.patterns_refinement.specs.Observing.{Shows}
use Rattle.patterns_refinement.specs.After.{or_new}
use Rattle.patterns_refinement.specs.Applied.{Agree, IsFound, IsProper, is_typed, kinds_found}

module _ (p : PatternModel) (m : Module) (x : ℕ) (a : Assignment) (done : ℕ → Bool) where
  -- the pattern matches in the module
  abbrev pub IsFoundIn : Type 0
  IsFoundIn = IsFound m.tree (is_verified m.tree) m.next p x a done

  -- the pattern refines at the kinds of the match
  abbrev pub KeepsThere : IsFoundIn → Type 0
  KeepsThere found =
      (is_typed (kinds_found m.tree (is_verified m.tree) m.next p x a done found) p ≡ true)
      × AlwaysKeeps (content_with (kinds_found m.tree (is_verified m.tree) m.next p x a done found) p)

-- there are outcomes that agree with the earlier ones, are of their types, and fit all executed and all new
-- operations; and the tree shows what the module showed
abbrev pub ComputesOn : Assignment → (ℕ → Bool) → Module → Module → Type 0
ComputesOn a done m n = (now : Assignment) × Agree m.next a now × FitsAll now (or_new m.next done) n.tree × AreOfTypes now n.tree × Shows a now m (or_new m.next done) n.tree

-- a well-formed module after a rewrite by a pattern that refines computes what the module computed, if the root's
-- outcome is known
abbrev pub RewritesCompute : Type 0
RewritesCompute =
    (p : PatternModel) (m n : Module) (x : ℕ) (a : Assignment) (done : ℕ → Bool) (k : Known)
    → IsWellFormed is_isolated m → IsProper p → FitsAll a done m.tree → AreOfTypes a m.tree
    → (found : IsFoundIn p m x a done) → KeepsThere p m x a done found
    → a (Result x 0) ≡ Some k → user_pattern_rewrite p m x ≡ becomes n → ComputesOn a done m n

-- the pattern refines at the kinds of the match, if a check found that it holds up to a width and its instance at
-- these kinds is one at tested widths
abbrev pub CheckedKeepsThere : Type 0
CheckedKeepsThere =
    (p : PatternModel) (m : Module) (x : ℕ) (a : Assignment) (done : ℕ → Bool) (found : IsFoundIn p m x a done)
    → is_typed (kinds_found m.tree (is_verified m.tree) m.next p x a done found) p ≡ true
    → (most : ℕ) → IsVerdict (content_at p) p.types most verdict.Holds
    → (ws : List ℕ) → AreWidths p.types most ws → content_with (kinds_found m.tree (is_verified m.tree) m.next p x a done found) p ≡ content_at p ws
    → KeepsThere p m x a done found
