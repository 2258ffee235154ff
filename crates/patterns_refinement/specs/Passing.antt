-- Patterns that match no `select` and create no division or remainder. In a match of such a pattern, a poison value
-- makes the root poison, and the new operations are defined for poison operands. So if it refines at the kinds of the
-- match, it refines what a module computes, without a premise on the matched values.
use Rattle.std.specs.Prelude.{◌≡◌, ℕ, List, [], ◌∷◌, ◌++◌, map, Bool, true, ◌&&◌, Some}
use Rattle.ir_types.specs.declared.bits.BitsKind.{BitsKind}
use Rattle.ir_types.specs.declared.bits.BitsKind.TheVariants as kind
use Rattle.ir_types.specs.Bits.{width_of}
use Rattle.ir_types.specs.Reasons.{is_width}
use Rattle.ir_types.specs.Terms.{TypeTerm}
use Rattle.ir_tree.specs.declared.value.Value.{Value}
use Rattle.ir_event.specs.Modules.{Module}
use Rattle.dialects_int.specs.Folds.{same_kind}
use Rattle.patterns_base.specs.Looks.{is_verified}
use Rattle.patterns_base.specs.Rewrites.{becomes}
use Rattle.user_patterns_check.specs.declared.verdict.Verdict.TheVariants as verdict
use Rattle.user_patterns_check.specs.Checks.{AlwaysKeeps}
use Rattle.user_patterns_check.specs.Families.{AreWidths, IsVerdict}
use Rattle.user_patterns_data.specs.declared.pattern.Expression.{Expression}
use Rattle.user_patterns_data.specs.declared.pattern.Expression.TheVariants as form
use Rattle.user_patterns_data.specs.declared.pattern.NewValue.{NewValue}
use Rattle.user_patterns_data.specs.declared.pattern.NewValue.TheVariants as new
use Rattle.user_patterns_data.specs.Fitting.{content_at, content_with, fits, kind_at}
use Rattle.user_patterns_data.specs.Matching.{BoundValues}
use Rattle.user_patterns_data.specs.Planning.{bound_type, typed}
use Rattle.user_patterns_data.specs.Shapes.{PatternModel}
use Rattle.user_patterns_build.specs.CanBuild.{new_type}
use Rattle.user_patterns_apply.specs.Own.{user_pattern_rewrite}
use Rattle.patterns_refinement.specs.Meaning.{Assignment}
use Rattle.patterns_refinement.specs.Better.{narrows}
use Rattle.patterns_refinement.specs.Applied.{IsProper, kinds_matched, matched}
use Rattle.patterns_refinement.specs.Keeping.{Computing, Improves, IsReady, done_after}
pub use Rattle.user_patterns_widths.specs.Passing.{passes_poison, pattern_op_passes, is_always_defined, new_is_defined, is_passing}

-- ---- kinds

-- an operation has operands of the kinds that it needs, by the kinds of places, for a result of a kind
abbrev pub form_takes : List BitsKind → BitsKind → Expression → Bool
form_takes es k (form.Binary o i j) = same_kind (kind_at es i) k && same_kind (kind_at es j) k
form_takes es k (form.Compare q i j) = same_kind (kind_at es j) (kind_at es i) && same_kind (kind.Int 1) k
form_takes es k (form.Select c i j) = same_kind (kind_at es c) (kind.Int 1) && (same_kind (kind_at es i) k && same_kind (kind_at es j) k)
form_takes es k (form.IntegerCast c i) = narrows c (Some (kind_at es i)) k
form_takes es k (form.IndexCast c i) = narrows c (Some (kind_at es i)) k

-- a new value has a valid width too; the number of a constant has the kind of its type
abbrev pub new_takes : List BitsKind → List BitsKind → NewValue → Bool
new_takes ks es (new.Operation o) = is_width (width_of (kind_at ks o.ty)) && form_takes es (kind_at ks o.ty) o.form
new_takes ks es (new.Constant i t) = same_kind (kind_at es i) (kind_at ks t)

abbrev pub news_take : List BitsKind → List BitsKind → List NewValue → Bool
news_take ks es [] = true
news_take ks es (w ∷ ws) = new_takes ks es w && news_take ks (es ++ (kind_at ks (new_type w) ∷ [])) ws

-- all new values take operands of the kinds that they need, at these kinds of the pattern's types
abbrev pub is_kinded_at : List BitsKind → PatternModel → Bool
is_kinded_at ks p = news_take ks (kinds_matched ks p) p.new

-- ---- matches

module _ (p : PatternModel) (m : Module) (x : ℕ) where
  -- the pattern matches at operation x of a module, for all outcomes
  pub record FoundAt : Type 0 where
    pub here : BoundValues Value
    pub is_matched : matched m.tree (is_verified m.tree) p x ≡ Some here
    pub types : BoundValues TypeTerm
    pub are_types : typed m.tree (is_verified m.tree) m.next p here ≡ Some types

  -- the kinds of the types of the match
  abbrev pub kinds_there : FoundAt → List BitsKind
  kinds_there f = map bound_type f.types

  -- at these kinds the new values take their operands, and the pattern refines; there is at most one match at an
  -- operation
  abbrev pub KeepsAt : Type 0
  KeepsAt = (at : FoundAt) → (is_kinded_at (kinds_there at) p ≡ true) × AlwaysKeeps (content_with (kinds_there at) p)

  -- at these kinds the new values take their operands, and the pattern's instance is one at widths up to `most` (then
  -- types that the pattern uses have these widths; other types may have any)
  abbrev pub IsFoundWithin : ℕ → Type 0
  IsFoundWithin most =
      (at : FoundAt) → (is_kinded_at (kinds_there at) p ≡ true)
      × ((ws : List ℕ) × AreWidths p.types most ws × (content_with (kinds_there at) p ≡ content_at p ws))

-- module n is ready, and for all outcomes with which m computes, n computes a refinement, whether operation x is
-- executed or not
abbrev pub KeptAt : Module → Module → ℕ → Type 0
KeptAt m n x =
    IsReady n × ((a : Assignment) (done : ℕ → Bool) → Computing a done m.tree → Improves a done m (done_after m.next x done) n.tree)

-- ---- the laws

-- a pattern that applies has exactly one match there, and its types satisfy its constraints
abbrev pub AppliedIsFound : Type 0
AppliedIsFound =
    (p : PatternModel) (m n : Module) (x : ℕ) → user_pattern_rewrite p m x ≡ becomes n
    → (at : FoundAt p m x) × (fits (kinds_there p m x at) p ≡ true)
    × ((other : FoundAt p m x) → kinds_there p m x other ≡ kinds_there p m x at)

-- such a pattern that refines at the kinds of the match refines what a ready module computes
abbrev pub PassingKeep : Type 0
PassingKeep =
    (p : PatternModel) (m n : Module) (x : ℕ) → is_passing p ≡ true → IsProper p → IsReady m → user_pattern_rewrite p m x ≡ becomes n
    → KeepsAt p m x → KeptAt m n x

-- the same if a check found that the pattern holds up to a width, and the types of the match have widths up to it
abbrev pub CheckedPassingKeep : Type 0
CheckedPassingKeep =
    (p : PatternModel) (m n : Module) (x : ℕ) → is_passing p ≡ true → IsProper p → IsReady m → user_pattern_rewrite p m x ≡ becomes n
    → (most : ℕ) → IsVerdict (content_at p) p.types most verdict.Holds → IsFoundWithin p m x most → KeptAt m n x
