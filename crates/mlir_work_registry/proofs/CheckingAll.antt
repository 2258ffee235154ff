-- Checks of all patterns, recorded at the end, are checks that are recorded one after the other.
use Rattle.std.proofs.Common.{◌≡◌, ◌∙◌, ℕ, ◌<◌, arith, length, Bool, true, false, cond, List, [], ◌∷◌, ◌++◌, append-nil, map, Option, Some, None, option_map, is_some, if◌then◌else◌, true≢false, ◌⊎◌, refl, sym, ap, subst, inl, inr}
use Rattle.std.specs.Prelude.{codes}
use Rattle.std.specs.Str.{bytes_eq}
use Rattle.ir_event.specs.types.declared.refusal.Refusal.{Refusal}
use Rattle.ir_event.specs.types.declared.refusal.Refusal.TheVariants.{BadLimit, Memory}
use Rattle.rewriter_machine.specs.Commands.{Replied, TextRefusedAt}
use Rattle.rewriter_machine.specs.Machine.{Refused}
use Rattle.mlir_work_script.specs.RegistryCommands.{Check, CheckAll}
use Rattle.user_patterns_widths.specs.Passing.{is_passing}
use Rattle.user_patterns_registry.specs.CheckResult.{IsCheckResult}
use Rattle.user_patterns_registry.specs.Registry.{Kept, RegistryModel, found, is_named, kept_views, noted, noted_one, with_said}
use Rattle.user_patterns_registry.specs.declared.registry.RegisteredPattern.{RegisteredPattern}
use Rattle.user_patterns_registry.specs.declared.check_result.CheckResult.{CheckResult}
use Rattle.user_patterns_registry.specs.declared.check_result.CheckResult.TheVariants as judgement
use Rattle.user_patterns_registry.specs.declared.check_result.CheckSummary.{CheckSummary}
use Rattle.user_patterns_registry.specs.declared.check_result.CheckSummary.TheVariants as said
use Rattle.mlir_work_registry.specs.CheckedRows.{first_failure}
use Rattle.mlir_work_registry.specs.Notices.{IsWithin, Notice, Simple, Checked}
use Rattle.mlir_work_registry.specs.Registries.{Checks, ChecksAll, ChecksEach, ChecksFirst, IsChecked, IsRefused, Registries, judgement_rows, said_for}
use Rattle.mlir_work_registry.specs.Verdicts.{AreVerdicts, IsSaidOf, IsVerdict, Verdict, all_noted, failure_of, notice_or, verdict_view, verdicts_notice, verdicts_text}

-- ---- a pattern with another note

abbrev re_said : Kept → Option CheckSummary → Kept
re_said k s = record { name = k.name; text = k.text; variables = k.variables; rewrite_pattern = k.rewrite_pattern; said = s }

said_still : (k : Kept) (s : Option CheckSummary) (j : CheckResult) → said_for k j ≡ said_for (re_said k s) j
said_still k s (judgement.Holds w) = refl
said_still k s judgement.AllWidths = refl
said_still k s (judgement.Vacuous w) = refl
said_still k s (judgement.Fails c) = refl
said_still k s (judgement.Refuted w r) = refl
said_still k s (judgement.Sampled w) = refl

rows_still : (k : Kept) (s : Option CheckSummary) (j : CheckResult) → judgement_rows k j ≡ judgement_rows (re_said k s) j
rows_still k s (judgement.Holds w) = refl
rows_still k s judgement.AllWidths = refl
rows_still k s (judgement.Vacuous w) = refl
rows_still k s (judgement.Fails c) = refl
rows_still k s (judgement.Refuted w r) = refl
rows_still k s (judgement.Sampled w) = refl

checked_still : (k : Kept) (s : Option CheckSummary) (reported : CheckSummary) (rows : List ℕ) → IsChecked k None reported rows → IsChecked (re_said k s) None reported rows
checked_still k s reported rows h = (h.0, h.1, h.2 ∙ said_still k s h.0, h.3 ∙ rows_still k s h.0)

-- ---- lookups after notes

named_by : (n name : List ℕ) (reported : CheckSummary) (k : Kept) (b : Bool) → is_named name k ≡ b → is_named n (noted_one name reported k) ≡ is_named n k
named_by n name reported k true e = ap (λ (b : Bool). is_named n (if b then with_said reported k else k)) e
named_by n name reported k false e = ap (λ (b : Bool). is_named n (if b then with_said reported k else k)) e

if_by : (n name : List ℕ) (reported : CheckSummary) (k : Kept) (more : Option Kept) (b : Bool) → (if b then Some (noted_one name reported k) else option_map (noted_one name reported) more) ≡ option_map (noted_one name reported) (if b then Some k else more)
if_by n name reported k more true = refl
if_by n name reported k more false = refl

found_noted : (n name : List ℕ) (reported : CheckSummary) (ks : RegistryModel) → found n (noted name reported ks) ≡ option_map (noted_one name reported) (found n ks)
unfolding found
found_noted n name reported [] = refl
found_noted n name reported (k ∷ ks) =
    ap (λ (b : Bool). if b then Some (noted_one name reported k) else found n (noted name reported ks)) (named_by n name reported k (is_named name k) refl)
    ∙ ap (λ (o : Option Kept). if is_named n k then Some (noted_one name reported k) else o) (found_noted n name reported ks)
    ∙ if_by n name reported k (found n ks) (is_named n k)

-- each pattern of a registry is found in another one, maybe with another note
abbrev IsNotedFrom : RegistryModel → RegistryModel → Type 0
IsNotedFrom b c = (n : List ℕ) (k : Kept) → found n b ≡ Some k → (s : Option CheckSummary) × (found n c ≡ Some (re_said k s))

starts : (b : RegistryModel) → IsNotedFrom b b
starts b n k e = (k.said, e)

one_noted : (name : List ℕ) (reported : CheckSummary) (k : Kept) (s : Option CheckSummary) (b : Bool) → is_named name k ≡ b → (t : Option CheckSummary) × (noted_one name reported (re_said k s) ≡ re_said k t)
one_noted name reported k s true e = (Some reported, ap (λ (b : Bool). if b then with_said reported (re_said k s) else re_said k s) e)
one_noted name reported k s false e = (s, ap (λ (b : Bool). if b then with_said reported (re_said k s) else re_said k s) e)

notes : (b c : RegistryModel) (name : List ℕ) (reported : CheckSummary) → IsNotedFrom b c → IsNotedFrom b (noted name reported c)
notes b c name reported h n k e =
    let s = h n k e in
    let t = one_noted name reported k s.0 (is_named name k) refl in
    (t.0, found_noted n name reported c ∙ ap (option_map (noted_one name reported)) s.1 ∙ ap Some t.1)

-- ---- the checks one after the other

notice_first : (reported : CheckSummary) (others : Notice) → notice_or (failure_of (Some reported)) others ≡ first_failure (Checked reported) others
notice_first (said.Holds w) others = refl
notice_first said.AllWidths others = refl
notice_first (said.Vacuous w) others = refl
notice_first (said.Fails w) others = refl
notice_first (said.Sampled w) others = refl

abbrev verdict : List ℕ → Option CheckSummary → List ℕ → Verdict
verdict name reported rows = record { name = name; said = reported; rows = rows }

module _ (b : RegistryModel) where
  abbrev Goes : List Kept → List Verdict → Type 0
  Goes ks vs = (c : RegistryModel) → IsNotedFrom b c → ChecksEach ks c (verdicts_notice vs) (verdicts_text vs) (all_noted vs c)

  first : (ks : List Kept) (vs : List Verdict) → Goes ks vs → (name : List ℕ) (reported : Option CheckSummary) (rows : List ℕ) (k : Kept) → found name b ≡ Some k → IsSaidOf k reported rows → (c : RegistryModel) → IsNotedFrom b c
      → ChecksFirst (ChecksEach ks) name c (verdicts_notice (verdict name reported rows ∷ vs)) (verdicts_text (verdict name reported rows ∷ vs)) (all_noted (verdict name reported rows ∷ vs) c)
  first ks vs go name (Some reported) rows k e h c from =
      let s = from name k e in
      record {
        one = Checked reported;
        rows = rows;
        mid = noted name reported c;
        others = verdicts_notice vs;
        more = verdicts_text vs;
        first = subst (λ (o : Option Kept). Checks o name None c (Checked reported) rows (noted name reported c)) (sym s.1) (inl (reported, checked_still k s.0 reported rows h, refl, refl));
        goes_on = go (noted name reported c) (notes b c name reported from);
        notice_is = notice_first reported (verdicts_notice vs);
        bytes_are = refl;
      }
  first ks vs go name None rows k e h c from =
      let s = from name k e in
      record {
        one = Simple (Replied (Refused BadLimit));
        rows = rows;
        mid = c;
        others = verdicts_notice vs;
        more = verdicts_text vs;
        first = subst (λ (o : Option Kept). Checks o name None c (Simple (Replied (Refused BadLimit))) rows c) (sym s.1) (inr (h.0, (refl, h.1, refl)));
        goes_on = go c from;
        notice_is = refl;
        bytes_are = refl;
      }

  each : (ks : List Kept) (vs : List Verdict) → AreVerdicts b ks vs → Goes ks vs
  each [] [] h c from = (refl, refl, refl)
  each [] (v ∷ vs) h c from = absurd h
  each (k ∷ ks) [] h c from = absurd h
  each (k ∷ ks) (v ∷ vs) h c from =
      let is = h.0 in
      subst (λ (n : List ℕ). ChecksFirst (ChecksEach ks) n c (verdicts_notice (v ∷ vs)) (verdicts_text (v ∷ vs)) (all_noted (v ∷ vs) c)) is.0
      (first ks vs (each ks vs h.1) v.name v.said v.rows is.1 (ap (λ (n : List ℕ). found n b) is.0 ∙ is.2) is.3 c from)

pub checks_each : (b : RegistryModel) (vs : List Verdict) → AreVerdicts b b vs → ChecksEach b b (verdicts_notice vs) (verdicts_text vs) (all_noted vs b)
checks_each b vs h = each b b vs h b (starts b)

-- ---- the answer has no byte offset

never_or : (o : Option CheckSummary) (others : Notice) (refusal : Refusal) (offset : ℕ) → (others ≡ Simple (TextRefusedAt refusal offset) → ⊥) → notice_or o others ≡ Simple (TextRefusedAt refusal offset) → ⊥
never_or (Some reported) others refusal offset h e = absurd cc
never_or None others refusal offset h e = h e

never_at : (vs : List Verdict) (refusal : Refusal) (offset : ℕ) → verdicts_notice vs ≡ Simple (TextRefusedAt refusal offset) → ⊥
never_at [] refusal offset e = absurd cc
never_at (v ∷ vs) refusal offset e = never_or (failure_of v.said) (verdicts_notice vs) refusal offset (never_at vs refusal offset) e

pub within_all : (bytes : ℕ) (vs : List Verdict) (notice : Notice) → notice ≡ verdicts_notice vs → IsWithin bytes notice
within_all bytes vs notice is refusal offset e = absurd (never_at vs refusal offset (sym is ∙ e))

-- ---- `check all`

alone_of : (o : Option Kept) (b c : RegistryModel) (notice : Notice) (bytes : List ℕ) → is_some o ≡ true → Checks o (codes "all") None b notice bytes c → ChecksAll o b notice bytes c
alone_of None b c notice bytes e h = absurd (true≢false (sym e))
alone_of (Some k) b c notice bytes e h = h

pub all_alone : (b c : RegistryModel) (notice : Notice) (bytes : List ℕ) → is_some (found (codes "all") b) ≡ true → Registries (Check (codes "all") None) b notice bytes c → Registries CheckAll b notice bytes c
all_alone b c notice bytes e (inl h) = inl h
all_alone b c notice bytes e (inr h) = inr (alone_of (found (codes "all") b) b c notice bytes e h)

each_of : (o : Option Kept) (b c : RegistryModel) (notice : Notice) (bytes : List ℕ) → is_some o ≡ false → ChecksEach b b notice bytes c → ChecksAll o b notice bytes c
each_of None b c notice bytes e h = h
each_of (Some k) b c notice bytes e h = absurd (true≢false e)

pub all_each : (b c : RegistryModel) (notice : Notice) (bytes : List ℕ) → is_some (found (codes "all") b) ≡ false → IsRefused Memory b notice bytes c ⊎ ChecksEach b b notice bytes c → Registries CheckAll b notice bytes c
all_each b c notice bytes e (inl h) = inl h
all_each b c notice bytes e (inr h) = inr (each_of (found (codes "all") b) b c notice bytes e h)

-- ---- the answer to all checks

pub checks_as : (b c : RegistryModel) (notice : Notice) (bytes : List ℕ) (vs : List Verdict) → AreVerdicts b b vs → notice ≡ verdicts_notice vs → bytes ≡ verdicts_text vs → c ≡ all_noted vs b → ChecksEach b b notice bytes c
checks_as b c notice bytes vs h is reported noted = rw (is, reported, noted) (checks_each b vs h)

-- no pattern is left
pub checked_none : (b : RegistryModel) (hs : List RegisteredPattern) → length hs < 1 → AreVerdicts b (kept_views hs) []
checked_none b [] l = tt
checked_none b (h ∷ hs) l = absurd (omega (arith, l))
