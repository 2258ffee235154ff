-- The notes of a registry that changes of a session made are true, so the laws of proved patterns cover its patterns.
use Rattle.std.proofs.Common.{◌≡◌, ◌∙◌, ℕ, zero, suc, Bool, true, true≢false, false, ◌&&◌, cond, not, if◌then◌else◌, List, [], ◌∷◌, ◌++◌, Option, Some, None, Ok, Err, refl, sym, ap, subst, inl, inr, ◌⊎◌}
use Rattle.std.specs.Prelude.{slice_set}
use Rattle.std.specs.List.{AllByRecursion}
use Rattle.std.proofs.lemmas.Bool.{and_from}
use Rattle.std.proofs.lemmas.List.Elements.{recursion_from_All}
use Rattle.std.proofs.lemmas.Option.{none-some, same_Some}
use Rattle.std.proofs.lemmas.Slice.Eq.{bytes_eq-Decides}
use Rattle.user_patterns_data.specs.Shapes.{PatternModel}
use Rattle.user_patterns_build.specs.Unified.{ready}
use Rattle.user_patterns_sema.specs.Sema.{wellformed}
use Rattle.user_patterns_text.specs.Parts as parts
use Rattle.user_patterns_text.specs.Refusing.{Outcome, ◌>>=◌, begins}
use Rattle.user_patterns_text.specs.Rendered.{whole_at}
use Rattle.user_patterns_widths.specs.AllWidths.{holds_at_all_widths}
use Rattle.user_patterns_widths.specs.Lasting.{PolynomialsKeep}
use Rattle.user_patterns_claims.specs.Outcomes.{HoldsAtAllWidths}
use Rattle.user_patterns_registry.specs.Changes.{Changes, ChangesTo, Defines, IsFoundToHold, IsReached, Records, Removes, Replaces}
use Rattle.user_patterns_registry.specs.declared.check_result.CheckSummary.{CheckSummary}
use Rattle.user_patterns_registry.specs.declared.check_result.CheckSummary.TheVariants as summary
use Rattle.user_patterns_registry.specs.Registry.{AreApart, ForgettingKeepsARegistry, IsReady, IsRegistry, Kept, NotingKeepsARegistry, RegistryModel, ReplacingKeepsARegistry, StaysARegistry, added, and_kept, defined, forgotten, found, headroom_for, is_named, kept_as, kept_of, made_ready, noted, noted_one, model_of_parts, variables_of, with_said}
use Rattle.greedy.specs.PatternSet.{RuleOrPatternModel, OfUserPattern, OfRule}
use Rattle.patterns_refinement.specs.Applied.{all_named}
use Rattle.user_patterns_claims.specs.Quotients.{is_without_quotients}
use Rattle.patterns_refinement.specs.UsedTypes.{uses_only}
use Rattle.patterns_refinement.specs.ByForm.{is_kinded_by_form}
use Rattle.patterns_refinement.specs.ForOutcomes.{HoldsByForm, HoldsForOutcomes, ProvedApplyRefines, ProvedRewriteRefines, has_widths, is_had, numbered}
use Rattle.patterns_refinement.specs.ForOutcomesSamples.{PoisonRefutes}
use Rattle.patterns_refinement.specs.CanonLists.{CanonListsRefine, IsNotedOrCanonical, IsProvedOrCanonical, NotedCanonListsRefine}
use Rattle.patterns_refinement.specs.Noted.{FormsAreSound, IsTrulyNoted, NotedApplyRefines, NotedAreProved, NotedRewriteRefines, NotesAreTrue, WrongIsNeverNoted}
use Rattle.patterns_refinement.proofs.SoundForms.{SoundTypes, ready_sound}
use Rattle.patterns_refinement.proofs.StrictLaws.{registered_proper}

-- ---- the patterns of a registry
-- the note `holds` is true, and the pattern's names and types pass the tests of the laws
abbrev IsTrue : Kept → Type 0
IsTrue k = (k.said ≡ Some summary.AllWidths → IsFoundToHold k) × SoundTypes k.rewrite_pattern

abbrev AllTrue : RegistryModel → Type 0
AllTrue ks = AllByRecursion IsTrue ks

found_is : (P : Kept → Type 0) (ks : RegistryModel) → AllByRecursion P ks → (name : List ℕ) (k : Kept) → found name ks ≡ Some k → P k
unfolding found
found_is P [] all name k e = absurd (none-some k e)
found_is P (j ∷ ks) all name k e = go (λ e. found_is P ks all.1 name k e) (is_named name j) e
  where
    go : (found name ks ≡ Some k → P k) → (b : Bool) → (if b then Some j else found name ks) ≡ Some k → P k
    go more true e = subst P (same_Some _ _ e) all.0
    go more false e = more e

-- ---- a definition
bound_ok : {A B : Type 0} (o : Outcome A) (f : A → Outcome B) (y : B) → (o >>= f) ≡ Ok y → (x : A) × (o ≡ Ok x) × (f x ≡ Ok y)
bound_ok (Ok x) f y h = (x, refl, h)
bound_ok (Err e) f y h = absurd cc

ok_same : {X : Type 0} (x y : X) (o p : Outcome X) → o ≡ Ok x → p ≡ Ok y → o ≡ p → x ≡ y
ok_same x y o p e f h = cc

record Fresh (b new : RegistryModel) : Type 0 where
  pub last : Kept
  pub is : b ++ (last ∷ []) ≡ new
  pub unsaid : last.said ≡ None
  pub sound : SoundTypes last.rewrite_pattern

-- the entry of a parsed pattern has no summary
kept_unsaid : (p : parts.Pattern) (k : Kept) → kept_of p ≡ Ok k → k.said ≡ None
unfolding kept_of
kept_unsaid p k h =
    let vs = bound_ok (variables_of p) (λ vs. model_of_parts p >>= λ t. Ok (kept_as p vs t)) k h in
    let t = bound_ok (model_of_parts p) (λ t. Ok (kept_as p vs.0 t)) k vs.2 in
    sym (ap (λ (k : Kept). k.said) (ok_same (kept_as p vs.0 t.0) k (Ok (kept_as p vs.0 t.0)) (Ok k) refl refl t.2))

-- its pattern is that of a text, with one number for equal types
made_ready_is : (o : Option PatternModel) (q : PatternModel) → made_ready o ≡ Ok q → o ≡ Some q
made_ready_is None q h = absurd cc
made_ready_is (Some s) q h = ap (λ z. Some z) (ok_same s q (Ok s) (Ok q) refl refl h)

model_sound : (p : parts.Pattern) (q : PatternModel) → model_of_parts p ≡ Ok q → SoundTypes q
unfolding model_of_parts
model_sound p q h =
    let s = bound_ok (wellformed p) (λ s. made_ready (ready s)) q h in
    ready_sound p s.0 q s.1 (made_ready_is (ready s.0) q s.2)

kept_sound : (p : parts.Pattern) (k : Kept) → kept_of p ≡ Ok k → SoundTypes k.rewrite_pattern
unfolding kept_of
kept_sound p k h =
    let vs = bound_ok (variables_of p) (λ vs. model_of_parts p >>= λ t. Ok (kept_as p vs t)) k h in
    let t = bound_ok (model_of_parts p) (λ t. Ok (kept_as p vs.0 t)) k vs.2 in
    subst (λ (k : Kept). SoundTypes k.rewrite_pattern) (ok_same (kept_as p vs.0 t.0) k (Ok (kept_as p vs.0 t.0)) (Ok k) refl refl t.2) (model_sound p t.0 t.1)

defined_fresh : (b new : RegistryModel) (text : List ℕ) → defined b text ≡ Ok new → Fresh b new
unfolding defined
defined_fresh b new text h =
    let p = bound_ok (whole_at text) (λ p. headroom_for p.name (begins text) b >>= λ _. added b p) new h in
    let r = bound_ok (headroom_for p.0.name (begins text) b) (λ _. added b p.0) new p.2 in
    let k = bound_ok (kept_of p.0) (λ k. Ok (and_kept b k)) new r.2 in
    record {
      last = k.0;
      is = ok_same (and_kept b k.0) new (Ok (and_kept b k.0)) (Ok new) refl refl k.2;
      unsaid = kept_unsaid p.0 k.0 k.1;
      sound = kept_sound p.0 k.0 k.1;
    }

-- without a summary, the note isn't `holds`
unsaid_true : (k : Kept) → k.said ≡ None → SoundTypes k.rewrite_pattern → IsTrue k
unsaid_true k e sound = ((λ f. absurd (none-some summary.AllWidths (sym e ∙ f))), sound)

added_true : (ks : RegistryModel) (k : Kept) → AllTrue ks → k.said ≡ None → SoundTypes k.rewrite_pattern → AllTrue (ks ++ (k ∷ []))
added_true [] k all e sound = (unsaid_true k e sound, tt)
added_true (j ∷ ks) k all e sound = (all.0, added_true ks k all.1 e sound)

-- ---- a recorded check
module _ (name : List ℕ) (said : CheckSummary) where
  -- no pattern has the name
  others_true : (ks : RegistryModel) → AllTrue ks → found name ks ≡ None → AllTrue (noted name said ks)
  unfolding found
  others_true [] all e = tt
  others_true (j ∷ ks) all e = go (λ e. others_true ks all.1 e) (is_named name j) refl e
    where
      go : (found name ks ≡ None → AllTrue (noted name said ks)) → (b : Bool) → is_named name j ≡ b → (if b then Some j else found name ks) ≡ None
          → IsTrue (noted_one name said j) × AllTrue (noted name said ks)
      go more true i e = absurd (none-some j (sym e))
      go more false i e = (subst IsTrue (ap (λ b. if b then with_said said j else j) (sym i)) all.0, more e)

  -- one pattern has the name, and the summary is true of it
  noted_true : (ks : RegistryModel) → AllTrue ks → AreApart ks → (k : Kept) → found name ks ≡ Some k → (said ≡ summary.AllWidths → IsFoundToHold k) → AllTrue (noted name said ks)
  unfolding found
  noted_true [] all apart k e right = tt
  noted_true (j ∷ ks) all apart k e right = go (λ e. others_true ks all.1 e) (λ e. noted_true ks all.1 apart.1 k e right) (is_named name j) refl e
    where
      go : (found name ks ≡ None → AllTrue (noted name said ks)) → (found name ks ≡ Some k → AllTrue (noted name said ks)) → (b : Bool) → is_named name j ≡ b
          → (if b then Some j else found name ks) ≡ Some k → IsTrue (noted_one name said j) × AllTrue (noted name said ks)
      go others more true i e =
          let same : with_said said j ≡ noted_one name said j = ap (λ b. if b then with_said said j else j) (sym i) in
          let is : j ≡ k = same_Some _ _ e in
          let its : j.name ≡ name = (bytes_eq-Decides j.name name).0 i in
          let one : IsTrue (with_said said j) = ((λ f. subst IsFoundToHold (sym is) (right (same_Some _ _ f))), all.0.1) in
          (subst IsTrue same one, others (ap (λ n. found n ks) (sym its) ∙ apart.0))
      go others more false i e = (subst IsTrue (ap (λ b. if b then with_said said j else j) (sym i)) all.0, more e)

-- ---- a removed pattern
forgotten_true : (name : List ℕ) (ks : RegistryModel) → AllTrue ks → AllTrue (forgotten name ks)
forgotten_true name [] all = tt
forgotten_true name (k ∷ ks) all = go (not (is_named name k)) (forgotten_true name ks all.1)
  where
    go : (b : Bool) → AllTrue (forgotten name ks) → AllTrue (cond b (k ∷ forgotten name ks) (forgotten name ks))
    go true more = (all.0, more)
    go false more = more

-- ---- a replaced pattern
set_true : (ks : RegistryModel) (i : ℕ) (k : Kept) → AllTrue ks → k.said ≡ None → SoundTypes k.rewrite_pattern → AllTrue (slice_set ks i k)
set_true [] i k all e sound = tt
set_true (j ∷ ks) zero k all e sound = (unsaid_true k e sound, all.1)
set_true (j ∷ ks) (suc i) k all e sound = (all.0, set_true ks i k all.1 e sound)

-- ---- changes
module _ (stays : StaysARegistry) (noting : NotingKeepsARegistry) (forgetting : ForgettingKeepsARegistry) (replacing : ReplacingKeepsARegistry) where
  abbrev Good : RegistryModel → Type 0
  Good b = IsRegistry b × AllTrue b

  defined_good : (b c : RegistryModel) → Good b → Defines b c → Good c
  defined_good b c g d =
      let f = defined_fresh b c d.0 d.1 in
      (stays b c d.0 g.0 d.1, subst AllTrue f.is (added_true b f.last g.1 f.unsaid f.sound))

  removed_good : (b c : RegistryModel) → Good b → Removes b c → Good c
  removed_good b c g r = subst Good (sym r.1) (forgetting b r.0 g.0, forgotten_true r.0 b g.1)

  recorded_good : (b c : RegistryModel) → Good b → Records b c → Good c
  recorded_good b c g r = subst Good (sym r.5) (noting b r.0 r.2 g.0, noted_true r.0 r.2 b g.1 (IsRegistry.apart g.0) r.1 r.3 r.4)

  replaced_good : (b c : RegistryModel) → Good b → Replaces b c → Good c
  replaced_good b c g r =
      subst Good (sym r.7) (replacing b r.1 r.2 r.3 g.0 r.5 r.6, set_true b r.2 r.3 g.1 (kept_unsaid r.1 r.3 r.5) (kept_sound r.1 r.3 r.5))

  one_good : (b c : RegistryModel) → Good b → Changes b c → Good c
  one_good b c g (inl d) = defined_good b c g d
  one_good b c g (inr (inl r)) = removed_good b c g r
  one_good b c g (inr (inr (inl r))) = recorded_good b c g r
  one_good b c g (inr (inr (inr r))) = replaced_good b c g r

  all_good : (k : ℕ) (b c : RegistryModel) → Good b → ChangesTo k b c → Good c
  all_good zero b c g changes = subst Good changes g
  all_good (suc k) b c g changes = all_good k changes.0 c (one_good b changes.0 g changes.1) changes.2

  pub notes_are_true : IsRegistry [] → NotesAreTrue
  notes_are_true empty b reached name k e f =
      let g = all_good reached.0 [] b (empty, tt) reached.1 in
      record { applies = found_is IsReady b (recursion_from_All IsReady b (IsRegistry.ready g.0)) name k e; checked = (found_is IsTrue b g.1 name k e).0 f }

  pub forms_are_sound : IsRegistry [] → FormsAreSound
  forms_are_sound empty b reached name k e none =
      let g = all_good reached.0 [] b (empty, tt) reached.1 in
      let s = (found_is IsTrue b g.1 name k e).1 in
      let p = k.rewrite_pattern in
      and_from (all_named p) (is_without_quotients p && (has_widths p && (uses_only (is_had p) p && is_kinded_by_form (numbered p)))) s.named
      (and_from (is_without_quotients p) (has_widths p && (uses_only (is_had p) p && is_kinded_by_form (numbered p))) none
      (and_from (has_widths p) (uses_only (is_had p) p && is_kinded_by_form (numbered p)) s.widths (and_from (uses_only (is_had p) p) (is_kinded_by_form (numbered p)) s.uses s.kinded)))

-- ---- the premises of the laws of proved patterns
-- a pattern holds by the form of both sides, or for all outcomes
proved_pattern : PolynomialsKeep → FormsAreSound → (b : RegistryModel) → IsReached b → (name : List ℕ) (k : Kept) → found name b ≡ Some k → IsTrulyNoted k
    → HoldsByForm k.rewrite_pattern ⊎ HoldsForOutcomes k.rewrite_pattern
proved_pattern polynomials forms b reached name k e h = elim h.checked.3 [
  | inl f ↦ inl (record { proper = registered_proper polynomials k.rewrite_pattern (IsReady.stands h.applies) (IsReady.buildable h.applies) f.0; for_all_widths = f.0; refines = f.1 })
  | inr o ↦ inr (record { wellformed = IsReady.stands h.applies; buildable = IsReady.buildable h.applies; form = forms b reached name k e o.1; holds = o.0 })
]

pub noted_are_proved : PolynomialsKeep → NotesAreTrue → FormsAreSound → NotedAreProved
noted_are_proved polynomials notes forms b reached (OfRule r) is = is
noted_are_proved polynomials notes forms b reached (OfUserPattern p) is =
    let k = is.1 in
    let same : k.rewrite_pattern ≡ p = is.4 in
    subst (λ (p : PatternModel). HoldsByForm p ⊎ HoldsForOutcomes p) same (proved_pattern polynomials forms b reached is.0 k is.2 (notes b reached is.0 k is.2 is.3))

pub noted_apply_refines : NotedAreProved → ProvedApplyRefines → NotedApplyRefines
noted_apply_refines proved refines b reached t is m n x ready range e = refines t (proved b reached t is) m n x ready range e

pub noted_rewrite_refines : NotedAreProved → ProvedRewriteRefines → NotedRewriteRefines
noted_rewrite_refines proved refines b reached ts are limit m n k e ready range i = refines ts (λ t j. proved b reached t (are t j)) limit m n k e ready range i

noted_or_canonical : NotedAreProved → (b : RegistryModel) → IsReached b → (t : RuleOrPatternModel) → IsNotedOrCanonical b t → IsProvedOrCanonical t
noted_or_canonical proved b reached (OfRule r) is = is
noted_or_canonical proved b reached (OfUserPattern p) is = proved b reached (OfUserPattern p) is

pub noted_canon_lists_refine : NotedAreProved → CanonListsRefine → NotedCanonListsRefine
noted_canon_lists_refine proved refines b reached ts are limit m n k e ready simple range i =
    refines ts (λ t j. noted_or_canonical proved b reached t (are t j)) limit m n k e ready simple range i

-- a pattern that poison refutes doesn't hold by its form, since its matched operation is a `select`
pub never_noted : NotesAreTrue → PoisonRefutes → WrongIsNeverNoted
never_noted notes refutes b reached name k e same f =
    let h = notes b reached name k e f in
    elim h.checked.3 [
      | inl g ↦ true≢false (sym (sym (ap holds_at_all_widths same) ∙ g.0))
      | inr o ↦ refutes.3 (subst HoldsAtAllWidths same o.0)
    ]
