-- Lists of rules of canonicalization and of proved patterns, in modules without unrealized casts and `scf`.
use Rattle.std.proofs.Common.{◌≡◌, ℕ, refl, ap, sym, ◌∙◌, subst, List, [], ◌∷◌, ◌++◌, map, Bool, true, true≢false, Option, inl, inr, ◌⊎◌}
use Rattle.std.specs.Prelude.{is_some}
use Rattle.std.specs.List.{list_all}
use Rattle.std.proofs.lemmas.Bool.{and_parts}
use Rattle.ir_types.specs.declared.bits.BitsKind.{BitsKind}
use Rattle.ir_types.specs.Bits.{width_of}
use Rattle.ir_types.specs.Reasons.{is_width}
use Rattle.ir_tree.specs.declared.value.Value.{Value}
use Rattle.ir_tree.specs.declared.place.Place.{Place}
use Rattle.ir_tree.specs.Tree.{head}
use Rattle.ir_tree.specs.Meaning.{Operation}
use Rattle.ir_event.specs.Modules.{Module}
use Rattle.dialects_int.specs.declared.operations.Rule.{Rule as How}
use Rattle.dialects_int.specs.Folds.{rule_of, rules}
use Rattle.rewriter_machine.specs.Contents.{all_edited, edited}
use Rattle.rewriter_machine.specs.Edits.{Make}
use Rattle.patterns_laws.specs.Keeps.{Each}
use Rattle.patterns_base.specs.Makes.{give}
use Rattle.patterns_base.specs.Rewrites.{becomes}
use Rattle.patterns_base.specs.Rules.{OnlyListed, rules_for, table}
use Rattle.patterns_base.proofs.Dispatch.{next_to_or}
use Rattle.patterns_soundness.specs.Accepted.{AreAccepted}
use Rattle.user_patterns_data.specs.Planning.{bound_type}
use Rattle.user_patterns_data.specs.Shapes.{PatternModel}
use Rattle.user_patterns_widths.specs.Lasting.{PolynomialsKeep}
use Rattle.user_patterns_apply.specs.Own.{UserPatternsAreAccepted, user_pattern_rewrite}
use Rattle.greedy.specs.PatternSet.{RuleOrPatternModel, OfUserPattern, OfRule, rewrite_by_entry}
use Rattle.patterns_refinement.specs.Applied.{IsProper}
use Rattle.patterns_refinement.specs.Keeping.{IsReady}
use Rattle.patterns_refinement.specs.Runs.{KeptAreKept}
use Rattle.patterns_refinement.specs.Canonical.{IsPlain, is_plain}
use Rattle.patterns_refinement.specs.Passing.{FoundAt, KeptAt, is_kinded_at}
use Rattle.patterns_refinement.specs.ForOutcomes.{HoldsByForm, HoldsForOutcomes, IsInRange}
use Rattle.patterns_refinement.specs.CanonLists.{CanonListsRefine, IsProvedOrCanonical}
use Rattle.patterns_refinement.proofs.Canonical.{kinds_step, one_step, plain_after}
use Rattle.patterns_refinement.proofs.InRange.{applied_keeps, sound_parts}
use Rattle.patterns_refinement.proofs.Makings.{AllMade, all_bare}
use Rattle.patterns_refinement.proofs.MatchedKinds.{kinded_there, widths_there}
use Rattle.patterns_refinement.proofs.NarrowRules.{kept_fine}
use Rattle.patterns_refinement.proofs.PassingKept.{Site, its_made, site_of}
use Rattle.patterns_refinement.proofs.PlainRules.{all_plain}
use Rattle.patterns_refinement.proofs.Refining.{kept_is_refined}
use Rattle.patterns_refinement.proofs.Rewritten.{AllBare, all_put}
use Rattle.patterns_refinement.proofs.RuleListRunning.{led}
use Rattle.patterns_refinement.proofs.Running.{own_of, runs_under}
use Rattle.patterns_refinement.proofs.StrictKinded.{uniform_at}
use Rattle.patterns_refinement.proofs.StrictLaws.{refining_uniform}

-- ---- arithmetic operations have plain names
abbrev IsPlainIfNumeric : List ℕ → Type 0
IsPlainIfNumeric name = is_some (rule_of name) ≡ true → is_plain name ≡ true

abbrev row_is_plain : List ℕ × How → Bool
row_is_plain row = is_plain row.0

rows_plain : list_all row_is_plain rules ≡ true
unfolding rules rules_for table
rows_plain = refl

each_plain : (rows : List (List ℕ × How)) → list_all row_is_plain rows ≡ true → Each (λ (row : List ℕ × How). IsPlainIfNumeric row.0) rows
each_plain [] e = tt
each_plain (row ∷ rows) e = let p = and_parts (row_is_plain row) (list_all row_is_plain rows) e in ((λ i. p.0), each_plain rows p.1)

numeric_plain : (name : List ℕ) → IsPlainIfNumeric name
unfolding rule_of
numeric_plain name = next_to_or IsPlainIfNumeric rules name (each_plain rules rows_plain) (λ none i. absurd (true≢false (sym (sym (ap is_some none) ∙ i))))

-- ---- a pattern creates operations with plain names
abbrev AllNamedPlain : List Operation → Type 0
AllNamedPlain [] = Unit {0}
AllNamedPlain (o ∷ os) = (is_plain (head o).name ≡ true) × AllNamedPlain os

all_named_plain : (f : Value → Option BitsKind) (os : List Operation) (ks : List BitsKind) → AllMade f os ks → AllNamedPlain os
all_named_plain f [] ks g = tt
all_named_plain f (o ∷ os) [] g = absurd g
all_named_plain f (o ∷ os) (k ∷ ks) g = (numeric_plain (head o).name g.0.numeric, all_named_plain f os ks g.1)

made_plain : (insertion : Place) (os : List Operation) (x : ℕ) (v : Value) (m : Module) → AllNamedPlain os → AllBare os → IsPlain m → IsPlain (all_edited (map (λ o. Make insertion o) os ++ give x v) m)
made_plain insertion [] x v m p b s = all_plain (head m.tree) (give x v) m (tt, (tt, tt)) s
made_plain insertion (o ∷ os) x v m p b s =
    made_plain insertion os x v (edited (Make insertion o) m) p.1 b.1 (all_put (λ h. is_plain h.name ≡ true) insertion m.next (o ∷ []) m.tree (p.0, tt) (b.0, tt) s)

module _ (accepted : UserPatternsAreAccepted) (p : PatternModel) (proper : IsProper p) (m n : Module) (x : ℕ) (ready : IsReady m) (rewrites : user_pattern_rewrite p m x ≡ becomes n) where
  abbrev its_site : Site accepted p proper m n x ready rewrites
  its_site = site_of accepted p proper m n x ready rewrites

  abbrev its_match : FoundAt p m x
  its_match = record { here = its_site.here.here; is_matched = its_site.here.is_matched; types = its_site.here.types; are_types = its_site.here.are_types }

  own_plain : is_kinded_at (map bound_type its_site.here.types) p ≡ true → IsPlain m → IsPlain n
  own_plain kinded simple =
      let made = its_made m p x proper ready its_site.applied.made its_site.applied.value its_site.applied.plan its_site.here kinded in
      subst IsPlain its_site.applied.module_is
      (made_plain its_site.applied.insertion its_site.applied.made x its_site.applied.value m (all_named_plain _ its_site.applied.made _ made) (all_bare _ its_site.applied.made _ made) simple)

-- ---- rules and patterns, and runs of them
module _ (rewrites : AreAccepted) (accepted : UserPatternsAreAccepted) (kept : KeptAreKept) (polynomials : PolynomialsKeep) (only : OnlyListed) where
  proved_plain : (p : PatternModel) → HoldsByForm p ⊎ HoldsForOutcomes p → (m n : Module) (x : ℕ) → IsReady m → IsInRange m → user_pattern_rewrite p m x ≡ becomes n → IsPlain m → IsPlain n
  proved_plain p (inl h) m n x ready range e simple =
      let u = refining_uniform polynomials p h.for_all_widths h.proper h.refines in
      own_plain accepted p h.proper m n x ready e (uniform_at accepted p u h.proper m n x ready e (its_match accepted p h.proper m n x ready e)).0 simple
  proved_plain p (inr h) m n x ready range e simple =
      let f = sound_parts p h.form in
      let proper : IsProper p = record { wellformed = h.wellformed; buildable = h.buildable; named = f.named } in
      let s = site_of accepted p proper m n x ready e in
      let r = s.applied in
      let widths = widths_there p m x proper ready range r.made r.value r.plan s.here f.widths in
      own_plain accepted p proper m n x ready e (kinded_there p m x proper ready range r.made r.value r.plan s.here widths f.uses f.kinded) simple

  step : (t : RuleOrPatternModel) → IsProvedOrCanonical t → (m n : Module) (x : ℕ) → IsPlain m × IsInRange m → IsReady m → rewrite_by_entry t m x ≡ becomes n → (IsPlain n × IsInRange n) × KeptAt m n x
  step (OfRule r) (inl i) m n x s ready e =
      let k = applied_keeps rewrites accepted kept polynomials (OfRule r) i m n x s.1 ready e in
      ((plain_after rewrites only m n x r (kept_fine r i) ready s.0 e, k.0), k.1)
  step (OfRule r) (inr i) m n x s ready e =
      let o = one_step rewrites only m n x r i ready s.0 e in
      ((o.0, kinds_step rewrites only (λ k. is_width (width_of k)) refl m n x r i ready s.0 s.1 e), o.1)
  step (OfUserPattern p) h m n x s ready e =
      let own = own_of p m n x e in
      let k = applied_keeps rewrites accepted kept polynomials (OfUserPattern p) h m n x s.1 ready own in
      ((proved_plain p h m n x ready s.1 own s.0, k.0), k.1)

  pub canon_lists_refine : CanonListsRefine
  canon_lists_refine ts are limit m n k e ready simple range i =
      let l = led ts limit k m n e i in
      let r = runs_under (λ m. IsPlain m × IsInRange m) ts (λ t j m n x s ready e. step t (are t j) m n x s ready e) l.0 m n (simple, range) ready l.1 in
      (r.1.0, r.0.0, r.0.1, kept_is_refined m n ready r.1)
