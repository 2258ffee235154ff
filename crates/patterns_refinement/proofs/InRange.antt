-- Rules and patterns that keep the widths of a module in range, and refine what it computes.
use Rattle.std.proofs.Common.{◌≡◌, ℕ, ◌-◌, ◌≤◌, refl, sym, ◌∙◌, subst, List, [], ◌∷◌, map, Bool, true, false, Option, Some, None, get_or, inl, inr, zero, suc}
use Rattle.std.specs.Prelude.{if◌then◌else◌, is_some, nat_lt}
use Rattle.std.specs.List.{list_all}
use Rattle.std.proofs.lemmas.Bool.{and_from, and_parts}
use Rattle.std.proofs.lemmas.Option.{none-some, same_Some}
use Rattle.ir_types.specs.declared.bits.BitsKind.{BitsKind}
use Rattle.ir_types.specs.Bits.{width_of}
use Rattle.ir_types.specs.Reasons.{is_width}
use Rattle.ir_types.specs.Terms.{TypeTerm}
use Rattle.ir_tree.specs.declared.value.Value.{Value}
use Rattle.ir_tree.specs.declared.value.Value.TheVariants.{Arg, Result}
use Rattle.ir_tree.specs.Tree.{head}
use Rattle.ir_tree.specs.Meaning.{Operation}
use Rattle.ir_tree_laws.specs.Members.{In}
use Rattle.ir_tree_laws.specs.Values.{has_value, type_of_value}
use Rattle.ir_tree_laws.proofs.Reasoned.{some_there}
use Rattle.ir_event.specs.Modules.{Module}
use Rattle.dialects_int.specs.Folds.{kind_of, rule_of}
use Rattle.patterns_base.specs.declared.rule.Rule.{Rule}
use Rattle.patterns_base.specs.Rewrites.{becomes}
use Rattle.patterns_base.specs.Rules.{OnlyListed}
use Rattle.patterns_soundness.specs.Accepted.{AreAccepted}
use Rattle.user_patterns_check.specs.Outcomes.{given}
use Rattle.user_patterns_data.specs.Fitting.{kind_at}
use Rattle.user_patterns_data.specs.Planning.{bound_type}
use Rattle.user_patterns_data.specs.Shapes.{PatternModel}
use Rattle.user_patterns_build.specs.CanBuild.{new_type}
use Rattle.user_patterns_widths.specs.Lasting.{PolynomialsKeep}
use Rattle.user_patterns_apply.specs.Own.{UserPatternsAreAccepted, user_pattern_rewrite}
use Rattle.greedy.specs.Rewriting.{IsOfItsRules}
use Rattle.greedy.specs.PatternSet.{RuleOrPatternModel, OfUserPattern, OfRule, rewrite_by_entry}
use Rattle.patterns_refinement.specs.Applied.{IsProper, all_named}
use Rattle.patterns_refinement.specs.Better.{kind_in, takes, takes_its}
use Rattle.user_patterns_claims.specs.Quotients.{is_without_quotients}
use Rattle.patterns_refinement.specs.Keeping.{IsReady, done_after}
use Rattle.patterns_refinement.specs.Runs.{KeptAreKept, kept_rules}
use Rattle.patterns_refinement.specs.RuleListRuns.{KeptThrough}
use Rattle.patterns_refinement.specs.Passing.{FoundAt, KeptAt, is_kinded_at}
use Rattle.patterns_refinement.specs.UsedTypes.{uses_only}
use Rattle.patterns_refinement.specs.ByForm.{is_kinded_by_form}
use Rattle.patterns_refinement.specs.ForOutcomes.{CanonStaysInRange, IsInRange, IsProved, KeepsForOutcomes, OutcomesKeep, PatternsStayInRange, ProvedApplyRefines, ProvedRewriteRefines, RulesStayInRange, applied, has_widths, is_had, is_sound_form, numbered}
use Rattle.patterns_refinement.proofs.Canonical.{canonicalization_kinds}
use Rattle.patterns_refinement.proofs.Giving.{after_old}
use Rattle.patterns_refinement.proofs.Makings.{AllMade, MadeOne, with_all}
use Rattle.patterns_refinement.proofs.MatchedKinds.{keeps_for, kinded_there, widths_there}
use Rattle.patterns_refinement.proofs.RuleListRunning.{led}
use Rattle.patterns_refinement.proofs.NarrowRules.{rules_keep_kinds}
use Rattle.patterns_refinement.proofs.OutcomesKept.{outcomes_keep_there}
use Rattle.patterns_refinement.proofs.PassingKept.{Site, its_made, one_way, passing_kinds, site_of}
use Rattle.patterns_refinement.proofs.Refining.{kept_is_refined}
use Rattle.patterns_refinement.proofs.Running.{own_grows, own_of, rewrite_grows, runs_under}
use Rattle.patterns_refinement.proofs.StrictKinded.{uniform_at}
use Rattle.patterns_refinement.proofs.StrictLaws.{refining_keep, refining_uniform}

-- ---- new operations have results of valid widths
made_wide : (f : Value → Option BitsKind) (os : List Operation) (ks : List BitsKind) → AllMade f os ks → list_all (λ k. is_width (width_of k)) ks ≡ true
made_wide f [] [] h = refl
made_wide f [] (k ∷ ks) h = absurd h
made_wide f (o ∷ os) [] h = absurd h
made_wide f (o ∷ os) (k ∷ ks) h = and_from (is_width (width_of k)) (list_all (λ k. is_width (width_of k)) ks) (one h.0) (made_wide f os ks h.1)
  where
    one : MadeOne f o k → is_width (width_of k) ≡ true
    one g =
        let r = some_there (rule_of (head o).name) g.numeric in
        let js = map f (head o).operands in
        (and_parts (is_width (width_of k)) (takes r.0 (head o) k js) (subst (λ q. takes_its q (Some k) (head o) js ≡ true) r.1 g.takes)).0

some_wide : (ks : List BitsKind) → list_all (λ k. is_width (width_of k)) ks ≡ true → (i : ℕ) (k : BitsKind) → get_or (map (λ k. Some k) ks) i None ≡ Some k → is_width (width_of k) ≡ true
some_wide [] e i k h = absurd (none-some k h)
some_wide (j ∷ ks) e zero k h = subst (λ k. is_width (width_of k) ≡ true) (same_Some j k h) (and_parts (is_width (width_of j)) (list_all (λ k. is_width (width_of k)) ks) e).0
some_wide (j ∷ ks) e (suc i) k h = some_wide ks (and_parts (is_width (width_of j)) (list_all (λ k. is_width (width_of k)) ks) e).1 i k h

has_kind : (t : Operation) (v : Value) (k : BitsKind) → kind_in t v ≡ Some k → has_value v t ≡ true
has_kind t v k i = go (type_of_value v t) i
  where
    go : (o : Option TypeTerm) → given o kind_of ≡ Some k → is_some o ≡ true
    go None i = absurd (none-some k i)
    go (Some ty) i = refl

module _ (accepted : UserPatternsAreAccepted) (p : PatternModel) (proper : IsProper p) (m n : Module) (x : ℕ) (ready : IsReady m) (range : IsInRange m) (rewrites : user_pattern_rewrite p m x ≡ becomes n) where
  abbrev its_site : Site accepted p proper m n x ready rewrites
  its_site = site_of accepted p proper m n x ready rewrites

  abbrev here_at : FoundAt p m x
  here_at = record { here = its_site.here.here; is_matched = its_site.here.is_matched; types = its_site.here.types; are_types = its_site.here.are_types }

  own_range : is_kinded_at (map bound_type its_site.here.types) p ≡ true → IsInRange n
  own_range kinded v k i = by_value v (sym (passing_kinds accepted p proper m n x ready rewrites its_site kinded v (has_kind n.tree v k i)) ∙ i)
    where
      wide : list_all (λ k. is_width (width_of k)) (map (λ w. kind_at (map bound_type its_site.here.types) (new_type w)) p.new) ≡ true
      wide = made_wide _ its_site.applied.made _ (its_made m p x proper ready its_site.applied.made its_site.applied.value its_site.applied.plan its_site.here kinded)

      by_value : (v : Value) → with_all (kind_in m.tree) m.next None (map (λ k. Some k) (map (λ w. kind_at (map bound_type its_site.here.types) (new_type w)) p.new)) v ≡ Some k → is_width (width_of k) ≡ true
      by_value (Arg y r j) e = range (Arg y r j) k e
      by_value (Result y j) e = go (nat_lt y m.next) e
        where
          go : (b : Bool) → (if b then kind_in m.tree (Result y j) else get_or (map (λ k. Some k) (map (λ w. kind_at (map bound_type its_site.here.types) (new_type w)) p.new)) (y - m.next) None) ≡ Some k → is_width (width_of k) ≡ true
          go true e = range (Result y j) k e
          go false e = some_wide (map (λ w. kind_at (map bound_type its_site.here.types) (new_type w)) p.new) wide (y - m.next) k e

-- ---- patterns that hold for all outcomes
pub record SoundForm (p : PatternModel) : Type 0 where
  pub named : all_named p ≡ true
  pub quotients : is_without_quotients p ≡ true
  pub widths : has_widths p ≡ true
  pub uses : uses_only (is_had p) p ≡ true
  pub kinded : is_kinded_by_form (numbered p) ≡ true

pub sound_parts : (p : PatternModel) → is_sound_form p ≡ true → SoundForm p
sound_parts p e =
    let a = and_parts (all_named p) _ e in
    let b = and_parts (is_without_quotients p) _ a.1 in
    let c = and_parts (has_widths p) _ b.1 in
    let d = and_parts (uses_only (is_had p) p) (is_kinded_by_form (numbered p)) c.1 in
    record { named = a.0; quotients = b.0; widths = c.0; uses = d.0; kinded = d.1 }

pub outcomes_keep : UserPatternsAreAccepted → OutcomesKeep
outcomes_keep accepted p m n x h ready range e =
    let f = sound_parts p h.form in
    let proper : IsProper p = record { wellformed = h.wellformed; buildable = h.buildable; named = f.named } in
    let s = site_of accepted p proper m n x ready e in
    let r = s.applied in
    let widths = widths_there p m x proper ready range r.made r.value r.plan s.here f.widths in
    let kinded = kinded_there p m x proper ready range r.made r.value r.plan s.here widths f.uses f.kinded in
    let keeps = keeps_for p m x proper ready range r.made r.value r.plan s.here widths f.uses h.holds in
    let here : FoundAt p m x = record { here = s.here.here; is_matched = s.here.is_matched; types = s.here.types; are_types = s.here.are_types } in (
      own_range accepted p proper m n x ready range e kinded,
      outcomes_keep_there accepted p m n x f.quotients proper ready e
          (λ at. subst (λ ks. (is_kinded_at ks p ≡ true) × KeepsForOutcomes p ks) (one_way p m x here at) (kinded, keeps)),
    )

-- ---- patterns that hold by the form of both sides
pub patterns_stay_in_range : UserPatternsAreAccepted → PolynomialsKeep → PatternsStayInRange
patterns_stay_in_range accepted polynomials p m n x h ready range e =
    let u = refining_uniform polynomials p h.for_all_widths h.proper h.refines in
    own_range accepted p h.proper m n x ready range e (uniform_at accepted p u h.proper m n x ready e (here_at accepted p h.proper m n x ready range e)).0

pub rules_stay_in_range : AreAccepted → RulesStayInRange
rules_stay_in_range accepted r i m n x ready range e = rules_keep_kinds accepted (λ k. is_width (width_of k)) refl r i m n x ready range e

-- ---- rules and patterns, and runs of them
module _ (rules : AreAccepted) (accepted : UserPatternsAreAccepted) (kept : KeptAreKept) (polynomials : PolynomialsKeep) where
  pub applied_keeps : (t : RuleOrPatternModel) → IsProved t → (m n : Module) (x : ℕ) → IsInRange m → IsReady m → applied t m x ≡ becomes n → IsInRange n × KeptAt m n x
  applied_keeps (OfRule r) i m n x range ready e =
      let k = kept (r ∷ []) only r (inl refl) in
      (rules_stay_in_range rules r i m n x ready range e, (k.0 m n x ready e, (λ a done c. k.1 m n x a done ready c e)))
    where
      only : (o : Rule) → In o (r ∷ []) → In o kept_rules
      only o (inl e) = subst (λ o. In o kept_rules) (sym e) i
      only o (inr n) = absurd n
  applied_keeps (OfUserPattern p) (inl h) m n x range ready e =
      let k = refining_keep accepted polynomials p h.for_all_widths h.proper h.refines in
      (patterns_stay_in_range accepted polynomials p m n x h ready range e, (k.0 m n x ready e, (λ a done c. k.1 m n x a done ready c e)))
  applied_keeps (OfUserPattern p) (inr h) m n x range ready e = outcomes_keep accepted p m n x h ready range e

  applied_of : (t : RuleOrPatternModel) (m n : Module) (x : ℕ) → rewrite_by_entry t m x ≡ becomes n → applied t m x ≡ becomes n
  applied_of (OfRule r) m n x e = e
  applied_of (OfUserPattern p) m n x e = own_of p m n x e

  -- free ids are used up
  applied_grows : (t : RuleOrPatternModel) (m n : Module) (x : ℕ) → applied t m x ≡ becomes n → m.next ≤ n.next
  applied_grows (OfRule r) m n x e = rewrite_grows r m n x e
  applied_grows (OfUserPattern p) m n x e = own_grows p m n x e

  pub proved_apply_refines : ProvedApplyRefines
  proved_apply_refines t is m n x ready range e =
      let r = applied_keeps t is m n x range ready e in
      let k = r.1 in
      let through : KeptThrough m n =
      (k.0, applied_grows t m n x e, (λ a done c. record { later = done_after m.next x done; same = λ y l. after_old m.next x done y l; improves = k.1 a done c })) in
      (k.0, r.0, kept_is_refined m n ready through)

  pub proved_rewrite_refines : ProvedRewriteRefines
  proved_rewrite_refines ts are limit m n k e ready range i =
      let l = led ts limit k m n e i in
      let r = runs_under IsInRange ts (λ t j m n x range ready e. applied_keeps t (are t j) m n x range ready (applied_of t m n x e)) l.0 m n range ready l.1 in
      (r.1.0, r.0, kept_is_refined m n ready r.1)

pub canon_stays_in_range : AreAccepted → OnlyListed → IsOfItsRules → CanonStaysInRange
canon_stays_in_range accepted only own limit m n k e ready simple range i = canonicalization_kinds accepted only own (λ k. is_width (width_of k)) refl limit m n k e ready simple range i
