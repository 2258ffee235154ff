-- The module after a pattern is applied computes a refinement of what the module computed.
use Rattle.std.proofs.Common.{◌≡◌, ℕ, ◌+◌, ◌<◌, refl, ap, sym, ◌∙◌, subst, List, [], ◌∷◌, map, Bool, true, false, true≢false, ◌&&◌, not, Some, slice_get, inl, inr}
use Rattle.std.specs.Prelude.{nat_le, option_map}
use Rattle.std.specs.List.{list_all}
use Rattle.std.proofs.lemmas.Bool.{and_parts, or_cases}
use Rattle.std.proofs.lemmas.Bool.Decides.{nat_tests}
use Rattle.std.proofs.lemmas.Option.{same_Some}
use Rattle.std.proofs.Common.{arith}
use Rattle.ir_types.specs.Words.{is_isolated}
use Rattle.ir_types.specs.Terms.{TypeTerm}
use Rattle.ir_tree.specs.declared.value.Value.{Value}
use Rattle.ir_tree.specs.declared.value.Value.TheVariants.{Result}
use Rattle.ir_tree.specs.Tree.{head}
use Rattle.ir_tree.specs.Ids.{HasDistinctIds}
use Rattle.ir_tree.specs.WellFormed.{IsWellFormed}
use Rattle.ir_tree.specs.Uses.{same_value}
use Rattle.ir_tree.specs.Meaning.{Operation}
use Rattle.ir_tree.specs.declared.place.Place.{Place}
use Rattle.ir_tree.specs.Edits.{put_value, put_values}
use Rattle.ir_tree_laws.specs.Values.{has_value}
use Rattle.ir_tree_laws.proofs.Listed.{all_each}
use Rattle.ir_event.specs.Modules.{Module}
use Rattle.dialects_int.specs.declared.operations.Arithmetic.{Arithmetic}
use Rattle.dialects_int.specs.declared.operations.Arithmetic.TheVariants as op
use Rattle.dialects_int.specs.declared.operations.Rule.TheVariants as rule
use Rattle.dialects_int.specs.Folds.{Known, rule_of}
use Rattle.patterns_laws.specs.Made.{constant, made}
use Rattle.patterns_laws.proofs.KnownFolds.{given_some}
use Rattle.user_patterns_check.specs.Outcomes.{Outcome, given}
use Rattle.user_patterns_check.specs.Checks.{refines}
use Rattle.patterns_base.specs.Looks.{is_verified}
use Rattle.user_patterns_data.specs.declared.pattern.Expression.{Expression}
use Rattle.user_patterns_data.specs.declared.pattern.Expression.TheVariants as form
use Rattle.user_patterns_data.specs.declared.pattern.NewValue.{NewValue}
use Rattle.user_patterns_data.specs.declared.pattern.NewValue.TheVariants as new
use Rattle.user_patterns_data.specs.Matching.{Header, BoundValues, bound, binding_at}
use Rattle.user_patterns_data.specs.Names.{name_of, operands_of, predicate_of}
use Rattle.user_patterns_data.specs.Planning.{all_made, entries_by, made_as, values_at}
use Rattle.user_patterns_build.specs.CanBuild.{has_name, is_named}
use Rattle.user_patterns_apply.specs.Own.{UserPatternsAreAccepted}
use Rattle.patterns_refinement.proofs.Flags.{AreUnflagged, unflagged}
use Rattle.patterns_refinement.specs.Meaning.{AreOfTypes, Assignment, Each, FitsAll, FitsEach, is_arithmetic}
use Rattle.patterns_refinement.specs.Applied.{Agree, Computes}
use Rattle.patterns_refinement.specs.Observing.{Shows, is_computed}
use Rattle.patterns_refinement.specs.After.{or_new, rewritten, with_made}
use Rattle.patterns_refinement.specs.Better.{AllBetter, AllSure, AreKinded, is_poison_by_ones, is_signed_quotient}
use Rattle.patterns_refinement.specs.Applying.{RewritesCompute}
use Rattle.patterns_refinement.specs.Improving.{RewritesComputeBetter}
use Rattle.user_patterns_claims.specs.Quotients.{is_quotient, makes_no_quotient}
use Rattle.patterns_refinement.proofs.Applying.{applies}
use Rattle.patterns_refinement.proofs.EditsForm.{all_wellformed, made_plain}
use Rattle.patterns_refinement.proofs.Wellformed.{each_stands, is_below, operands_stand}
use Rattle.patterns_refinement.proofs.Forms.{by_constant, form_rule, rule_for}
use Rattle.patterns_refinement.proofs.Going.{plans_go, planned_there, root_below}
use Rattle.patterns_refinement.proofs.Lifted.{IsBetterWith, IsReady, lifted, new_uses_better, old_ready, uses_better}
use Rattle.patterns_refinement.proofs.News.{more_made}
use Rattle.patterns_refinement.proofs.Rooted.{all_arithmetic, root_computed}
use Rattle.patterns_refinement.proofs.Origins.{IsKept, kept_put, kinds_themselves, replaces_computed, rewritten_kinds}
use Rattle.patterns_refinement.proofs.Showing.{all_better, all_through, replaced_shows}
use Rattle.patterns_refinement.proofs.Trees.{value_below}
use Rattle.patterns_refinement.proofs.Edited.{each_both}
use Rattle.patterns_refinement.proofs.Frees.{Was, free_still, was_new, was_old}
use Rattle.patterns_refinement.proofs.Rewritten.{AllBare, AllPut, all_bare, all_put, given_each, operands_same, rewritten_computes, same_makes, all_unflagged}
use Rattle.patterns_refinement.proofs.Monotone.{itself}

-- ---- new operations are no signed divisions
same_quotient : (o : Arithmetic) (i j : ℕ) → is_signed_quotient (Some (rule.Binary o)) ≡ is_quotient (form.Binary o i j)
same_quotient op.DivideSigned i j = refl
same_quotient o i j = refl

form_quotient : (f : Expression) → has_name f ≡ true → not (is_quotient f) ≡ true → is_signed_quotient (rule_of (name_of f)) ≡ false
form_quotient f n e = ap is_signed_quotient (form_rule f n) ∙ go f e
  where
    negated : (b : Bool) → not b ≡ true → b ≡ false
    negated true e = absurd (true≢false (sym e))
    negated false e = refl

    go : (f : Expression) → not (is_quotient f) ≡ true → is_signed_quotient (Some (rule_for f)) ≡ false
    go (form.Binary o i j) e = same_quotient o i j ∙ negated (is_quotient (form.Binary o i j)) e
    go (form.Compare q i j) e = refl
    go (form.Select c i j) e = refl
    go (form.IntegerCast c i) e = refl
    go (form.IndexCast c i) e = refl

abbrev pub IsNoQuotient : Operation → Type 0
IsNoQuotient o = is_signed_quotient (rule_of (head o).name) ≡ false

abbrev pub AreNoQuotients : List Operation → Type 0
AreNoQuotients [] = Unit {0}
AreNoQuotients (o ∷ os) = IsNoQuotient o × AreNoQuotients os

module _ (ts : BoundValues TypeTerm) (env : List Outcome) where
  no_quotient : (w : NewValue) (b : BoundValues Value) (o : Operation) → is_named w ≡ true → makes_no_quotient w ≡ true → made_as b ts env w ≡ Some o → IsNoQuotient o
  no_quotient (new.Operation p) b o n q e =
      let g = given_some (values_at (operands_of p.form) b) (λ vs. given (binding_at p.ty ts) (λ term. Some (made (name_of p.form) vs term (entries_by (predicate_of p.form) (name_of p.form))))) o e in
      let l = given_some (binding_at p.ty ts) (λ term. Some (made (name_of p.form) g.0 term (entries_by (predicate_of p.form) (name_of p.form)))) o g.2 in
      subst IsNoQuotient (same_Some _ _ l.2) (form_quotient p.form n q)
  no_quotient (new.Constant i t) b o n q e =
      let g = given_some (given (slice_get env i) (λ x. x)) (λ (x : Known). given (binding_at t ts) (λ term. Some (constant term x.1))) o e in
      let l = given_some (binding_at t ts) (λ term. Some (constant term g.0.1)) o g.2 in
      subst IsNoQuotient (same_Some _ _ l.2) (ap is_signed_quotient by_constant)

  pub no_quotients : (n k : ℕ) (ws : List NewValue) (b d : BoundValues Value) (os : List Operation) → list_all is_named ws ≡ true → list_all makes_no_quotient ws ≡ true → all_made ts env n k ws b ≡ Some (os, d) → AreNoQuotients os
  no_quotients n k [] b d os s q e = let s : ([], b) ≡ (os, d) = same_Some _ _ e in subst AreNoQuotients (ap (λ (r : List Operation × BoundValues Value). r.0) s) tt
  no_quotients n k (w ∷ ws) b d os s q e =
      let g = given_some (made_as b ts env w) (λ o. given (bound same_value k (Result n 0) b) (λ c. option_map (λ (r : List Operation × BoundValues Value). (o ∷ r.0, r.1)) (all_made ts env (n + 1) (k + 1) ws c))) (os, d) e in
      let h = given_some (bound same_value k (Result n 0) b) (λ c. option_map (λ (r : List Operation × BoundValues Value). (g.0 ∷ r.0, r.1)) (all_made ts env (n + 1) (k + 1) ws c)) (os, d) g.2 in
      let m = more_made g.0 (all_made ts env (n + 1) (k + 1) ws h.0) os d h.2 in
      let a = and_parts (is_named w) (list_all is_named ws) s in
      let f = and_parts (makes_no_quotient w) (list_all makes_no_quotient ws) q in
      subst AreNoQuotients m.2 (no_quotient w b g.0 a.0 f.0 g.1, no_quotients (n + 1) (k + 1) ws h.0 d m.0 a.1 f.1 m.1)

pub new_ready : (c : Assignment) (later : ℕ → Bool) (m : ℕ) (os : List Operation) → FitsEach c m os → AreNoQuotients os → AreUnflagged os → AllPut (IsReady c later) m os
new_ready c later m [] s q u = tt
new_ready c later m (o ∷ os) s q u = (
  (λ i j. (inl (same_makes (head o) m (head o).operands (map c (head o).operands) ∙ s.0, unflagged (head o) (map c (head o).operands) u.0), ap (λ b. b && is_poison_by_ones (map c (head o).operands)) q.0)),
  new_ready c later (m + 1) os s.1 q.1 u.1,
)

-- ---- observable operations
-- if the new value refines the result, the tree shows what the module showed
module _ (m : Module) (x : ℕ) (a : Assignment) (done later : ℕ → Bool) (wellformed : IsWellFormed is_isolated m) (c : Assignment) (agrees : Agree m.next a c) (insertion : Place) (made : List Operation) (v : Value) (bare : AllBare made)
    (root : is_computed m.tree (Result x 0) ≡ true) (numbers : AllPut (λ h. is_arithmetic h ≡ true) m.next made) (better : refines (c (Result x 0)) (c v) ≡ true) (now : Assignment) (grows : (w : Value) → refines (c w) (now w) ≡ true) where
  abbrev f : Header → Header
  f = put_values (Result x 0) v

  each_kept : Each (λ h. IsKept m.next m.tree (rewritten insertion m.next made x v m.tree) a now later h (put_values (Result x 0) v h)) m.tree
  each_kept =
      let below = is_below m.next m.tree wellformed.below in
      let operands = operands_stand is_isolated m.tree wellformed.distinct wellformed.wellformed.visible in
      let u = rewritten insertion m.next made x v m.tree in
      let value_kinds = rewritten_kinds m.next m.tree x v insertion made bare (kinds_themselves m.next m.tree wellformed.distinct below) in
      each_both (IsBetterWith c later (map (put_value (Result x 0) v))) (λ h. list_all (λ v. has_value v m.tree) h.operands ≡ true) (λ h. IsKept m.next m.tree u a now later h (put_values (Result x 0) v h))
      (λ h p s. kept_put m.next x v m.tree u a now later value_kinds (replaces_computed m.next x v m.tree u a later root) h (λ w i. value_below m.next m.tree below w (all_each (λ v. has_value v m.tree) h.operands s w i))
      (λ i.
      all_through (map a h.operands) (map c (map (put_value (Result x 0) v) h.operands)) (map now (map (put_value (Result x 0) v) h.operands))
      (subst (λ zs. AllBetter zs (map c (map (put_value (Result x 0) v) h.operands))) (operands_same a c m.next x v done agrees m.tree below h.operands s) (p i))
      (all_better c now grows (map (put_value (Result x 0) v) h.operands)))) m.tree (uses_better c later x v better m.tree (each_stands (λ h. Unit {0}) [] m.tree (λ s i. tt))) operands

  all_plain : Each (Was m.next (λ y. true) (λ y. true) m.tree) (rewritten insertion m.next made x v m.tree)
  all_plain =
      given_each a c m.next x v done (Was m.next (λ y. true) (λ y. true) m.tree) (λ h p. p) (with_made insertion m.next made m.tree)
      (all_put (Was m.next (λ y. true) (λ y. true) m.tree) insertion m.next made m.tree (was_new m.next (λ y. true) (λ y. true) m.tree m.next made (omega arith)) bare (was_old m.next (λ y. true) (λ y. true) m.tree wellformed.distinct (λ y l i. refl)))

  pub made_shows : Shows a now m later (rewritten insertion m.next made x v m.tree)
  made_shows =
      replaced_shows m x v insertion made a now later wellformed.distinct (inl root) bare numbers each_kept
      (free_still m.next (λ y. true) (λ y. true) m.tree (rewritten insertion m.next made x v m.tree) all_plain)

-- ---- the laws
pub rewrites_compute_better : UserPatternsAreAccepted → RewritesComputeBetter
rewrites_compute_better accepted p m n x a done wellformed proper free fits of sure found keeps kinded e =
    let r = applies p m n x e in
    let below = is_below m.next m.tree wellformed.below in
    let goes = plans_go m.tree (is_verified m.tree) m.next p x a done proper (record { below = below; fits = fits; typed = of }) found keeps.0 keeps.1 r.made r.value r.plan in
    let c = goes.after in
    let q = planned_there m.tree (is_verified m.tree) m.next p x found.here found.types r.made r.value found.is_matched found.are_types r.plan in
    let bare = all_bare found.types q.env m.next _ p.new found.here q.last r.made q.made in
    let named = and_parts (list_all is_named p.new) _ proper.buildable in
    let none = no_quotients found.types q.env m.next _ p.new found.here q.last r.made named.0 free q.made in
    let after_wellformed = subst (IsWellFormed is_isolated) r.module_is (all_wellformed _ m (made_plain r.insertion r.made _ bare (tt, (tt, tt))) wellformed (accepted p m x wellformed _ n r.edits r.becomes_it)) in
    let better = subst (λ o. refines o (c r.value) ≡ true) (sym (goes.agrees (Result x 0) (root_below m.tree (is_verified m.tree) m.next p x a done proper below found))) goes.refined in
    let operands = operands_stand is_isolated m.tree wellformed.distinct wellformed.wellformed.visible in
    let root = root_computed m.tree (is_verified m.tree) m.next p x a done proper found in
    let all : Each (λ h. Unit {0}) m.tree = each_stands (λ h. Unit {0}) [] m.tree (λ s i. tt) in
    let s =
    lifted a c m.next x r.value done (or_new m.next done) goes.agrees m.tree below operands r.insertion r.made bare (subst (λ t. HasDistinctIds t) r.is after_wellformed.distinct) (subst AreKinded r.is kinded)
    of goes.typed (old_ready a c m.next x r.value done (or_new m.next done) goes.agrees m.tree below operands was fits sure)
    (new_ready c (or_new m.next done) m.next r.made goes.fits none (all_unflagged found.types q.env m.next _ p.new found.here q.last r.made q.made))
    (uses_better c (or_new m.next done) x r.value better m.tree all) (new_uses_better c (or_new m.next done) x r.value better m.next r.made) in
    let later = or_new m.next done in
    let were : Each (Was m.next done (or_new m.next done) m.tree) (rewritten r.insertion m.next r.made x r.value m.tree) =
    given_each a c m.next x r.value done (Was m.next done later m.tree) (λ h p. p) (with_made r.insertion m.next r.made m.tree)
    (all_put (Was m.next done later m.tree) r.insertion m.next r.made m.tree (was_new m.next done later m.tree m.next r.made (omega arith)) bare (was_old m.next done later m.tree wellformed.distinct was)) in
    record {
      now = s.now;
      better = λ v l. subst (λ o. refines o (s.now v) ≡ true) (goes.agrees v l) (s.better v);
      stays = λ v l e. s.stays v (free_still m.next done later m.tree (rewritten r.insertion m.next r.made x r.value m.tree) were v l e) ∙ goes.agrees v l;
      fits = subst (λ t. FitsAll s.now (or_new m.next done) t) (sym r.is) s.fits;
      typed = subst (λ t. AreOfTypes s.now t) (sym r.is) s.typed;
      sure = subst (λ t. AllSure s.now (or_new m.next done) t) (sym r.is) s.sure;
      shows = subst (Shows a s.now m later) (sym r.is)
          (made_shows m x a done later wellformed c goes.agrees r.insertion r.made r.value bare root (all_arithmetic c m.next r.made goes.fits) better s.now s.better);
    }
  where
    above : (k y : ℕ) → y < k → nat_le k y ≡ true → ⊥
    above k y l e = absurd (grind (arith, nat_tests))

    was : (y : ℕ) → y < m.next → or_new m.next done y ≡ true → done y ≡ true
    was y l e = elim (or_cases (done y) (nat_le m.next y) e) [ inl h ↦ h | inr h ↦ absurd (above m.next y l h) ]

-- the root's outcome is known
pub rewrites_compute : RewritesCompute
rewrites_compute p m n x a done k wellformed proper fits of found keeps root e =
    let q = applies p m n x e in
    let below = is_below m.next m.tree wellformed.below in
    let computes : Computes a done m.next m.tree = record { below = below; fits = fits; typed = of } in
    let operands = operands_stand is_isolated m.tree wellformed.distinct wellformed.wellformed.visible in
    let r = rewritten_computes m.tree (is_verified m.tree) m.next p x a done q.insertion k proper computes operands found keeps.0 keeps.1 root q.made q.value q.plan in
    let goes = plans_go m.tree (is_verified m.tree) m.next p x a done proper computes found keeps.0 keeps.1 q.made q.value q.plan in
    let there = planned_there m.tree (is_verified m.tree) m.next p x found.here found.types q.made q.value found.is_matched found.are_types q.plan in
    let bare = all_bare found.types there.env m.next _ p.new found.here there.last q.made there.made in
    let root_is : r.now (Result x 0) ≡ Some k = r.agrees (Result x 0) (root_below m.tree (is_verified m.tree) m.next p x a done proper below found) ∙ root in
    let better : refines (r.now (Result x 0)) (r.now q.value) ≡ true = (λ i. refines (root_is i) (r.given_is i)) ∙ itself (Some k) in (
      r.now,
      r.agrees,
      subst (λ t. FitsAll r.now (or_new m.next done) t) (sym q.is) r.computes.fits,
      subst (λ t. AreOfTypes r.now t) (sym q.is) r.computes.typed,
      subst (Shows a r.now m (or_new m.next done)) (sym q.is)
          (made_shows m x a done (or_new m.next done) wellformed r.now r.agrees q.insertion q.made q.value bare
          (root_computed m.tree (is_verified m.tree) m.next p x a done proper found) (all_arithmetic goes.after m.next q.made goes.fits) better r.now (λ w. itself (r.now w))),
    )
