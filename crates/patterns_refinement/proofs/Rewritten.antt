-- The tree after a pattern is applied computes what the tree computed.
use Rattle.std.proofs.Common.{◌≡◌, ℕ, ◌+◌, ◌<◌, ◌≤◌, refl, ap, sym, ◌∙◌, subst, List, [], ◌∷◌, length, map, Bool, true, false, Option, Some, None, inl, inr, arith}
use Rattle.std.specs.Prelude.{nat_le, option_map, slice_get, is_some, if◌then◌else◌}
use Rattle.std.specs.List.{list_all}
use Rattle.std.proofs.lemmas.Bool.{and_parts, or_cases}
use Rattle.std.proofs.lemmas.Bool.Decides.{nat_tests}
use Rattle.std.proofs.lemmas.Option.{same_Some}
use Rattle.ir_types.specs.declared.bits.BitsKind.{BitsKind}
use Rattle.ir_types.specs.Terms.{TypeTerm}
use Rattle.ir_tree.specs.declared.value.Value.{Value}
use Rattle.ir_tree.specs.declared.value.Value.TheVariants.{Result, Arg}
use Rattle.ir_tree.specs.declared.place.Place.{Place}
use Rattle.ir_tree.specs.Tree.{op, no_regions, head, regions}
use Rattle.ir_tree.specs.Edits.{put_value, put_values, with_value_replaced}
use Rattle.ir_tree.specs.Places.{put}
use Rattle.ir_tree.specs.Uses.{same_value}
use Rattle.ir_tree.specs.Meaning.{Operation}
use Rattle.ir_tree_laws.specs.Reasons.{with_id}
use Rattle.ir_tree_laws.specs.Values.{has_value}
use Rattle.dialects_int.specs.declared.operations.Rule.{Rule}
use Rattle.dialects_int.specs.declared.operations.Rule.TheVariants as rule
use Rattle.dialects_int.specs.Folds.{Known, rule_of}
use Rattle.patterns_laws.specs.Made.{constant, made}
use Rattle.patterns_laws.proofs.KnownFolds.{given_some}
use Rattle.user_patterns_check.specs.Outcomes.{Outcome, given}
use Rattle.user_patterns_check.specs.Checks.{refines}
use Rattle.user_patterns_check.proofs.Keeping.{value_refined}
use Rattle.user_patterns_data.specs.declared.pattern.NewValue.{NewValue}
use Rattle.user_patterns_data.specs.declared.pattern.NewValue.TheVariants as new
use Rattle.user_patterns_data.specs.Matching.{Header, BoundValues, bound, binding_at}
use Rattle.user_patterns_data.specs.Names.{name_of, operands_of, predicate_of}
use Rattle.user_patterns_data.specs.Planning.{all_made, entries_by, made_as, values_at}
use Rattle.ir_tree.proofs.Replaced.{same_value_true}
use Rattle.patterns_refinement.proofs.Flags.{AreUnflagged, entries_unset, unflagged}
use Rattle.patterns_refinement.specs.Meaning.{AreOfTypes, ArgumentsOfTypes, Assignment, BlocksInRegions, Each, EachBlock, EachInRegions, FitsAll, FitsDone, FitsEach, IsOfType, ResultsOfTypes, TypedEach, makes, makes_by, result_kind, breaks_flags, has_flags}
use Rattle.patterns_refinement.specs.Applied.{Agree, IsBelow}
use Rattle.patterns_refinement.specs.After.{OperandsStand, RewrittenComputes, or_new, with_given, with_made}
use Rattle.patterns_refinement.proofs.Trees.{value_below}
use Rattle.patterns_refinement.proofs.Going.{plans_go, planned_there, root_below}
use Rattle.patterns_refinement.proofs.News.{more_made}
use Rattle.patterns_refinement.proofs.Edited.{blocks_below, blocks_changed, blocks_put, blocks_without, each_both, each_changed, each_put, each_without}

-- ---- the outcome of an operation depends only on its name, its properties and its results
pub same_makes : (h : Header) (y : ℕ) (vs : List Value) (xs : List Outcome) → makes (record h { id = y; operands = vs }) xs ≡ makes h xs
same_makes h y vs xs = go (rule_of h.name) (result_kind h)
  where
    by : (r : Rule) (k : BitsKind) → makes_by r (record h { id = y; operands = vs }) k xs ≡ makes_by r h k xs
    by rule.Constant k = refl
    by (rule.Binary o) k = refl
    by rule.Compare k = refl
    by rule.Select k = refl
    by (rule.IntegerCast c) k = refl
    by (rule.IndexCast c) k = refl

    go : (r : Option Rule) (k : Option BitsKind) → given r (λ r. given k (λ k. makes_by r (record h { id = y; operands = vs }) k xs)) ≡ given r (λ r. given k (λ k. makes_by r h k xs))
    go None k = refl
    go (Some r) None = refl
    go (Some r) (Some k) = by r k

-- ---- new operations have no regions
abbrev pub AllBare : List Operation → Type 0
AllBare [] = Unit {0}
AllBare (o ∷ os) = (regions o ≡ no_regions) × AllBare os

module _ (ts : BoundValues TypeTerm) (env : List Outcome) where
  one_bare : (w : NewValue) (b : BoundValues Value) (o : Operation) → made_as b ts env w ≡ Some o → regions o ≡ no_regions
  one_bare (new.Operation p) b o e =
      let g = given_some (values_at (operands_of p.form) b) (λ vs. given (binding_at p.ty ts) (λ term. Some (made (name_of p.form) vs term (entries_by (predicate_of p.form) (name_of p.form))))) o e in
      let l = given_some (binding_at p.ty ts) (λ term. Some (made (name_of p.form) g.0 term (entries_by (predicate_of p.form) (name_of p.form)))) o g.2 in
      ap (λ (o : Operation). regions o) (sym (same_Some _ _ l.2))
  one_bare (new.Constant i t) b o e =
      let g = given_some (given (slice_get env i) (λ x. x)) (λ (x : Known). given (binding_at t ts) (λ term. Some (constant term x.1))) o e in
      let l = given_some (binding_at t ts) (λ term. Some (constant term g.0.1)) o g.2 in
      ap (λ (o : Operation). regions o) (sym (same_Some _ _ l.2))

  pub all_bare : (n k : ℕ) (ws : List NewValue) (b d : BoundValues Value) (os : List Operation) → all_made ts env n k ws b ≡ Some (os, d) → AllBare os
  all_bare n k [] b d os e = let s : ([], b) ≡ (os, d) = same_Some _ _ e in subst AllBare (ap (λ (r : List Operation × BoundValues Value). r.0) s) tt
  all_bare n k (w ∷ ws) b d os e =
      let g = given_some (made_as b ts env w) (λ o. given (bound same_value k (Result n 0) b) (λ c. option_map (λ (r : List Operation × BoundValues Value). (o ∷ r.0, r.1)) (all_made ts env (n + 1) (k + 1) ws c))) (os, d) e in
      let h = given_some (bound same_value k (Result n 0) b) (λ c. option_map (λ (r : List Operation × BoundValues Value). (g.0 ∷ r.0, r.1)) (all_made ts env (n + 1) (k + 1) ws c)) (os, d) g.2 in
      let m = more_made g.0 (all_made ts env (n + 1) (k + 1) ws h.0) os d h.2 in
      subst AllBare m.2 (one_bare w b g.0 g.1, all_bare (n + 1) (k + 1) ws h.0 d m.0 m.1)

  one_unflagged : (w : NewValue) (b : BoundValues Value) (o : Operation) → made_as b ts env w ≡ Some o → has_flags (head o) ≡ false
  one_unflagged (new.Operation p) b o e =
      let g = given_some (values_at (operands_of p.form) b) (λ vs. given (binding_at p.ty ts) (λ term. Some (made (name_of p.form) vs term (entries_by (predicate_of p.form) (name_of p.form))))) o e in
      let l = given_some (binding_at p.ty ts) (λ term. Some (made (name_of p.form) g.0 term (entries_by (predicate_of p.form) (name_of p.form)))) o g.2 in
      subst (λ (o : Operation). has_flags (head o) ≡ false) (same_Some _ _ l.2) (entries_unset (predicate_of p.form) (name_of p.form))
  one_unflagged (new.Constant i t) b o e =
      let g = given_some (given (slice_get env i) (λ x. x)) (λ (x : Known). given (binding_at t ts) (λ term. Some (constant term x.1))) o e in
      let l = given_some (binding_at t ts) (λ term. Some (constant term g.0.1)) o g.2 in
      subst (λ (o : Operation). has_flags (head o) ≡ false) (same_Some _ _ l.2) refl

  pub all_unflagged : (n k : ℕ) (ws : List NewValue) (b d : BoundValues Value) (os : List Operation) → all_made ts env n k ws b ≡ Some (os, d) → AreUnflagged os
  all_unflagged n k [] b d os e = let s : ([], b) ≡ (os, d) = same_Some _ _ e in subst AreUnflagged (ap (λ (r : List Operation × BoundValues Value). r.0) s) tt
  all_unflagged n k (w ∷ ws) b d os e =
      let g = given_some (made_as b ts env w) (λ o. given (bound same_value k (Result n 0) b) (λ c. option_map (λ (r : List Operation × BoundValues Value). (o ∷ r.0, r.1)) (all_made ts env (n + 1) (k + 1) ws c))) (os, d) e in
      let h = given_some (bound same_value k (Result n 0) b) (λ c. option_map (λ (r : List Operation × BoundValues Value). (g.0 ∷ r.0, r.1)) (all_made ts env (n + 1) (k + 1) ws c)) (os, d) g.2 in
      let m = more_made g.0 (all_made ts env (n + 1) (k + 1) ws h.0) os d h.2 in
      subst AreUnflagged m.2 (one_unflagged w b g.0 g.1, all_unflagged (n + 1) (k + 1) ws h.0 d m.0 m.1)

-- ---- the tree with the new operations
module _ (P : Header → Type 0) where
  abbrev pub AllPut : ℕ → List Operation → Type 0
  AllPut m [] = Unit {0}
  AllPut m (o ∷ os) = P (record (head o) { id = m }) × AllPut (m + 1) os

  one_put : (m : ℕ) (o : Operation) → P (record (head o) { id = m }) → regions o ≡ no_regions → Each P (with_id m o)
  one_put m (op h rs) p e = (p, subst (λ rs. EachInRegions P rs) (sym e) tt)

  pub all_put : (insertion : Place) (m : ℕ) (os : List Operation) (t : Operation) → AllPut m os → AllBare os → Each P t → Each P (with_made insertion m os t)
  all_put insertion m [] t p bare s = s
  all_put insertion m (o ∷ os) t p bare s = all_put insertion (m + 1) os (put insertion (with_id m o) t) p.1 bare.1 (each_put P insertion (with_id m o) (one_put m o p.0 bare.0) t s)

module _ (Q : ℕ → ℕ → List TypeTerm → Type 0) where
  one_blocks : (m : ℕ) (o : Operation) → regions o ≡ no_regions → EachBlock Q (with_id m o)
  one_blocks m (op h rs) e = subst (λ rs. BlocksInRegions Q m 0 rs) (sym e) tt

  pub all_blocks : (insertion : Place) (m : ℕ) (os : List Operation) (t : Operation) → AllBare os → EachBlock Q t → EachBlock Q (with_made insertion m os t)
  all_blocks insertion m [] t bare s = s
  all_blocks insertion m (o ∷ os) t bare s = all_blocks insertion (m + 1) os (put insertion (with_id m o) t) bare.1 (blocks_put Q insertion (with_id m o) (one_blocks m o bare.0) t s)

-- ids
new_below : (end m : ℕ) (os : List Operation) → m + length os ≤ end → AllPut (λ h. h.id < end) m os
new_below end m [] l = tt
new_below end m (o ∷ os) l = (omega (arith, l), new_below end (m + 1) os (omega (arith, l)))

-- types
pub new_typed : (c : Assignment) (m : ℕ) (os : List Operation) → TypedEach c m os → AllPut (ResultsOfTypes c) m os
new_typed c m [] s = tt
new_typed c m (o ∷ os) s = (s.0, new_typed c (m + 1) os s.1)

module _ (a c : Assignment) (n x : ℕ) (v : Value) (done : ℕ → Bool) where
  -- the operation fits if it is executed or new
  abbrev IsFit : Header → Type 0
  IsFit h = FitsDone c (or_new n done) h

  new_fit : (m : ℕ) (os : List Operation) → FitsEach c m os → AreUnflagged os → AllPut IsFit m os
  new_fit m [] s u = tt
  new_fit m (o ∷ os) s u = (
    (λ h1 h2. inl (same_makes (head o) m (head o).operands (map c (head o).operands) ∙ s.0, unflagged (head o) (map c (head o).operands) u.0)),
    new_fit (m + 1) os s.1 u.1,
  )

  module _ (agree : Agree n a c) (t : Operation) (below : IsBelow n t) where
    pub operands_same : (vs : List Value) → list_all (λ v. has_value v t) vs ≡ true → map c vs ≡ map a vs
    operands_same [] e = refl
    operands_same (w ∷ ws) e =
        let h = and_parts (has_value w t) (list_all (λ v. has_value v t) ws) e in
        (λ i. agree w (value_below n t below w h.0) i ∷ operands_same ws h.1 i)

    abbrev IsKnown : Header → Type 0
    IsKnown h = FitsDone a done h × (h.id < n)

    old_fits : FitsAll a done t → OperandsStand t → Each IsFit t
    old_fits fits operands =
        each_both IsKnown (λ h. list_all (λ v. has_value v t) h.operands ≡ true) IsFit one t
        (each_both (FitsDone a done) (λ h. h.id < n) IsKnown (λ h p q. (p, q)) t fits below) operands
      where
        above : (k y : ℕ) → y < k → nat_le k y ≡ true → ⊥
        above k y l e = absurd (grind (arith, nat_tests))

        was_done : (y : ℕ) → y < n → or_new n done y ≡ true → done y ≡ true
        was_done y l e = elim (or_cases (done y) (nat_le n y) e) [ inl h ↦ h | inr h ↦ absurd (above n y l h) ]

        one : (h : Header) → IsKnown h → list_all (λ v. has_value v t) h.operands ≡ true → IsFit h
        one h p q is arithmetic =
            let operands = ap (makes h) (operands_same h.operands q) in
            let broken = ap (breaks_flags h) (operands_same h.operands q) in
            let result = agree (Result h.id 0) p.1 in
            elim (p.0 (was_done h.id p.1 is) arithmetic) [
              | inl f ↦ inl (operands ∙ f.0 ∙ ap (λ o. Some o) (sym result), broken ∙ f.1)
              | inr f ↦ inr (broken ∙ f.0, ap is_some operands ∙ f.1, result ∙ f.2)
            ]

    -- the operation's id is below any greater bound, and its outcomes are of its types
    old_below : (end : ℕ) → n ≤ end → Each (λ h. h.id < end) t
    old_below end l = each_both (λ h. h.id < n) (λ h. h.id < n) (λ h. h.id < end) (λ h p q. omega (arith, p, l)) t below below

    pub old_typed : AreOfTypes a t → AreOfTypes c t
    old_typed of = (
      each_both (ResultsOfTypes a) (λ h. h.id < n) (ResultsOfTypes c) (λ h p q k ty e. subst (IsOfType ty) (sym (agree (Result h.id k) q)) (p k ty e)) t of.0 below,
      blocks_below (ArgumentsOfTypes a) (ArgumentsOfTypes c) n (λ y r args l q k ty e. subst (IsOfType ty) (sym (agree (Arg y r k) l)) (q k ty e)) t below of.1,
    )

  -- ---- the tree with the result replaced
  module _ (same : c v ≡ c (Result x 0)) where
    value_same : (w : Value) → c (put_value (Result x 0) v w) ≡ c w
    value_same w = go (same_value (Result x 0) w) refl
      where
        go : (b : Bool) → same_value (Result x 0) w ≡ b → c (if b then v else w) ≡ c w
        go true e = same ∙ ap c (same_value_true (Result x 0) w e)
        go false e = refl

    values_same : (ws : List Value) → map c (map (put_value (Result x 0) v) ws) ≡ map c ws
    values_same [] = refl
    values_same (w ∷ ws) = λ i. value_same w i ∷ values_same ws i

    given_fits : (t : Operation) → Each IsFit t → FitsAll c (or_new n done) (with_given x v t)
    given_fits t s = each_without IsFit x (with_value_replaced (Result x 0) v t) (each_changed IsFit IsFit (put_values (Result x 0) v) change t s)
      where
        change : (h : Header) → IsFit h → IsFit (put_values (Result x 0) v h)
        change h p is arithmetic =
            let same = same_makes h h.id (map (put_value (Result x 0) v) h.operands) (map c (map (put_value (Result x 0) v) h.operands)) ∙ ap (makes h) (values_same h.operands) in
            let broken = ap (breaks_flags h) (values_same h.operands) in
            elim (p is arithmetic) [ inl f ↦ inl (same ∙ f.0, broken ∙ f.1) | inr f ↦ inr (broken ∙ f.0, ap is_some same ∙ f.1, f.2) ]

  pub given_each : (P : Header → Type 0) → ((h : Header) → P h → P (put_values (Result x 0) v h)) → (t : Operation) → Each P t → Each P (with_given x v t)
  given_each P change t s = each_without P x (with_value_replaced (Result x 0) v t) (each_changed P P (put_values (Result x 0) v) change t s)

  pub given_blocks : (Q : ℕ → ℕ → List TypeTerm → Type 0) (t : Operation) → EachBlock Q t → EachBlock Q (with_given x v t)
  given_blocks Q t s = blocks_without Q x (with_value_replaced (Result x 0) v t) (blocks_changed Q (put_values (Result x 0) v) (λ h. refl) t s)

pub rewritten_computes : RewrittenComputes
rewritten_computes t verified n p x a done insertion k proper computes operands found constants always root made v plan =
    let goes = plans_go t verified n p x a done proper computes found constants always made v plan in
    let c = goes.after in
    let q = planned_there t verified n p x found.here found.types made v found.is_matched found.are_types plan in
    let bare = all_bare found.types q.env n _ p.new found.here q.last made q.made in
    let given_is : c v ≡ Some k = value_refined k (c v) (subst (λ o. refines o (c v) ≡ true) root goes.refined) in
    let root_is : c (Result x 0) ≡ Some k = goes.agrees (Result x 0) (root_below t verified n p x a done proper computes.below found) ∙ root in
    record {
      now = c;
      agrees = goes.agrees;
      given_is = given_is;
      computes = record {
        below =
            given_each a c n x v done (λ h. h.id < n + length made) (λ h p. p) (with_made insertion n made t)
            (all_put (λ h. h.id < n + length made) insertion n made t (new_below (n + length made) n made (omega arith)) bare (old_below a c n x v done goes.agrees t computes.below (n + length made) (omega arith)));
        fits =
            given_fits a c n x v done (given_is ∙ sym root_is) (with_made insertion n made t)
            (all_put (IsFit a c n x v done) insertion n made t (new_fit a c n x v done n made goes.fits (all_unflagged found.types q.env n _ p.new found.here q.last made q.made)) bare (old_fits a c n x v done goes.agrees t computes.below computes.fits operands));
        typed =
            let old = old_typed a c n x v done goes.agrees t computes.below computes.typed in (
              given_each a c n x v done (ResultsOfTypes c) (λ h p. p) (with_made insertion n made t) (all_put (ResultsOfTypes c) insertion n made t (new_typed c n made goes.typed) bare old.0),
              given_blocks a c n x v done (ArgumentsOfTypes c) (with_made insertion n made t) (all_blocks (ArgumentsOfTypes c) insertion n made t bare old.1),
            );
      };
    }
