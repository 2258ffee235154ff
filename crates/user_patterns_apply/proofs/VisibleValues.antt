-- The values that a pattern matches at an operation dominate the operation.
use Rattle.std.proofs.Common.{◌≡◌, ℕ, refl, ap, sym, ◌∙◌, subst, List, [], ◌∷◌, Bool, true, ◌&&◌, Option, Some, None, slice_get, inl, inr}
use Rattle.std.specs.Prelude.{eqb, option_map}
use Rattle.ir_event.specs.types.Words.{is_isolated}
use Rattle.ir_event.specs.trees.declared.value.Value.{Value}
use Rattle.ir_event.specs.trees.declared.value.Value.TheVariants.{Result, Arg}
use Rattle.ir_event.specs.trees.declared.place.Place.{Place}
use Rattle.ir_event.specs.trees.Tree.{head}
use Rattle.ir_event.specs.trees.Ids.{find}
use Rattle.ir_event.specs.trees.Places.{place_of}
use Rattle.ir_event.specs.trees.Uses.{same_value}
use Rattle.ir_event.specs.trees.Meaning.{Operation}
use Rattle.ir_event.specs.trees.WellFormed.{IsWellFormed}
use Rattle.ir_event.proofs.of_trees.Replaced.{same_value_true}
use Rattle.ir_event.specs.tree_laws.Members.{In}
use Rattle.ir_event.specs.tree_laws.Stands.{dominated_by as dominated_by_from}
use Rattle.ir_event.proofs.of_tree_laws.Members.{found_stands}
use Rattle.ir_event.proofs.of_tree_laws.DominatedBy.{visible_there}
use Rattle.ir_event.specs.Modules.{Module}
use Rattle.patterns_base.proofs.Preceding.{after_dominated_by}
use Rattle.patterns_base.proofs.Given.{seer}
use Rattle.patterns_base.proofs.Made.{located}
use Rattle.patterns_base.proofs.Plans.{StandsAt, dominated_by}
use Rattle.patterns_base.specs.Looks.{insertion_of, defining_op, insertion_point}
use Rattle.patterns_soundness.proofs.Points.{DefiningOp, defining_op_is, own_operand}
use Rattle.user_patterns_data.specs.Matching.{Header, BoundValues, all_bound, constraints_agree, bound, defining_op_head, header_matched, nothing, op_matches, ops_match, binding_at, value_matched, when}
use Rattle.user_patterns_data.specs.Names.{name_of, operands_of}
use Rattle.user_patterns_data.specs.declared.pattern.PatternOp.{PatternOp}
use Rattle.user_patterns_data.proofs.BoundValues.{all_keep}
use Rattle.patterns_base.specs.Words.{named}
use Rattle.user_patterns_apply.proofs.FoundBuilt.{all_from, bound_at, bound_from, given_is, standing_is, when_is}
use Rattle.std.proofs.lemmas.Bool.{cases_eq}
use Rattle.std.proofs.lemmas.Option.{same_Some}

module _ (m : Module) (x : ℕ) (wellformed : IsWellFormed is_isolated m) where
  -- the operation is directly after the insertion point `front`
  pub stands : (insertion : Place) → insertion_of x m.tree ≡ Some insertion → StandsAt x insertion m
  stands insertion e = go (place_of x m.tree) refl e
    where
      go : (p : Option Place) → place_of x m.tree ≡ p → option_map (insertion_point x) p ≡ Some insertion → StandsAt x insertion m
      go None is e = absurd cc
      go (Some p) is e = (let one : insertion_point x p ≡ insertion = cc in subst (λ z. StandsAt x z m) one (located is_isolated x p m wellformed is))

  -- its operands dominate the operation, and so do the operands of an operation whose result dominates it
  pub dominated_by_own : (o : Operation) → find x m.tree ≡ Some o → (v : Value) → In v (head o).operands → dominated_by x v m ≡ true
  dominated_by_own o e v i =
      let w = found_stands x m.tree o e in
      ap (λ z. dominated_by z v m) (sym w.2)
      ∙ visible_there is_isolated m.tree wellformed.distinct w.0 w.1 v
      ∙ own_operand m.tree wellformed.distinct wellformed.wellformed.visible w.0 w.1 v (subst (λ (z : Operation). In v (head z).operands) (sym w.3) i)

  pub dominated_by_far : (v : Value) → dominated_by x v m ≡ true → (h : Header) → DefiningOp m.tree v h → (w : Value) → In w h.operands → dominated_by x w m ≡ true
  dominated_by_far v seen h g w i =
      let d = wellformed.distinct in
      let far = found_stands g.id m.tree g.there g.found in
      let inner = own_operand m.tree d wellformed.wellformed.visible far.0 far.1 w (subst (λ (z : Operation). In w (head z).operands) (sym far.3) (subst (λ (z : Header). In w z.operands) (sym g.header) i)) in
      let own = seer is_isolated m.tree d x v seen in
      ap (λ z. dominated_by z w m) (sym own.2)
      ∙ visible_there is_isolated m.tree d own.0 own.1 w
      ∙ after_dominated_by is_isolated m.tree d far.0.here far.0.path far.1 own.0.here own.0.path own.1 g.number
      (ap (λ z. dominated_by_from is_isolated own.0.path z) (sym (g.is ∙ ap (λ z. Result z g.number) (sym far.2))) ∙ own.3) w inner

  -- ---- values bound by a match

  module _ (root : ℕ) (verified : Header → Bool) where
    -- the operation's result is bound at the root's place, and the values at other places dominate the operation
    pub record DominatedBy (b : BoundValues Value) : Type 0 where
      pub at : slice_get b root ≡ Some (Some (Result x 0))
      pub other : (j : ℕ) (u : Value) → (j ≡ root → ⊥) → slice_get b j ≡ Some (Some u) → dominated_by x u m ≡ true

    pub begins : (k : ℕ) (b : BoundValues Value) → bound same_value root (Result x 0) (nothing k) ≡ Some b → ((j : ℕ) (u : Value) → slice_get (nothing k) j ≡ Some (Some u) → ⊥) → DominatedBy b
    begins k b e empty =
        record {
          at = bound_at same_value same_value_true root (Result x 0) (nothing k) b e;
          other = λ j u n at. elim (bound_from same_value same_value_true root (Result x 0) (nothing k) b e j u at) [ inl h ↦ absurd (empty j u h) | inr h ↦ absurd (n h.0) ];
        }

    head_defining_op : (v : Value) (h : Header) → defining_op_head m.tree verified v ≡ Some h → defining_op m.tree v ≡ Some h
    head_defining_op (Arg y r k) h e = absurd cc
    head_defining_op (Result y k) h e =
        (let g = given_is (option_map (λ o. head o) (find y m.tree)) (λ h. when (verified h && eqb k 0) (Some h)) h e in
        let w = when_is (verified g.0 && eqb k 0) (Some g.0) h g.2 in
        g.1 ∙ w.1)

    goes_on : (p : ℕ × PatternOp) (b c : BoundValues Value) → op_matches m.tree verified p b ≡ Some c → DominatedBy b → DominatedBy c
    goes_on p b c e s =
        (let v = given_is (binding_at p.0 b) (λ v. value_matched m.tree verified p.1 v b) c e in
        let h = given_is (defining_op_head m.tree verified v.0) (λ h. header_matched m.tree verified p.1 h b) c v.2 in
        let w = when_is (named (name_of p.1.form) h.0.name && constraints_agree m.tree verified p.1 h.0) (all_bound same_value (operands_of p.1.form) h.0.operands b) c h.2 in
        record {
          at = all_keep same_value (operands_of p.1.form) h.0.operands b c w.1 root (Result x 0) s.at;
          other = λ j u n at. elim (all_from same_value same_value_true (operands_of p.1.form) h.0.operands b c w.1 j u at) [
            | inl k ↦ s.other j u n k
            | inr i ↦ operand v.0 (standing_is p.0 b v.0 v.1) h.0 (defining_op_is m.tree v.0 h.0 (head_defining_op v.0 h.0 h.1)) u i
          ];
        })
      where
        own : (v : Value) → v ≡ Result x 0 → (h : Header) → DefiningOp m.tree v h → (u : Value) → In u h.operands → dominated_by x u m ≡ true
        own v is h g u i =
            let one : x ≡ g.id = (let two : Result x 0 ≡ Result g.id g.number = sym is ∙ g.is in cc) in
            dominated_by_own g.there (ap (λ z. find z m.tree) one ∙ g.found) u (subst (λ (z : Header). In u z.operands) (sym g.header) i)

        operand : (v : Value) → slice_get b p.0 ≡ Some (Some v) → (h : Header) → DefiningOp m.tree v h → (u : Value) → In u h.operands → dominated_by x u m ≡ true
        operand v at h g u i = elim (cases_eq p.0 root) [
          | inl r ↦ own v (let two : Some (Some v) ≡ Some (Some (Result x 0)) = sym at ∙ ap (slice_get b) r ∙ s.at in cc) h g u i
          | inr n ↦ dominated_by_far v (s.other p.0 v n at) h g u i
        ]

    pub pattern_ops_see : (ps : List (ℕ × PatternOp)) (b c : BoundValues Value) → ops_match m.tree verified ps b ≡ Some c → DominatedBy b → DominatedBy c
    pattern_ops_see [] b c e s = subst DominatedBy (same_Some b c e) s
    pattern_ops_see (p ∷ ps) b c e s = (let g = given_is (op_matches m.tree verified p b) (ops_match m.tree verified ps) c e in pattern_ops_see ps g.0 c g.2 (goes_on p b g.0 g.1 s))
