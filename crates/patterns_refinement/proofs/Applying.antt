-- The module after a pattern is applied computes what the module computed.
use Rattle.std.proofs.Common.{◌≡◌, ℕ, ◌+◌, refl, ap, sym, ◌∙◌, subst, List, [], ◌∷◌, ◌++◌, map, Bool, true, false, Option, Some, None}
use Rattle.std.specs.Prelude.{nat_le, if◌then◌else◌}
use Rattle.std.proofs.lemmas.Option.{none-some, same_Some}
use Rattle.ir_tree.specs.declared.value.Value.{Value}
use Rattle.ir_tree.specs.declared.place.Place.{Place}
use Rattle.ir_tree.specs.Tree.{head}
use Rattle.ir_tree.specs.Ids.{find, op_count}
use Rattle.ir_tree.specs.Limits.{most_ops, most_next}
use Rattle.ir_tree.specs.Meaning.{Operation}
use Rattle.ir_event.specs.Modules.{Module}
use Rattle.ir_types.specs.declared.refusal.Refusal.TheVariants.{Full, IdsExhausted}
use Rattle.rewriter_machine.specs.Contents.{Edit, all_edited}
use Rattle.rewriter_machine.specs.Edits.{Make}
use Rattle.patterns_base.specs.Looks.{insertion_of, is_verified}
use Rattle.patterns_base.specs.Looks as looks
use Rattle.patterns_base.specs.Makes.{give, made_by}
use Rattle.patterns_base.proofs.Facts.{when_some}
use Rattle.patterns_base.specs.Rewrites.{becomes, carried_out, none, refused, rewrite_by}
use Rattle.patterns_laws.proofs.KnownFolds.{given_some}
use Rattle.user_patterns_check.specs.Outcomes.{given}
use Rattle.user_patterns_data.specs.Planning.{Plan, planned}
use Rattle.user_patterns_check.specs.Checks.{AlwaysKeeps}
use Rattle.user_patterns_data.specs.Shapes.{PatternModel}
use Rattle.user_patterns_build.specs.CanBuild.{can_build}
use Rattle.user_patterns_apply.specs.Built.{plan_of}
use Rattle.user_patterns_apply.specs.Own.{edits_for, is_one, user_pattern_edits, user_pattern_rewrite}
use Rattle.user_patterns_apply.proofs.FoundBuilt.{when_is}
use Rattle.patterns_refinement.specs.After.{rewritten, with_made}
use Rattle.patterns_refinement.specs.Applying.{CheckedKeepsThere}

-- ---- edits in sequence
module _ (m n : Module) where
  pub some_edits : (r : Option (List Edit)) → rewrite_by r m ≡ becomes n → (es : List Edit) × (r ≡ Some es) × (carried_out es m ≡ becomes n)
  some_edits None e = absurd (none_becomes e)
    where
      none_becomes : none ≡ becomes n → ⊥
      none_becomes e = cc
  some_edits (Some es) e = (es, refl, e)

  pub carried : (es : List Edit) → carried_out es m ≡ becomes n → all_edited es m ≡ n
  carried es e = go (nat_le (op_count m.tree + made_by es) most_ops) (nat_le (m.next + made_by es) most_next) e
    where
      go : (b c : Bool) → (if b then (if c then becomes (all_edited es m) else refused IdsExhausted) else refused Full) ≡ becomes n → all_edited es m ≡ n
      go true true e = same (all_edited es m) e
        where
          same : (k : Module) → becomes k ≡ becomes n → k ≡ n
          same k e = cc
      go true false e = absurd (refused_becomes e)
        where
          refused_becomes : refused IdsExhausted ≡ becomes n → ⊥
          refused_becomes e = cc
      go false c e = absurd (refused_becomes e)
        where
          refused_becomes : refused Full ≡ becomes n → ⊥
          refused_becomes e = cc

-- ---- the tree after edits
pub all_edited_made : (insertion : Place) (os : List Operation) (x : ℕ) (v : Value) (m : Module) → (all_edited (map (λ o. Make insertion o) os ++ give x v) m).tree ≡ rewritten insertion m.next os x v m.tree
all_edited_made insertion [] x v m = refl
all_edited_made insertion (o ∷ os) x v m = all_edited_made insertion os x v (record { tree = with_made insertion m.next (o ∷ []) m.tree; next = m.next + 1 })

module _ (p : PatternModel) (m n : Module) (x : ℕ) where
  pub record Applies : Type 0 where
    pub insertion : Place
    pub made : List Operation
    pub value : Value
    pub plan : planned m.tree (is_verified m.tree) m.next p x ≡ Some (made, value)
    pub edits : user_pattern_edits p m x ≡ Some (map (λ o. Make insertion o) made ++ give x value)
    pub becomes_it : carried_out (map (λ o. Make insertion o) made ++ give x value) m ≡ becomes n
    pub module_is : all_edited (map (λ o. Make insertion o) made ++ give x value) m ≡ n
    pub is : n.tree ≡ rewritten insertion m.next made x value m.tree

  planned_edits : (insertion : Place) (q : Option Plan) (es : List Edit) → edits_for insertion x q ≡ Some es → (plan : Plan) × (q ≡ Some plan) × (map (λ o. Make insertion o) plan.0 ++ give x plan.1 ≡ es)
  planned_edits insertion None es e = absurd (none-some es e)
  planned_edits insertion (Some plan) es e = (plan, refl, same_Some _ _ e)

  edits_parts : (es : List Edit) → user_pattern_edits p m x ≡ Some es
      → (insertion : Place) × (plan : Plan) × (planned m.tree (is_verified m.tree) m.next p x ≡ Some plan) × (map (λ o. Make insertion o) plan.0 ++ give x plan.1 ≡ es)
  unfolding user_pattern_edits
  edits_parts es e =
      let g = given_some (find x m.tree) (λ o. given (insertion_of x m.tree) (λ insertion. looks.when (is_one (head o).results) (edits_for insertion x (plan_of m.tree (is_verified m.tree) m.next p x)))) es e in
      let h = given_some (insertion_of x m.tree) (λ insertion. looks.when (is_one (head g.0).results) (edits_for insertion x (plan_of m.tree (is_verified m.tree) m.next p x))) es g.2 in
      let w = when_some (is_one (head g.0).results) (edits_for h.0 x (plan_of m.tree (is_verified m.tree) m.next p x)) es h.2 in
      let q = planned_edits h.0 (plan_of m.tree (is_verified m.tree) m.next p x) es w.1 in
      let s = when_is (can_build p) (planned m.tree (is_verified m.tree) m.next p x) q.0 q.1 in
      (h.0, q.0, s.1, q.2)

  pub applies : user_pattern_rewrite p m x ≡ becomes n → Applies
  unfolding user_pattern_rewrite
  applies e =
      let r = some_edits m n (user_pattern_edits p m x) e in
      let q = edits_parts r.0 r.1 in
      record {
        insertion = q.0;
        made = q.1.0;
        value = q.1.1;
        plan = q.2;
        edits = r.1 ∙ ap (λ es. Some es) (sym q.3);
        becomes_it = subst (λ es. carried_out es m ≡ becomes n) (sym q.3) r.2;
        module_is = subst (λ es. all_edited es m ≡ n) (sym q.3) (carried m n r.0 r.2);
        is = ap (λ (m : Module). m.tree) (sym (carried m n r.0 r.2) ∙ ap (λ es. all_edited es m) (sym q.3)) ∙ all_edited_made q.0 q.1.0 x q.1.1 m;
      }

pub checked_keeps : CheckedKeepsThere
checked_keeps p m x a done found typed most verdict ws are same = (typed, subst AlwaysKeeps (sym same) (verdict.0 ws are))
