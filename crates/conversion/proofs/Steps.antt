-- What a step at a cast keeps for the other casts: casting back still applies to none of the earlier casts, and only
-- the defining operations of its operands lose a use.
use Rattle.std.proofs.Common.{◌≡◌, refl, ap, sym, ◌∙◌, subst, inl, inr, ◌⊎◌, ℕ, ◌+◌, Bool, true, false, true≢false, cond, not, ◌&&◌, eqb, eqb-true, List, [], ◌∷◌, map, Option, Some, None}
use Rattle.std.specs.Prelude.{nat_le}
use Rattle.std.specs.List.{IsDistinct}
use Rattle.ir_event.specs.types.declared.refusal.Refusal.TheVariants.{Full, IdsExhausted}
use Rattle.ir_event.specs.types.Terms.{TypeTerm, AttrTerm}
use Rattle.ir_event.specs.types.Words.{is_isolated}
use Rattle.ir_event.specs.trees.declared.value.Value.{Value}
use Rattle.ir_event.specs.trees.declared.value.Value.TheVariants.{Result}
use Rattle.ir_event.specs.trees.Tree.{no_regions, head, regions}
use Rattle.ir_event.specs.trees.Ids.{HasDistinctIds, find, op_count}
use Rattle.ir_event.specs.trees.Limits.{most_ops, most_next}
use Rattle.ir_event.specs.trees.Edits.{put_value, put_values, with_value_replaced}
use Rattle.ir_event.specs.trees.Places.{without}
use Rattle.ir_event.specs.trees.Uses.{same_value}
use Rattle.ir_event.specs.trees.Meaning.{Operation}
use Rattle.ir_event.specs.trees.WellFormed.{IsWellFormed}
use Rattle.ir_event.proofs.of_trees.Replaced.{same_value_true}
use Rattle.ir_event.specs.tree_laws.Members.{In}
use Rattle.ir_event.specs.tree_laws.Reads.{precedes}
use Rattle.ir_event.specs.tree_laws.Stands.{OpWithPathOf, dominated_by, dropping}
use Rattle.ir_event.proofs.of_tree_laws.Around.{left_apart}
use Rattle.ir_event.proofs.of_tree_laws.Wellformed.{from_wellformed}
use Rattle.ir_event.proofs.of_tree_laws.Heads.{each_id}
use Rattle.ir_event.proofs.of_tree_laws.HeadForm.{edit_ids}
use Rattle.ir_event.proofs.of_tree_laws.Listed.{all_each, bool_cases, both, not_false}
use Rattle.ir_event.proofs.of_tree_laws.Members.{found_stands}
use Rattle.ir_event.proofs.of_tree_laws.Without.{member_left, same_head}
use Rattle.ir_event.specs.Modules.{Module}
use Rattle.effects.specs.Dead.{is_unused}
use Rattle.patterns_base.specs.Contents.{Edit, all_edited, edited}
use Rattle.patterns_base.specs.Edits.{Erase}
use Rattle.patterns_base.specs.declared.rule.Rule.TheVariants.{CastBack}
use Rattle.patterns_base.specs.Looks.{Header}
use Rattle.patterns_base.specs.Makes.{give, made_by}
use Rattle.patterns_base.specs.Rewrites.{none, refused, becomes, edits_of, rewrite_by, rewrite_of}
use Rattle.patterns_base.specs.Words.{named}
use Rattle.conversion_base.specs.Reconciling.{collapse, is_cast, is_cast_found, rewrite_or, unused_erased}
use Rattle.conversion_base.specs.Targets.{cast_name}
use Rattle.conversion_base.proofs.Falls.{cast_there, found_id, given_at}
use Rattle.conversion_base.proofs.Makes.{applies, rewritten}
use Rattle.conversion.specs.DefiningOps.{defining_ops_of}
use Rattle.conversion.specs.Walks.{is_inner, NoRule}
use Rattle.conversion.proofs.From.{From, from_both, from_edited, from_left}
use Rattle.conversion.proofs.Kept.{rule_back}
use Rattle.conversion.proofs.Order.{never_both, precedes_through, seen_precedes}
use Rattle.conversion.proofs.Used.{freed_erased, freed_replaced}
use Rattle.conversion_base.proofs.Enough.{becomes_is}

-- ---- a step

pub data Step (m n : Module) (x : ℕ) : Type 0 where
  by_erasing : is_unused x m.tree ≡ true → n.tree ≡ without x m.tree → Step m n x
  by_rule : is_unused x m.tree ≡ false → (v : Value) → n.tree ≡ without x (with_value_replaced (Result x 0) v m.tree) → Step m n x

module _ (m n : Module) (x : ℕ) where
  by_cast_back : is_cast x m.tree ≡ true → is_unused x m.tree ≡ false → rewrite_of CastBack m x ≡ becomes n → Step m n x
  by_cast_back c u e =
      let w = rewritten CastBack m n x e in
      let a = applies CastBack m x w.0 w.1 in
      let o = cast_there x m.tree c in
      let same : o.0 ≡ a.here = (let two : Some o.0 ≡ Some a.here = sym o.1 ∙ a.found in cc) in
      let v = given_at m.tree m.next a.insertion a.here w.0 (ap (λ (z : Operation). named cast_name (head z).name) (sym same) ∙ o.2) a.is in
      let id = (found_id x m.tree a.here a.found).1 in
      let is : n ≡ all_edited (give x v.0) m = w.2 ∙ ap (λ es. all_edited es m) (v.1 ∙ ap (λ y. give y v.0) id) in
      by_rule u v.0 (ap (λ (q : Module). q.tree) is)

  by_either : is_cast x m.tree ≡ true → (b : Bool) → is_unused x m.tree ≡ b → rewrite_or (cond b (becomes (edited (Erase x) m)) none) (rewrite_of CastBack m x) ≡ becomes n → Step m n x
  by_either c true u e = by_erasing u (ap (λ (q : Module). q.tree) (sym (becomes_is (edited (Erase x) m) n e)))
  by_either c false u e = by_cast_back c u e

  pub step_of : collapse m x ≡ becomes n → (is_inner x m ≡ true) × Step m n x
  step_of e = go (is_inner x m) refl e
    where
      go : (b : Bool) → is_inner x m ≡ b → cond b (rewrite_or (unused_erased m x) (rewrite_of CastBack m x)) none ≡ becomes n → (is_inner x m ≡ true) × Step m n x
      go true i k = (i, by_either (both (is_cast x m.tree) (not (eqb (head m.tree).id x)) i).0 (is_unused x m.tree) refl k)
      go false i k = absurd cc

-- ---- no step

rewrite_is : (m : Module) (x : ℕ) → rewrite_of CastBack m x ≡ rewrite_by (edits_of CastBack m x) m
unfolding rewrite_of
rewrite_is m x = refl

no_edits : (m : Module) (o : Option (List Edit)) → rewrite_by o m ≡ none → o ≡ None
no_edits m None e = refl
no_edits m (Some es) e = absurd (go (nat_le (op_count m.tree + made_by es) most_ops) (nat_le (m.next + made_by es) most_next) e)
  where
    go : (a b : Bool) → cond a (cond b (becomes (all_edited es m)) (refused IdsExhausted)) (refused Full) ≡ none → ⊥
    go true true e = absurd cc
    go true false e = absurd cc
    go false b e = absurd cc

-- a cast that isn't erased is used, and casting back doesn't apply to it
pub none_parts : (m : Module) (x : ℕ) → collapse m x ≡ none → is_inner x m ≡ true → (is_unused x m.tree ≡ false) × (edits_of CastBack m x ≡ None)
none_parts m x e i = used (is_unused x m.tree) refl (sym (ap (λ b. cond b (rewrite_or (unused_erased m x) (rewrite_of CastBack m x)) none) i) ∙ e)
  where
    used : (b : Bool) → is_unused x m.tree ≡ b → rewrite_or (cond b (becomes (edited (Erase x) m)) none) (rewrite_of CastBack m x) ≡ none → (is_unused x m.tree ≡ false) × (edits_of CastBack m x ≡ None)
    used true u k = absurd cc
    used false u k = (u, no_edits m (edits_of CastBack m x) (sym (rewrite_is m x) ∙ k))

pub none_of_parts : (m : Module) (x : ℕ) → (is_inner x m ≡ true → (is_unused x m.tree ≡ false) × (edits_of CastBack m x ≡ None)) → collapse m x ≡ none
none_of_parts m x f = go (is_inner x m) refl
  where
    go : (b : Bool) → is_inner x m ≡ b → collapse m x ≡ none
    go false i = ap (λ b. cond b (rewrite_or (unused_erased m x) (rewrite_of CastBack m x)) none) i
    go true i =
        (let p = f i in
        ap (λ b. cond b (rewrite_or (unused_erased m x) (rewrite_of CastBack m x)) none) i
        ∙ ap (λ b. rewrite_or (cond b (becomes (edited (Erase x) m)) none) (rewrite_of CastBack m x)) p.0
        ∙ rewrite_is m x ∙ ap (λ o. rewrite_by o m) p.1)

-- a cast that casting back doesn't collapse is erased because it is unused
pub only_erased : (m n : Module) (x : ℕ) → NoRule x m → collapse m x ≡ becomes n → is_unused x m.tree ≡ true
only_erased m n x r e = elim (bool_cases (is_unused x m.tree)) [
  | inl u ↦ u
  | inr u ↦ absurd (let i = (step_of m n x e).0 in let k : none ≡ becomes n = sym (none_of_parts m x (λ i. (u, r i))) ∙ e in no_becomes n k)
]
  where
    no_becomes : (n : Module) → none ≡ becomes n → ⊥
    no_becomes n e = absurd cc

-- ---- what a step keeps

-- replacing a value keeps the operands of an operation without that value
kept_operands : (v w : Value) (vs : List Value) → (In v vs → ⊥) → map (put_value v w) vs ≡ vs
kept_operands v w [] f = refl
kept_operands v w (u ∷ us) f = λ i. here i ∷ kept_operands v w us (λ h. f (inr h)) i
  where
    here : put_value v w u ≡ u
    here = elim (bool_cases (same_value v u)) [ inl e ↦ absurd (f (inl (same_value_true v u e))) | inr e ↦ ap (λ b. cond b w u) e ]

module _ (m : Module) (w : IsWellFormed is_isolated m) where
  -- a user of an operation's result comes after the operation
  user_after : (y k z : ℕ) (p : Operation) → find z m.tree ≡ Some p → In (Result y k) (head p).operands → precedes y z m.tree ≡ true
  user_after y k z p e h =
      let s = found_stands z m.tree p e in
      let own = (from_wellformed is_isolated m.tree w.wellformed).dominated_by_own s.0 s.1 in
      let seen = all_each (dominated_by is_isolated s.0.path) (head s.0.here).operands own (Result y k) (subst (λ (q : Operation). In (Result y k) (head q).operands) (sym s.3) h) in
      subst (λ i. precedes y i m.tree ≡ true) s.2 (seen_precedes m.tree w.distinct is_isolated s.0.path s.0.here s.1 y k seen)

  module _ (n : Module) (x : ℕ) (root : eqb (head m.tree).id x ≡ false) where
    -- replacing its result changes no earlier head
    unchanged : (v : Value) (z : ℕ) (p : Operation) → find z m.tree ≡ Some p → precedes z x m.tree ≡ true → put_values (Result x 0) v (head p) ≡ head p
    unchanged v z p e before =
        let kept = kept_operands (Result x 0) v (head p).operands (λ h. never_both m.tree w.distinct z x before (user_after x 0 z p e h)) in
        λ i. record (head p) { operands = kept i }

    from_erased : n.tree ≡ without x m.tree → From (λ h. h) m.tree n.tree
    from_erased is = subst (From (λ h. h) m.tree) (sym is) (from_left x m.tree w.distinct)

    from_replaced : (v : Value) → n.tree ≡ without x (with_value_replaced (Result x 0) v m.tree) → From (put_values (Result x 0) v) m.tree n.tree
    from_replaced v is =
        let f = put_values (Result x 0) v in
        let u = with_value_replaced (Result x 0) v m.tree in
        let distinct : HasDistinctIds u = subst (IsDistinct eqb) (sym (edit_ids f (λ h. record { id = refl; name = refl; results = refl }) m.tree)) w.distinct in
        subst (From f m.tree) (sym is) (from_both f m.tree u (without x u) (from_edited f (λ h. refl) m.tree w.distinct) (from_left x u distinct))

    -- the erased operation is no longer in the tree
    gone_from : (u : Operation) → eqb (head u).id x ≡ false → (o : Operation) → find x (without x u) ≡ Some o → ⊥
    gone_from u r o e =
        let s = found_stands x (without x u) o e in
        let k = member_left x u s.0 s.1 in
        let heads : head s.0.here ≡ head k.0.here = ap (λ (z : OpWithPathOf (List ℕ) TypeTerm AttrTerm). head z.here) k.3 ∙ same_head x (dropping x) k.0.here in
        left_apart x u k.0 k.1 k.2 r (sym (ap (λ (h : Header). h.id) heads) ∙ s.2)

    module _ (f : Header → Header) (ids : (h : Header) → (f h).id ≡ h.id) (names : (h : Header) → (f h).name ≡ h.name) (from : From f m.tree n.tree) (same_root : (head n.tree).id ≡ (head m.tree).id) where
      cast_was : (z : ℕ) → is_cast z n.tree ≡ true → is_cast z m.tree ≡ true
      cast_was z c =
          let o = cast_there z n.tree c in
          let b = from z o.0 o.1 in
          ap is_cast_found b.found ∙ ap (named cast_name) (sym (names (head b.was)) ∙ sym (ap (λ (h : Header). h.name) b.is)) ∙ o.2

      inner_was : (z : ℕ) → is_inner z n ≡ true → (is_cast z n.tree ≡ true) × (is_cast z m.tree ≡ true) × (eqb (head m.tree).id z ≡ false)
      inner_was z i =
          let b = both (is_cast z n.tree) (not (eqb (head n.tree).id z)) i in
          (b.0, cast_was z b.0, ap (λ y. eqb y z) (sym same_root) ∙ not_false (eqb (head n.tree).id z) b.1)

    root_left : (u : Operation) → (head (without x u)).id ≡ (head u).id
    root_left u = ap (λ (h : Header). h.id) (same_head x (dropping x) u)

    root_replaced : (v : Value) → (head (with_value_replaced (Result x 0) v m.tree)).id ≡ (head m.tree).id
    root_replaced v = each_id (put_values (Result x 0) v) (λ h. record { id = refl; name = refl; results = refl }) m.tree

    abbrev same_root : Step m n x → Type 0
    same_root s = (head n.tree).id ≡ (head m.tree).id

    root_kept : (s : Step m n x) → (head n.tree).id ≡ (head m.tree).id
    root_kept (by_erasing u is) = ap (λ (q : Operation). (head q).id) is ∙ root_left m.tree
    root_kept (by_rule u v is) = ap (λ (q : Operation). (head q).id) is ∙ root_left (with_value_replaced (Result x 0) v m.tree) ∙ root_replaced v

    inner_back : (s : Step m n x) → (z : ℕ) → is_inner z n ≡ true → (is_cast z n.tree ≡ true) × (is_cast z m.tree ≡ true) × (eqb (head m.tree).id z ≡ false)
    inner_back (by_erasing u is) z i = inner_was (λ h. h) (λ h. refl) (λ h. refl) (from_erased is) (root_kept (by_erasing u is)) z i
    inner_back (by_rule u v is) z i = inner_was (put_values (Result x 0) v) (λ h. refl) (λ h. refl) (from_replaced v is) (root_kept (by_rule u v is)) z i

    -- if the step only erases, casting back starts to apply nowhere; otherwise it starts to apply to no earlier cast
    no_rule_kept : (s : Step m n x) → (z : ℕ) → (is_unused x m.tree ≡ true) ⊎ (precedes z x m.tree ≡ true) → NoRule z m → NoRule z n
    no_rule_kept (by_erasing u is) z h r i =
        let b = inner_back (by_erasing u is) z i in
        let inner : is_inner z m ≡ true = λ j. b.1 j && not (b.2 j) in
        rule_back (λ h. h) (λ h. refl) m n (from_erased is) w.distinct z (λ p e. refl) (λ p e g k l q f. refl) b.0 b.1 b.2 (r inner)
    no_rule_kept (by_rule u v is) z (inl h) r i = absurd (true≢false (sym h ∙ u))
    no_rule_kept (by_rule u v is) z (inr h) r i =
        let b = inner_back (by_rule u v is) z i in
        let inner : is_inner z m ≡ true = λ j. b.1 j && not (b.2 j) in
        rule_back (put_values (Result x 0) v) (λ h. refl) m n (from_replaced v is) w.distinct z
        (λ p e. unchanged v z p e h)
        (λ p e g k l q f. unchanged v g q f (precedes_through m.tree w.distinct g z x (user_after g k z p e l) h))
        b.0 b.1 b.2 (r inner)

    gone_now : (s : Step m n x) → is_inner x n ≡ true → ⊥
    gone_now (by_erasing u is) i = let b = both (is_cast x n.tree) (not (eqb (head n.tree).id x)) i in let o = cast_there x n.tree b.0 in gone_from m.tree root o.0 (ap (find x) (sym is) ∙ o.1)
    gone_now (by_rule u v is) i =
        let b = both (is_cast x n.tree) (not (eqb (head n.tree).id x)) i in
        let o = cast_there x n.tree b.0 in
        gone_from (with_value_replaced (Result x 0) v m.tree) (ap (λ y. eqb y x) (root_replaced v) ∙ root) o.0 (ap (find x) (sym is) ∙ o.1)

    -- only the defining operations of its operands lose a use
    freed : (s : Step m n x) → (o : Operation) → find x m.tree ≡ Some o → regions o ≡ no_regions → (z : ℕ) → eqb x z ≡ false → is_unused z m.tree ≡ false → is_unused z n.tree ≡ true → In z (defining_ops_of (head o).operands)
    freed (by_erasing u is) o e bare z apart used unused = freed_erased x m.tree o w.distinct e bare z used (ap (is_unused z) (sym is) ∙ unused)
    freed (by_rule u v is) o e bare z apart used unused = freed_replaced x m.tree o w.distinct e bare v z apart used (ap (is_unused z) (sym is) ∙ unused)

-- ---- conclusions

module _ (m n : Module) (x : ℕ) (w : IsWellFormed is_isolated m) (e : collapse m x ≡ becomes n) where
  abbrev root : eqb (head m.tree).id x ≡ false
  root = not_false (eqb (head m.tree).id x) (both (is_cast x m.tree) (not (eqb (head m.tree).id x)) (step_of m n x e).0).1

  -- if the step only erases, casting back still applies to no cast where it didn't; otherwise to no earlier cast
  pub still_stuck : (z : ℕ) → (is_unused x m.tree ≡ true) ⊎ (precedes z x m.tree ≡ true) → NoRule z m → NoRule z n
  still_stuck z h r = no_rule_kept m w n x root (step_of m n x e).1 z h r

  pub was_inner : (z : ℕ) → is_inner z n ≡ true → is_inner z m ≡ true
  was_inner z i = let b = inner_back m w n x root (step_of m n x e).1 z i in λ j. b.1 j && not (b.2 j)

  pub step_gone : is_inner x n ≡ true → ⊥
  step_gone i = gone_now m w n x root (step_of m n x e).1 i

  -- an operation that couldn't be erased still can't be, unless it is a defining operation of an operand
  pub still_none : (o : Operation) → find x m.tree ≡ Some o → regions o ≡ no_regions → (z : ℕ) → (In z (defining_ops_of (head o).operands) → ⊥) → NoRule z n → collapse m z ≡ none → collapse n z ≡ none
  still_none o f bare z apart r c = none_of_parts n z (λ i.
      let p = none_parts m z c (was_inner z i) in (
        elim (bool_cases (is_unused z n.tree)) [
          | inr u ↦ u
          | inl u ↦ absurd (apart (freed m w n x root (step_of m n x e).1 o f bare z (other i) p.0 u))
        ],
        r i,
      ))
    where
      other : is_inner z n ≡ true → eqb x z ≡ false
      other i = elim (bool_cases (eqb x z)) [ inr k ↦ k | inl k ↦ absurd (step_gone (subst (λ y. is_inner y n ≡ true) (sym (eqb-true x z k)) i)) ]
