-- The module accepts each edit of a pattern.
use Rattle.std.proofs.Common.{◌≡◌, ℕ, zero, suc, ◌+◌, ◌-◌, ◌≤◌, ◌<◌, refl, ap, sym, ◌∙◌, subst, List, [], ◌∷◌, ◌++◌, length, map, Bool, true, false, ◌&&◌, leb-true, eqb-true, Option, Some, None, slice_get, if◌then◌else◌, inl, inr, arith}
use Rattle.std.specs.Prelude.{codes, eqb, nat_le, option_map, option_and_then}
use Rattle.std.specs.List.{list_all, range_with_len}
use Rattle.std.proofs.lemmas.Option.{slice_get-map, slice_get_within, same_Some}
use Rattle.ir_event.specs.types.Words.{is_isolated}
use Rattle.ir_event.specs.types.Terms.{TypeTerm}
use Rattle.ir_event.specs.types.SameTypes.{same_type}
use Rattle.ir_event.proofs.of_types.SameTerms.{type_is, type_refl}
use Rattle.ir_event.specs.types.declared.refusal.Refusal.TheVariants.{Full, IdsExhausted}
use Rattle.ir_event.specs.trees.declared.value.Value.{Value}
use Rattle.ir_event.specs.trees.declared.value.Value.TheVariants.{Result}
use Rattle.ir_event.specs.trees.declared.place.Place.{Place}
use Rattle.ir_event.specs.trees.Tree.{head}
use Rattle.ir_event.specs.trees.Ids.{find, op_count}
use Rattle.ir_event.specs.trees.Limits.{items_fit, most_items, most_next, most_ops}
use Rattle.ir_event.specs.trees.Sites.{visible}
use Rattle.ir_event.specs.trees.Uses.{same_value}
use Rattle.ir_event.specs.trees.Meaning.{Operation}
use Rattle.ir_event.specs.trees.WellFormed.{IsWellFormed}
use Rattle.ir_event.proofs.of_trees.Replaced.{same_value_true}
use Rattle.ir_event.specs.tree_laws.Values.{type_of_value}
use Rattle.ir_event.proofs.of_tree_laws.Listed.{both}
use Rattle.ir_event.specs.Modules.{Module}
use Rattle.rewriter_machine.specs.Contents.{Edit, all_edited, edited}
use Rattle.rewriter_machine.specs.Edits.{Make}
use Rattle.patterns_base.specs.Lists.{Free}
use Rattle.patterns_base.proofs.Headed.{found_there}
use Rattle.patterns_base.proofs.Plans.{StandsAt, dominated_by}
use Rattle.patterns_base.specs.Keeps.{given as given_base}
use Rattle.patterns_base.specs.Looks.{insertion_of, is_verified}
use Rattle.patterns_base.specs.Looks as looks
use Rattle.patterns_base.specs.Made.{Entries, made, value_entry}
use Rattle.patterns_base.specs.Makes.{give, made_by}
use Rattle.patterns_base.specs.Rewrites.{becomes, carried_out, refused}
use Rattle.patterns_soundness.proofs.Limits as fits_in
use Rattle.patterns_soundness.proofs.Limits.{IsWithinLimits}
use Rattle.patterns_soundness.proofs.Given.{HasHeadroom}
use Rattle.user_patterns_check.specs.Contents.{Content}
use Rattle.user_patterns_check.specs.Outcomes.{Outcome, given, run}
use Rattle.user_patterns_data.specs.declared.pattern.NewValue.{NewValue}
use Rattle.user_patterns_data.specs.declared.pattern.NewValue.TheVariants as new
use Rattle.user_patterns_data.specs.declared.pattern.Expression.{Expression}
use Rattle.user_patterns_data.specs.declared.pattern.Expression.TheVariants as form
use Rattle.user_patterns_data.specs.declared.pattern.PatternOp.{PatternOp}
use Rattle.user_patterns_data.specs.Fitting.{content_with, fits}
use Rattle.user_patterns_data.specs.Matching.{Header, BoundValues, bound, nothing, ops_match, placed, binding_at, types_at, written}
use Rattle.user_patterns_data.specs.Names.{name_of, operands_of, predicate_of}
use Rattle.user_patterns_data.specs.Planning.{Plan, all_made, constants_known, entries_by, extra_known, extra_place, is_numeric, bound_type, made_as, new_place, old_place, outcomes, places, planned, typed, values_at}
use Rattle.user_patterns_data.specs.Shapes.{PatternModel}
use Rattle.user_patterns_apply.specs.Built.{plan_of}
use Rattle.user_patterns_build.specs.CanBuild.{given_type, can_build, is_named, last_type, new_type, result_type, root_type, same_number, spares}
use Rattle.user_patterns_apply.proofs.FoundBuilt.{bound_at, bound_from, given_is, made_many, standing_is, stands_there, types_hold, types_keep, values_many, values_pass, when_is}
use Rattle.user_patterns_apply.proofs.Ordered.{planned_is}
use Rattle.user_patterns_apply.specs.Own.{UserPatternsAreAccepted, edits_for, is_one, user_pattern_edits}
use Rattle.user_patterns_apply.proofs.VisibleValues.{DominatedBy, begins, pattern_ops_see, stands}
use Rattle.patterns_soundness.proofs.New.{few_flags}
use Rattle.ir_event.proofs.of_types.Truths.{if_is}
use Rattle.patterns_base.proofs.Facts.{when_some}
use Rattle.patterns_laws.proofs.KnownFolds.{given_some}

-- ---- a new operation

few : (vs : List Value) (form : Expression) → length vs ≡ length (operands_of form) → items_fit vs ≡ true
few vs (form.Binary o i j) l = ap (λ n. nat_le n most_items) l
few vs (form.Compare p i j) l = ap (λ n. nat_le n most_items) l
few vs (form.Select c i j) l = ap (λ n. nat_le n most_items) l
few vs (form.IntegerCast c i) l = ap (λ n. nat_le n most_items) l
few vs (form.IndexCast c i) l = ap (λ n. nat_le n most_items) l

few_entries : (p : Option ℕ) (name : List ℕ) → items_fit (entries_by p name) ≡ true
few_entries None name = few_flags name
few_entries (Some n) name = refl

-- the operation has operands that pass the test f, and a bound type
record IsLeaf (f : Value → Bool) (ts : BoundValues TypeTerm) (w : NewValue) (o : Operation) : Type 0 where
  name : List ℕ
  operands : List Value
  term : TypeTerm
  properties : Entries
  is : o ≡ made name operands term properties
  small : items_fit operands ≡ true
  short : items_fit properties ≡ true
  pass : list_all f operands ≡ true
  typed : binding_at (new_type w) ts ≡ Some term

module _ (f : Value → Bool) (r : ℕ) (ts : BoundValues TypeTerm) (env : List Outcome) (b : BoundValues Value) (passes : (j : ℕ) (u : Value) → (j ≡ r → ⊥) → binding_at j b ≡ Some u → f u ≡ true) where
  leaf : (w : NewValue) → spares r w ≡ true → (o : Operation) → made_as b ts env w ≡ Some o → IsLeaf f ts w o
  leaf (new.Operation p) spared o e =
      (let vs = given_is (values_at (operands_of p.form) b) _ o e in
      let term = given_is (binding_at p.ty ts) _ o vs.2 in
      record {
        name = name_of p.form;
        operands = vs.0;
        term = term.0;
        properties = entries_by (predicate_of p.form) (name_of p.form);
        is = sym (same_Some _ o term.2);
        small = few vs.0 p.form (values_many (operands_of p.form) b vs.0 vs.1);
        short = few_entries (predicate_of p.form) (name_of p.form);
        pass = values_pass f r (operands_of p.form) b passes spared vs.0 vs.1;
        typed = term.1;
      })
  leaf (new.Constant k t) spared o e =
      (let x = given_is (given (slice_get env k) (λ x. x)) _ o e in
      let term = given_is (binding_at t ts) _ o x.2 in
      record {
        name = codes "arith.constant";
        operands = [];
        term = term.0;
        properties = value_entry term.0 x.0.1;
        is = sym (same_Some _ o term.2);
        small = refl;
        short = refl;
        pass = refl;
        typed = term.1;
      })

-- ---- all new operations, and the value that replaces the result

module _ (x : ℕ) (insertion : Place) (ty : TypeTerm) (root : ℕ) (ts : BoundValues TypeTerm) (env : List Outcome) where
  abbrev DominatedByAll : BoundValues Value → Module → Type 0
  DominatedByAll b m = (j : ℕ) (u : Value) → (j ≡ root → ⊥) → slice_get b j ≡ Some (Some u) → dominated_by x u m ≡ true

  still_dominated_by : (k : ℕ) (m n : Module) (b c : BoundValues Value) → bound same_value k (Result m.next 0) b ≡ Some c → DominatedByAll b m → ((v : Value) → dominated_by x v m ≡ true → dominated_by x v n ≡ true) → dominated_by x (Result m.next 0) n ≡ true → DominatedByAll c n
  still_dominated_by k m n b c e all still new j u other at = elim (bound_from same_value same_value_true k (Result m.next 0) b c e j u at) [
    | inl h ↦ still u (all j u other h)
    | inr h ↦ ap (λ z. dominated_by x z n) h.1 ∙ new
  ]

  -- one new operation, and the operations after it
  record Step (w : NewValue) (ws : List NewValue) (k : ℕ) (m : Module) (b : BoundValues Value) (os : List Operation) (c : BoundValues Value) : Type 0 where
    made_here : Operation
    leaf_here : IsLeaf (λ u. visible is_isolated m.tree x u) ts w made_here
    after : BoundValues Value
    bind : bound same_value k (Result m.next 0) b ≡ Some after
    others : List Operation
    all : os ≡ made_here ∷ others
    rest : all_made ts env (m.next + 1) (k + 1) ws after ≡ Some (others, c)

  step : (w : NewValue) (ws : List NewValue) (k : ℕ) (m : Module) (b : BoundValues Value) → DominatedByAll b m → spares root w ≡ true → (os : List Operation) (c : BoundValues Value) → all_made ts env m.next k (w ∷ ws) b ≡ Some (os, c) → Step w ws k m b os c
  step w ws k m b all spared os c e =
      (let o = given_is (made_as b ts env w) _ (os, c) e in
      let d = given_is (bound same_value k (Result m.next 0) b) _ (os, c) o.2 in
      go o.0 (leaf (λ u. visible is_isolated m.tree x u) root ts env b (λ j u n at. all j u n (standing_is j b u at)) w spared o.0 o.1) d.0 d.1 (all_made ts env (m.next + 1) (k + 1) ws d.0) refl d.2)
    where
      go : (o : Operation) → IsLeaf (λ u. visible is_isolated m.tree x u) ts w o → (d : BoundValues Value) → bound same_value k (Result m.next 0) b ≡ Some d
          → (r : Option (List Operation × BoundValues Value)) → all_made ts env (m.next + 1) (k + 1) ws d ≡ r → option_map {U = List Operation × BoundValues Value} (λ (r : List Operation × BoundValues Value). (o ∷ r.0, r.1)) r ≡ Some (os, c)
          → Step w ws k m b os c
      go o l d bind None is e = absurd cc
      go o l d bind (Some r) is e =
          let two = same_Some (o ∷ r.0, r.1) (os, c) e in
          record {
            made_here = o;
            leaf_here = l;
            after = d;
            bind = bind;
            others = r.0;
            all = sym (ap (λ (z : List Operation × BoundValues Value). z.0) two);
            rest = is ∙ ap (λ z. Some (r.0, z)) (ap (λ (z : List Operation × BoundValues Value). z.1) two);
          }

  ends : (w : NewValue) (k : ℕ) (m : Module) → IsWithinLimits x insertion ty 1 m → (b : BoundValues Value) (os : List Operation) (c : BoundValues Value) → Step w [] k m b os c → (t : ℕ) → last_type (w ∷ []) ≡ Some t → binding_at t ts ≡ Some ty
      → (v : Value) → slice_get c k ≡ Some (Some v) → Free (map (λ o. Make insertion o) os ++ give x v) m
  ends w k m f b os c s t last typed v at =
      let l = s.leaf_here in
      let two : Some ([], s.after) ≡ Some (s.others, c) = s.rest in
      let none : s.others ≡ [] = ap (λ (z : List Operation × BoundValues Value). z.0) (sym (same_Some ([], s.after) (s.others, c) two)) in
      let same : s.after ≡ c = ap (λ (z : List Operation × BoundValues Value). z.1) (same_Some ([], s.after) (s.others, c) two) in
      let value : Result m.next 0 ≡ v = given_here (sym (bound_at same_value same_value_true k (Result m.next 0) b s.after s.bind) ∙ ap (λ z. slice_get z k) same ∙ at) in
      let term : l.term ≡ ty = same_Some l.term ty (sym l.typed ∙ ap (λ z. binding_at z ts) (same_Some (new_type w) t last) ∙ typed) in
      let these : Make insertion (made l.name l.operands l.term l.properties) ∷ give x (Result m.next 0) ≡ map (λ o. Make insertion o) os ++ give x v =
      (λ i. Make insertion (sym l.is i) ∷ give x (value i)) ∙ ap (λ z. map (λ o. Make insertion o) z ++ give x v) (sym (s.all ∙ ap (λ z. s.made_here ∷ z) none)) in
      subst (λ es. Free es m) these (fits_in.new_given x insertion ty 0 m f l.name l.operands l.term l.properties l.small l.short l.pass m.next refl (ap (same_type ty) term ∙ type_refl ty))
    where
      given_here : {u w : Value} → Some (Some u) ≡ Some (Some w) → u ≡ w
      given_here e = cc

  module _ (w : NewValue) (ws : List NewValue) (k : ℕ) (m : Module) (f : IsWithinLimits x insertion ty (suc (suc (length ws))) m) (b : BoundValues Value) (all : DominatedByAll b m) (u : NewValue) (os : List Operation) (c : BoundValues Value) (s : Step w (u ∷ ws) k m b os c) where
    abbrev l : IsLeaf (λ u. visible is_isolated m.tree x u) ts w s.made_here
    l = s.leaf_here

    abbrev next_module : Module
    next_module = edited (Make insertion (made l.name l.operands l.term l.properties)) m

    next_fit : IsWithinLimits x insertion ty (suc (length ws)) next_module
    next_fit = fits_in.made_fit x insertion ty (suc (length ws)) m f l.name l.operands l.term l.properties l.small l.short l.pass

    next_dominated_by : DominatedByAll s.after next_module
    next_dominated_by =
        still_dominated_by k m next_module b s.after s.bind all (fits_in.dominated_by_still x insertion ty (suc (length ws)) m f l.name l.operands l.term l.properties l.small l.short l.pass)
        (fits_in.dominated_by_new x insertion ty (suc (length ws)) m f l.name l.operands l.term l.properties l.small l.short l.pass m.next refl)

    with_rest : (v : Value) → Free (map (λ o. Make insertion o) s.others ++ give x v) next_module → Free (map (λ o. Make insertion o) os ++ give x v) m
    with_rest v rest =
        let these : Make insertion (made l.name l.operands l.term l.properties) ∷ (map (λ o. Make insertion o) s.others ++ give x v) ≡ map (λ o. Make insertion o) os ++ give x v =
        (λ i. Make insertion (sym l.is i) ∷ (map (λ o. Make insertion o) s.others ++ give x v)) ∙ ap (λ z. map (λ o. Make insertion o) z ++ give x v) (sym s.all) in
        subst (λ es. Free es m) these (fits_in.make_first x insertion ty (suc (length ws)) m f l.name l.operands l.term l.properties l.small l.short l.pass (map (λ o. Make insertion o) s.others ++ give x v) rest)

  all_free : (w : NewValue) (ws : List NewValue) (k : ℕ) (m : Module) → IsWithinLimits x insertion ty (suc (length ws)) m → (b : BoundValues Value) → DominatedByAll b m → list_all (spares root) (w ∷ ws) ≡ true
      → (os : List Operation) (c : BoundValues Value) → all_made ts env m.next k (w ∷ ws) b ≡ Some (os, c) → (t : ℕ) → last_type (w ∷ ws) ≡ Some t → binding_at t ts ≡ Some ty
      → (v : Value) → slice_get c (k + length ws) ≡ Some (Some v) → Free (map (λ o. Make insertion o) os ++ give x v) m
  all_free w [] k m f b all spared os c e t last typed v at =
      let place : k ≡ k + length {A = NewValue} [] = omega arith in
      ends w k m f b os c (step w [] k m b all (both (spares root w) true spared).0 os c e) t last typed v (ap (slice_get c) place ∙ at)
  all_free w (u ∷ ws) k m f b all spared os c e t last typed v at =
      let spare = both (spares root w) (list_all (spares root) (u ∷ ws)) spared in
      let s = step w (u ∷ ws) k m b all spare.0 os c e in
      let place : k + 1 + length ws ≡ k + length (u ∷ ws) = omega arith in
      with_rest w ws k m f b all u os c s v
      (all_free u ws (k + 1) (next_module w ws k m f b all u os c s) (next_fit w ws k m f b all u os c s) s.after (next_dominated_by w ws k m f b all u os c s) spare.1 s.others c s.rest t last typed v (ap (slice_get c) place ∙ at))

-- ---- a pattern

-- new operations are within the limits if the edits were carried out
has_headroom : (es : List Edit) (m n : Module) → carried_out es m ≡ becomes n → HasHeadroom m es
has_headroom es m n e = go (nat_le (op_count m.tree + made_by es) most_ops) refl (nat_le (m.next + made_by es) most_next) refl e
  where
    go : (a : Bool) → nat_le (op_count m.tree + made_by es) most_ops ≡ a → (b : Bool) → nat_le (m.next + made_by es) most_next ≡ b → (if a then (if b then becomes (all_edited es m) else refused IdsExhausted) else refused Full) ≡ becomes n → HasHeadroom m es
    go true p true q e = (leb-true (op_count m.tree + made_by es) most_ops p, leb-true (m.next + made_by es) most_next q)
    go true p false q e = absurd cc
    go false p b q e = absurd cc

pub many_made : (insertion : Place) (os : List Operation) (x : ℕ) (v : Value) → made_by (map (λ o. Make insertion o) os ++ give x v) ≡ length os
many_made insertion [] x v = refl
many_made insertion (o ∷ os) x v = (let e = many_made insertion os x v in omega (arith, e))

one_is : {X : Type 0} (xs : List X) → is_one xs ≡ true → (y : X) × (xs ≡ y ∷ [])
one_is [] e = absurd cc
one_is (y ∷ []) e = (y, refl)
one_is (y ∷ z ∷ xs) e = absurd cc

nothing_there : (a k j : ℕ) (u : Value) → slice_get (map (λ i. None) (range_with_len a k)) j ≡ Some (Some u) → ⊥
nothing_there a zero j u e = cc
nothing_there a (suc k) zero u e = cc
nothing_there a (suc k) (suc j) u e = nothing_there (a + 1) k j u e

same_is : (a b : Option ℕ) → same_number a b ≡ true → (t : ℕ) × (a ≡ Some t) × (b ≡ Some t)
same_is None b e = absurd cc
same_is (Some a) None e = absurd cc
same_is (Some a) (Some b) e = (a, refl, ap Some (sym (eqb-true a b e)))

-- the parts of a plan
record Parts (t : Operation) (verified : Header → Bool) (n : ℕ) (p : PatternModel) (x : ℕ) (r : Plan) : Type 0 where
  first : BoundValues Value
  begun : bound same_value p.root (Result x 0) (nothing (places p)) ≡ Some first
  values : BoundValues Value
  matched : ops_match t verified (placed (old_place p) p.old) first ≡ Some values
  of_values : BoundValues TypeTerm
  typed_values : types_at t verified 0 p.values values (map written p.value_types) ≡ Some of_values
  types : BoundValues TypeTerm
  typed_old : types_at t verified (old_place p) (map PatternOp.ty p.old) values of_values ≡ Some types
  env : List Outcome
  made : List Operation × BoundValues Value
  all : all_made types env n (new_place p) p.new values ≡ Some made
  result : Value
  gives : binding_at p.result made.1 ≡ Some result
  plan : r ≡ (made.0, result)

parts : (t : Operation) (verified : Header → Bool) (n : ℕ) (p : PatternModel) (x : ℕ) (r : Plan) → planned t verified n p x ≡ Some r → Parts t verified n p x r
parts t verified n p x r e =
    let b = given_is (bound same_value p.root (Result x 0) (nothing (places p))) _ r (sym (planned_is t verified n p x) ∙ e) in
    let c = given_is (ops_match t verified (placed (old_place p) p.old) b.0) _ r b.2 in
    let ts = given_is (typed t verified n p c.0) _ r c.2 in
    let us = given_is (types_at t verified 0 p.values c.0 (map written p.value_types)) _ ts.0 ts.1 in
    let a = when_is (list_all is_numeric ts.0) _ r ts.2 in
    let w = when_is (fits (map bound_type ts.0) p && constants_known t verified n p c.0) _ r a.1 in
    let env = given_is (run (Content.given (content_with (map bound_type ts.0) p)) (outcomes t verified n p 0 p.values c.0)) _ r w.1 in
    let u = when_is (extra_known t verified n p (extra_place p) p.extra c.0 env.0) _ r env.2 in
    let made = given_is (all_made ts.0 env.0 n (new_place p) p.new c.0) _ r u.1 in
    let v = given_is (binding_at p.result made.0.1) _ r made.2 in
    record {
      first = b.0;
      begun = b.1;
      values = c.0;
      matched = c.1;
      of_values = us.0;
      typed_values = us.1;
      types = ts.0;
      typed_old = us.2;
      env = env.0;
      made = made.0;
      all = made.1;
      result = v.0;
      gives = v.1;
      plan = sym (same_Some (made.0.0, v.0) r v.2);
    }

module _ (p : PatternModel) (m : Module) (x : ℕ) (wellformed : IsWellFormed is_isolated m) (insertion : Place) (at : insertion_of x m.tree ≡ Some insertion) (o : Operation) (found : find x m.tree ≡ Some o) (ty : TypeTerm) (one : (head o).results ≡ ty ∷ []) where
  abbrev t : Operation
  t = m.tree

  abbrev verified : Header → Bool
  verified = is_verified m.tree

  there : StandsAt x insertion m
  there = stands m x wellformed insertion at

  fits_here : (k : ℕ) → op_count m.tree + k ≤ most_ops → m.next + k ≤ most_next → IsWithinLimits x insertion ty k m
  fits_here k ops ids =
      record {
        located = there;
        one = (let two : Some there.at.here ≡ Some o = sym (found_there is_isolated x insertion m there) ∙ found in ap (λ z. (head z).results) (same_Some there.at.here o two)) ∙ one;
        ops = ops;
        ids = ids;
      }

  own_type : type_of_value (Result x 0) m.tree ≡ Some ty
  own_type = ap (option_and_then (λ o. slice_get (head o).results 0)) found ∙ ap (λ (l : List TypeTerm). slice_get l 0) one

  module _ (r : Plan) (q : Parts m.tree (is_verified m.tree) m.next p x r) (spared : list_all (spares p.root) p.new ≡ true) (number : ℕ) (gives : result_type p ≡ Some number) (is_root : root_type p ≡ Some number) where
    seen : DominatedBy m x wellformed p.root verified q.values
    seen = pattern_ops_see m x wellformed p.root verified (placed (old_place p) p.old) q.first q.values q.matched (begins m x wellformed p.root verified (places p) q.first q.begun (λ j u e. nothing_there 0 (places p) j u e))

    abbrev root_at : (nat_le (old_place p) p.root ≡ true) × (option_map PatternOp.ty (slice_get p.old (p.root - old_place p)) ≡ Some number)
    root_at = if_is (nat_le (old_place p) p.root) (option_map PatternOp.ty (slice_get p.old (p.root - old_place p))) number is_root

    above : old_place p ≤ p.root
    above = leb-true (old_place p) p.root root_at.0

    -- the type bound to the root's type is the type of the root's result
    root_typed : slice_get q.types number ≡ Some (Some ty)
    root_typed =
        let h = types_hold type_is t verified (old_place p) (map PatternOp.ty p.old) q.values q.of_values q.types q.typed_old (p.root - old_place p) number (slice_get-map PatternOp.ty p.old (p.root - old_place p) ∙ root_at.1) in
        let place : old_place p + (p.root - old_place p) ≡ p.root = omega (arith, above) in
        let value : h.0 ≡ Result x 0 = same_Some h.0 (Result x 0) (sym h.2 ∙ ap (λ z. binding_at z q.values) place ∙ stands_there p.root q.values (Result x 0) seen.at) in
        let term : h.1 ≡ ty = same_Some h.1 ty (sym h.3 ∙ ap (λ z. type_of_value z m.tree) value ∙ own_type) in
        h.4 ∙ ap (λ z. Some (Some z)) term

    abbrev HasHeadroomFor : ℕ → Type 0
    HasHeadroomFor k = (op_count m.tree + k ≤ most_ops) × (m.next + k ≤ most_next)

    -- without new operations, a variable replaces the result
    variable : p.new ≡ [] → HasHeadroomFor 0 → Free (map (λ o. Make insertion o) r.0 ++ give x r.1) m
    variable empty headroom =
        let number_at : slice_get p.values p.result ≡ Some number = ap (given_type p) (sym empty) ∙ gives in
        let made_is : ([], q.values) ≡ q.made = same_Some ([], q.values) q.made (ap (λ z. all_made q.types q.env m.next (new_place p) z q.values) (sym empty) ∙ q.all) in
        let value : binding_at p.result q.values ≡ Some q.result = ap (λ (z : List Operation × BoundValues Value). binding_at p.result z.1) made_is ∙ q.gives in
        let h = types_hold type_is t verified 0 p.values q.values (map written p.value_types) q.of_values q.typed_values p.result number number_at in
        let place : 0 + p.result ≡ p.result = omega arith in
        let same : h.0 ≡ q.result = same_Some h.0 q.result (sym h.2 ∙ ap (λ z. binding_at z q.values) place ∙ value) in
        let kept = types_keep type_is t verified (old_place p) (map PatternOp.ty p.old) q.values q.of_values q.types q.typed_old number h.1 h.4 in
        let term : ty ≡ h.1 = same_Some ty h.1 (same_Some (Some ty) (Some h.1) (sym root_typed ∙ kept)) in
        let within : p.result < length p.values = slice_get_within p.values p.result number number_at in
        let apart : p.result ≡ p.root → ⊥ = λ e. absurd (omega (arith, e, within, above)) in
        let dominated_by_it = seen.other p.result q.result apart (standing_is p.result q.values q.result value) in
        let these : give x q.result ≡ map (λ o. Make insertion o) r.0 ++ give x r.1 = (λ i. map (λ o. Make insertion o) (ap (λ (z : List Operation × BoundValues Value). z.0) made_is i) ++ give x q.result) ∙ ap (λ (z : Plan). map (λ o. Make insertion o) z.0 ++ give x z.1) (sym q.plan) in
        subst (λ es. Free es m) these (fits_in.given x insertion ty 0 m (fits_here 0 headroom.0 headroom.1) q.result dominated_by_it h.1 (ap (λ z. type_of_value z m.tree) (sym same) ∙ h.3) (ap (same_type ty) (sym term) ∙ type_refl ty))

    -- otherwise the last new operation replaces the result
    made_last : (w : NewValue) (ws : List NewValue) → p.new ≡ w ∷ ws → HasHeadroomFor (suc (length ws)) → Free (map (λ o. Make insertion o) r.0 ++ give x r.1) m
    made_last w ws is headroom =
        let last = if_is (eqb (p.result + 1) (places p)) (last_type (w ∷ ws)) number (ap (given_type p) (sym is) ∙ gives) in
        let place : p.result ≡ new_place p + length ws = (let e = eqb-true (p.result + 1) (places p) last.0 in let l : length p.new ≡ suc (length ws) = ap length is in omega (arith, e, l)) in
        let these : map (λ o. Make insertion o) q.made.0 ++ give x q.result ≡ map (λ o. Make insertion o) r.0 ++ give x r.1 = ap (λ (z : Plan). map (λ o. Make insertion o) z.0 ++ give x z.1) (sym q.plan) in
        subst (λ es. Free es m) these
        (all_free x insertion ty p.root q.types q.env w ws (new_place p) m (fits_here (suc (length ws)) headroom.0 headroom.1) q.values seen.other (ap (list_all (spares p.root)) (sym is) ∙ spared) q.made.0 q.made.1
        (ap (λ z. all_made q.types q.env m.next (new_place p) z q.values) (sym is) ∙ q.all) number last.1 (stands_there number q.types ty root_typed) q.result
        (ap (slice_get q.made.1) (sym place) ∙ standing_is p.result q.made.1 q.result q.gives))

    accepted : (ws : List NewValue) → p.new ≡ ws → HasHeadroom m (map (λ o. Make insertion o) r.0 ++ give x r.1) → Free (map (λ o. Make insertion o) r.0 ++ give x r.1) m
    accepted ws is headroom = go ws is (made_many q.types q.env m.next (new_place p) p.new q.values q.made.1 q.made.0 q.all) (many_made insertion r.0 x r.1)
      where
        go : (ws : List NewValue) → p.new ≡ ws → length q.made.0 ≡ length p.new → made_by (map (λ o. Make insertion o) r.0 ++ give x r.1) ≡ length r.0 → Free (map (λ o. Make insertion o) r.0 ++ give x r.1) m
        go [] is many count =
            let l : length r.0 ≡ 0 = ap (λ (z : Plan). length z.0) q.plan ∙ many ∙ ap length is in
            variable is (let a = headroom.0 in let b = headroom.1 in (omega (arith, a, count, l), omega (arith, b, count, l)))
        go (w ∷ ws) is many count =
            let l : length r.0 ≡ suc (length ws) = ap (λ (z : Plan). length z.0) q.plan ∙ many ∙ ap length is in
            made_last w ws is (let a = headroom.0 in let b = headroom.1 in (omega (arith, a, count, l), omega (arith, b, count, l)))

own_is : (p : PatternModel) (m : Module) (x : ℕ) → user_pattern_edits p m x ≡ given_base (find x m.tree) (λ o. given_base (insertion_of x m.tree) (λ insertion. looks.when (is_one (head o).results) (edits_for insertion x (plan_of m.tree (is_verified m.tree) m.next p x))))
unfolding user_pattern_edits
own_is p m x = refl

pub user_patterns_are_accepted : UserPatternsAreAccepted
user_patterns_are_accepted p m x wellformed es n e carried =
    let o = given_some (find x m.tree) _ es (sym (own_is p m x) ∙ e) in
    let insertion = given_some (insertion_of x m.tree) _ es o.2 in
    let w = when_some (is_one (head o.0).results) _ es insertion.2 in
    go o.0 o.1 insertion.0 insertion.1 (one_is (head o.0).results w.0) (plan_of m.tree (is_verified m.tree) m.next p x) refl w.1
  where
    go : (o : Operation) → find x m.tree ≡ Some o → (insertion : Place) → insertion_of x m.tree ≡ Some insertion → (one : (ty : TypeTerm) × ((head o).results ≡ ty ∷ [])) → (r : Option Plan) → plan_of m.tree (is_verified m.tree) m.next p x ≡ r → edits_for insertion x r ≡ Some es → Free es m
    go o found insertion at one None is e = absurd cc
    go o found insertion at one (Some r) is e =
        let w = when_is (can_build p) (planned m.tree (is_verified m.tree) m.next p x) r is in
        let some = both (list_all is_named p.new) _ w.0 in
        let rest = both (list_all (spares p.root) p.new) _ some.1 in
        let number = same_is (result_type p) (root_type p) rest.1 in
        let these : map (λ o. Make insertion o) r.0 ++ give x r.1 ≡ es = same_Some _ es e in
        subst (λ z. Free z m) these
        (accepted p m x wellformed insertion at o found one.0 one.1 r (parts m.tree (is_verified m.tree) m.next p x r w.1) rest.0 number.0 number.1 number.2 p.new refl (subst (HasHeadroom m) (sym these) (has_headroom es m n carried)))
