-- The arguments of a block are replaced, one after another, by values that dominate the operation around it.
use Rattle.std.proofs.Common.{◌≡◌, refl, ap, sym, ◌∙◌, subst, ℕ, zero, suc, ◌+◌, ◌<◌, ◌≤◌, Bool, true, false, true≢false, ◌&&◌, not, List, [], ◌∷◌, ◌++◌, length, map, Option, Some, None, option_map, inl, inr, ◌⊎◌, arith, eqb, eqb-true, append_assoc, append-nil, length-append, cond}
use Rattle.std.specs.Prelude.{is_some, nat_lt, option_and_then, slice_get}
use Rattle.std.specs.List.{list_any, list_all}
use Rattle.std.specs.Option.{option_eq}
use Rattle.std.proofs.lemmas.Bool.{ltb-true, ltb-false}
use Rattle.ir_event.specs.types.Words.{is_isolated, is_table}
use Rattle.ir_event.specs.types.Terms.{TypeTerm, AttrTerm}
use Rattle.ir_event.specs.types.SameTypes.{same_type}
use Rattle.ir_event.proofs.of_types.SameTerms.{type_is}
use Rattle.ir_event.specs.trees.declared.value.Value.{Value}
use Rattle.ir_event.specs.trees.declared.value.Value.TheVariants.{Arg}
use Rattle.ir_event.specs.trees.declared.place.Place.{Place}
use Rattle.ir_event.specs.trees.Tree.{OpOf, op, RegionsOf, no_regions, region, block, OpsOf, no_ops, next, head, regions}
use Rattle.ir_event.specs.trees.Ids.{HasDistinctIds, find, has_id, op_count}
use Rattle.ir_event.specs.trees.Frames.{owner_of}
use Rattle.ir_event.specs.trees.Sites.{arguments, operands_visible, results_of, shows, visible}
use Rattle.ir_event.specs.trees.Edits.{each_head, ops_each_head, put_value, put_values, region_each_head, regions_each_head, with_value_replaced}
use Rattle.ir_event.specs.trees.Uses.{operand_uses, same_value, uses_of}
use Rattle.ir_event.specs.trees.Meaning.{Operation}
use Rattle.ir_event.proofs.of_trees.Heads.{head_find}
use Rattle.ir_event.proofs.of_trees.Replaced.{old_unused, others_stay, same_value_refl, same_value_true}
use Rattle.ir_event.specs.tree_laws.Members.{In}
use Rattle.ir_event.specs.tree_laws.Reasons.{is_visible_to_users}
use Rattle.ir_event.specs.tree_laws.Stands.{OpWithPathOf, StepOf, edit_stand, dominated_by as dominated_by_from, op_with_path_id, stands}
use Rattle.ir_event.specs.tree_laws.Values.{arguments_at, arguments_of, region_at, type_of_value}
use Rattle.ir_event.proofs.of_tree_laws.Around.{around_there}
use Rattle.ir_event.proofs.of_tree_laws.HeadForm.{edit_ids, in_gather, replaced_keeps, used_here}
use Rattle.ir_event.proofs.of_tree_laws.Heads.{Alike, each_id, each_stands}
use Rattle.ir_event.proofs.of_tree_laws.Readings.{stands_uses}
use Rattle.ir_event.proofs.of_tree_laws.Listed.{all_each, both, both_hold, each_all, either, in_mapped, or_right}
use Rattle.ir_event.proofs.of_tree_laws.Members.{joined_ops, same_stand, stand}
use Rattle.ir_event.proofs.of_tree_laws.DominatedBy.{stands_operands, visible_there}
use Rattle.ir_event.proofs.of_tree_laws.Values.{not_own}
use Rattle.ir_event.specs.Modules.{Module}
use Rattle.rewriter_machine.specs.Contents.{Edit, all_edited, edited}
use Rattle.rewriter_machine.specs.Edits.{Replace}
use Rattle.patterns_base.specs.Lists.{Free}
use Rattle.patterns_base.proofs.Body.{list_ids}
use Rattle.patterns_base.proofs.Given.{seer, user}
use Rattle.patterns_base.proofs.Headed as headed
use Rattle.patterns_base.proofs.Plans.{StandsAt, dominated_by}
use Rattle.patterns_soundness.specs.base.Looks.{Header}
use Rattle.patterns_soundness.specs.base.Makes.{arguments_from, replaced, replacing}
use Rattle.patterns_soundness.proofs.Ordered.{Before, before_headed}
use Rattle.patterns_soundness.proofs.Results.{AreGiven, type_kept}
use Rattle.patterns_soundness.proofs.Opened.{left_alone}
use Rattle.ir_event.proofs.of_tree_laws.Reverted.{passed}

-- a value that dominates an operation that isn't isolated dominates the users of its block arguments
module _ {N T A : Type 0} (isolated : N → Bool) (t : OpOf N T A) (d : HasDistinctIds t) (o : OpOf N T A) (p : List (StepOf N T A)) (there : In (stand o p) (stands [] t)) (opened : isolated (head o).name ≡ false) where
  none_shows : (r k : ℕ) (fs : List (OpOf N T A)) → list_any (λ f. shows (Arg (head o).id r k) (results_of f)) fs ≡ false
  none_shows r k [] = refl
  none_shows r k (f ∷ fs) = none_shows r k fs

  inside_dominated_by : (u : OpOf N T A) (q : List (StepOf N T A)) → In (stand u q) (stands [] t) → (r k : ℕ) → dominated_by_from isolated q (Arg (head o).id r k) ≡ true → (v : Value) → dominated_by_from isolated p v ≡ true → dominated_by_from isolated q v ≡ true
  inside_dominated_by u [] h r k e v s = absurd (true≢false (sym e))
  inside_dominated_by u (a ∷ q) h r k e v s = elim (either (list_any (λ f. shows (Arg (head o).id r k) (results_of f)) a.preceding) _ e) [
    | inl m ↦ absurd (true≢false (sym m ∙ none_shows r k a.preceding))
    | inr m ↦ or_right (list_any (λ f. shows v (results_of f)) a.preceding) _ (or_right (shows v (arguments (head a.parent).id a.region (length a.args))) _ (elim (either (shows (Arg (head o).id r k) (arguments (head a.parent).id a.region (length a.args))) _ m) [
      | inl l ↦ (let id = eqb-true (head o).id (head a.parent).id (both (eqb (head o).id (head a.parent).id) _ l).0 in
          let same = same_stand t d (stand o p) (stand a.parent q) there (around_there t u a q h).1 id in
          both_hold _ _ (ap (λ (z : OpWithPathOf N T A). not (isolated (head z.here).name)) (sym same) ∙ ap not opened) (ap (λ (z : OpWithPathOf N T A). dominated_by_from isolated z.path v) (sym same) ∙ s))
      | inr l ↦ (let b = both (not (isolated (head a.parent).name)) (dominated_by_from isolated q (Arg (head o).id r k)) l in
          both_hold _ _ b.0 (inside_dominated_by a.parent q (around_there t u a q h).1 r k b.1 v s))
    ]))
  ]

  users_inside : operands_visible isolated t ≡ true → (r k : ℕ) (v : Value) → dominated_by_from isolated p v ≡ true → is_visible_to_users isolated (Arg (head o).id r k) v t ≡ true
  users_inside wellformed r k v e = each_all (λ u. visible isolated t u.0 v) (uses_of (Arg (head o).id r k) t) (λ u h.
      let s = user (Arg (head o).id r k) t u h in
      let own = all_each (dominated_by_from isolated s.0.path) (head s.0.here).operands (all_each (λ (z : OpWithPathOf N T A). list_all (dominated_by_from isolated z.path) (head z.here).operands) (stands [] t) (sym (stands_operands isolated t) ∙ wellformed) s.0 s.1) (Arg (head o).id r k) s.3 in
      ap (λ z. visible isolated t z v) s.2 ∙ visible_there isolated t d s.0 s.1 v ∙ inside_dominated_by s.0.here s.0.path s.1 r k own v e)

-- a block in a tree with heads changed
module _ (f : Header → Header) where
  region_each : (rs : RegionsOf (List ℕ) TypeTerm AttrTerm) (r : ℕ) → region_at r (regions_each_head f rs) ≡ option_map (region_each_head f) (region_at r rs)
  region_each no_regions r = refl
  region_each (region g rs) zero = refl
  region_each (region g rs) (suc r) = region_each rs r

  pub each_region : (o : Operation) (r : ℕ) → region_at r (regions (each_head f o)) ≡ option_map (region_each_head f) (region_at r (regions o))
  each_region (op h rs) r = region_each rs r

  each_ids : (os : OpsOf (List ℕ) TypeTerm AttrTerm) → ((h : Header) → (f h).id ≡ h.id) → list_ids (ops_each_head f os) ≡ list_ids os
  each_ids no_ops same = refl
  each_ids (next (op h rs) os) same = λ i. same h i ∷ each_ids os same i

-- operands changed
abbrev pub with_operands : (Value → Value) → Header → Header
with_operands f h = record h { operands = map f h.operands }

-- values that aren't replaced
untouched : (x : ℕ) (w : Value) → ((j : ℕ) → same_value (Arg x 0 j) w ≡ false) → (k : ℕ) (vs ws : List Value) → replaced (arguments_from x k vs) ws w ≡ w
untouched x w apart k [] ws = refl
untouched x w apart k (v ∷ vs) [] = refl
untouched x w apart k (v ∷ vs) (u ∷ ws) = ap (λ b. cond b u (replaced (arguments_from x (k + 1) vs) ws w)) (apart k) ∙ untouched x w apart (k + 1) vs ws

-- lists of operations that have the same ids inside, one by one
abbrev pub Similar : List Operation → List Operation → Type 0
Similar [] [] = Unit {0}
Similar (o ∷ os) (p ∷ ps) = (((head p).id ≡ (head o).id) × ((z : ℕ) → has_id z p ≡ has_id z o)) × Similar os ps
Similar _ _ = ⊥

similar_none : (os : List Operation) → Similar os os
similar_none [] = tt
similar_none (o ∷ os) = ((refl, λ z. refl), similar_none os)

similar_both : (os ps qs : List Operation) → Similar os ps → Similar ps qs → Similar os qs
similar_both [] [] [] a b = tt
similar_both (o ∷ os) (p ∷ ps) (q ∷ qs) a b = ((b.0.0 ∙ a.0.0, λ z. b.0.1 z ∙ a.0.1 z), similar_both os ps qs a.1 b.1)
similar_both [] [] (q ∷ qs) a b = absurd b
similar_both [] (p ∷ ps) qs a b = absurd a
similar_both (o ∷ os) [] qs a b = absurd a
similar_both (o ∷ os) (p ∷ ps) [] a b = absurd b

-- a user of a value after a replacement used that value before, or used the replaced one
module _ (a v : Value) (t : Operation) where
  pub replaced_uses : (w : Value) (u : ℕ × ℕ) → In u (uses_of w (with_value_replaced a v t)) → (e : ℕ × ℕ) × (e.0 ≡ u.0) × (In e (uses_of w t) ⊎ In e (uses_of a t))
  replaced_uses w u h =
      let s = user w (with_value_replaced a v t) u h in
      let m = in_mapped (edit_stand (put_values a v)) s.0 (stands [] t) (subst (λ (k : List (OpWithPathOf (List ℕ) TypeTerm AttrTerm)). In s.0 k) (each_stands (put_values a v) [] t) s.1) in
      let i : In w (map (put_value a v) (head m.0.here).operands) = subst (λ (z : Header). In w z.operands) (head_of m.0.here) (subst (λ (z : OpWithPathOf (List ℕ) TypeTerm AttrTerm). In w (head z.here).operands) m.2 s.3) in
      let p = in_mapped (put_value a v) w (head m.0.here).operands i in
      let id : op_with_path_id m.0 ≡ u.0 = sym (ap (λ (h : Header). h.id) (head_of m.0.here)) ∙ ap (λ (z : OpWithPathOf (List ℕ) TypeTerm AttrTerm). op_with_path_id z) (sym m.2) ∙ sym s.2 in
      go m.0 m.1 id p.0 p.1 (same_value a p.0) refl p.2
    where
      head_of : (o : Operation) → head (each_head (put_values a v) o) ≡ put_values a v (head o)
      head_of (op h rs) = refl

      used_at : (s : OpWithPathOf (List ℕ) TypeTerm AttrTerm) → In s (stands [] t) → (q : Value) → In q (head s.here).operands → (e : ℕ × ℕ) × (e.0 ≡ op_with_path_id s) × In e (uses_of q t)
      used_at s h q i =
          let n = used_here q (op_with_path_id s) 0 (head s.here).operands q i (same_value_refl q) in
          ((op_with_path_id s, n.0), refl, subst (In (op_with_path_id s, n.0)) (stands_uses q [] t) (in_gather (λ (z : OpWithPathOf (List ℕ) TypeTerm AttrTerm). operand_uses q (op_with_path_id z) 0 (head z.here).operands) (op_with_path_id s, n.0) s (stands [] t) h n.1))

      go : (s : OpWithPathOf (List ℕ) TypeTerm AttrTerm) → In s (stands [] t) → op_with_path_id s ≡ u.0 → (q : Value) → In q (head s.here).operands → (b : Bool) → same_value a q ≡ b → w ≡ cond (same_value a q) v q → (e : ℕ × ℕ) × (e.0 ≡ u.0) × (In e (uses_of w t) ⊎ In e (uses_of a t))
      go s h id q i true e f = (let k = used_at s h q i in (k.0, k.1 ∙ id, inr (subst (λ z. In k.0 (uses_of z t)) (sym (same_value_true a q e)) k.2)))
      go s h id q i false e f = (let k = used_at s h q i in (k.0, k.1 ∙ id, inl (subst (λ z. In k.0 (uses_of z t)) (sym (f ∙ ap (λ b. cond b v q) e)) k.2)))

-- heads edited in a list of operations
each_joined : (f : Header → Header) (ws : List Operation) → ops_each_head f (joined_ops ws no_ops) ≡ joined_ops (map (each_head f) ws) no_ops
each_joined f [] = refl
each_joined f (w ∷ ws) = ap (next (each_head f w)) (each_joined f ws)

each_similar : (f : Header → Header) → ((h : Header) → Alike (f h) h) → (ws : List Operation) → Similar ws (map (each_head f) ws)
each_similar f alike [] = tt
each_similar f alike (w ∷ ws) = ((each_id f alike w, λ z. ap (list_any (λ y. eqb y z)) (edit_ids f alike w)), each_similar f alike ws)

-- operation x isn't isolated and isn't a symbol table, and its first block has these arguments and operations
pub record Taking (x : ℕ) (insertion : Place) (args : List TypeTerm) (held : List ℕ) (m : Module) : Type 0 where
  pub located : StandsAt x insertion m
  pub list : OpsOf (List ℕ) TypeTerm AttrTerm
  pub is : region_at 0 (regions located.at.here) ≡ Some (block args list)
  pub ids : list_ids list ≡ held
  pub opened : is_isolated (head located.at.here).name ≡ false
  pub simple : is_table (head located.at.here).name ≡ false

module _ (x : ℕ) (insertion : Place) (args : List TypeTerm) (held : List ℕ) where
  -- the types of the arguments
  pub argument_type : (m : Module) → Taking x insertion args held m → (k : ℕ) → type_of_value (Arg x 0 k) m.tree ≡ slice_get args k
  argument_type m h k =
      ap (option_and_then (λ o. option_and_then (λ args. slice_get args k) (arguments_at 0 o))) (headed.found_there is_isolated x insertion m h.located)
      ∙ ap (λ g. option_and_then (λ args. slice_get args k) (option_and_then arguments_of g)) h.is

  -- one argument is replaced
  module _ (m : Module) (h : Taking x insertion args held m) (v : Value) (seen : dominated_by x v m ≡ true) (n : ℕ) where
    abbrev new : Module
    new = edited (Replace (Arg x 0 n) v) m

    abbrev f : Header → Header
    f = put_values (Arg x 0 n) v

    from_there : dominated_by_from is_isolated (h.located.at.step_in ∷ h.located.at.path) v ≡ true
    from_there =
        sym (visible_there is_isolated m.tree h.located.wellformed.distinct (stand h.located.at.here (h.located.at.step_in ∷ h.located.at.path)) h.located.at.there v)
        ∙ ap (λ z. visible is_isolated m.tree z v) h.located.at.id ∙ seen

    users : is_visible_to_users is_isolated (Arg x 0 n) v m.tree ≡ true
    users = subst (λ z. is_visible_to_users is_isolated (Arg z 0 n) v m.tree ≡ true) h.located.at.id
        (users_inside is_isolated m.tree h.located.wellformed.distinct h.located.at.here (h.located.at.step_in ∷ h.located.at.path) h.located.at.there h.opened h.located.wellformed.wellformed.visible 0 n v from_there)

    differs : (k : ℕ) → same_value (Arg x 0 k) v ≡ false
    differs k = go (same_value (Arg x 0 k) v) refl
      where
        go : (b : Bool) → same_value (Arg x 0 k) v ≡ b → same_value (Arg x 0 k) v ≡ false
        go false e = e
        go true e =
            (let w = seer is_isolated m.tree h.located.wellformed.distinct x v seen in
            absurd (not_own is_isolated m.tree h.located.wellformed.distinct w.0 w.1 v w.3 (ap (λ z. (owner_of z).0) (sym (same_value_true (Arg x 0 k) v e)) ∙ sym w.2)))

    abbrev located_after : StandsAt x insertion (edited (Replace (Arg x 0 n) v) m)
    located_after = headed.located_headed is_isolated (put_values (Arg x 0 n) v) (λ g. record { id = refl; name = refl; results = refl }) x insertion m h.located (replaced_keeps is_isolated (Arg x 0 n) v m h.located.wellformed users)

    same_name : (o : Operation) → (head (each_head (put_values (Arg x 0 n) v) o)).name ≡ (head o).name
    same_name (op g rs) = refl

    taking_after : Taking x insertion args held (edited (Replace (Arg x 0 n) v) m)
    taking_after = record {
      located = located_after;
      list = ops_each_head f h.list;
      is = each_region f h.located.at.here 0 ∙ ap (option_map (region_each_head f)) h.is;
      ids = each_ids f h.list (λ g. refl) ∙ h.ids;
      opened = ap is_isolated (same_name h.located.at.here) ∙ h.opened;
      simple = ap is_table (same_name h.located.at.here) ∙ h.simple;
    }

    dominated_by_after : (w : Value) → dominated_by x w (edited (Replace (Arg x 0 n) v) m) ≡ dominated_by x w m
    dominated_by_after w = headed.dominated_by_headed is_isolated (put_values (Arg x 0 n) v) (λ g. record { id = refl; name = refl; results = refl }) m.tree x w

    types_after : (w : Value) → type_of_value w (edited (Replace (Arg x 0 n) v) m).tree ≡ type_of_value w m.tree
    types_after w = type_kept (Arg x 0 n) v m.tree w

    heads_after : (z : ℕ) → option_map head (find z (edited (Replace (Arg x 0 n) v) m).tree) ≡ option_map (put_values (Arg x 0 n) v) (option_map head (find z m.tree))
    heads_after z = ap (option_map head) (head_find f (λ g. record { id = refl; name = refl; results = refl }) z m.tree) ∙ go (find z m.tree)
      where
        go : (o : Option Operation) → option_map head (option_map (each_head (put_values (Arg x 0 n) v)) o) ≡ option_map (put_values (Arg x 0 n) v) (option_map head o)
        go None = refl
        go (Some (op g rs)) = refl

    given_after : (vs : List Value) (tys : List TypeTerm) → AreGiven x insertion vs tys m → AreGiven x insertion vs tys (edited (Replace (Arg x 0 n) v) m)
    given_after [] [] g = tt
    given_after (w ∷ vs) (ty ∷ tys) g = ((dominated_by_after w ∙ g.0.0, (g.0.1.0, types_after w ∙ g.0.1.1, g.0.1.2)), given_after vs tys g.1)
    given_after [] (ty ∷ tys) g = absurd g
    given_after (w ∷ vs) [] g = absurd g

    -- the arguments that are not used
    abbrev IsOut : ℕ → ℕ → Type 0
    IsOut j k = (j < k) ⊎ (length args ≤ j)

    unused_after : ((j : ℕ) → (j < n) ⊎ (length args ≤ j) → uses_of (Arg x 0 j) m.tree ≡ []) → (j : ℕ) → (j < n + 1) ⊎ (length args ≤ j) → uses_of (Arg x 0 j) (edited (Replace (Arg x 0 n) v) m).tree ≡ []
    unused_after unused j out = go (eqb j n) refl
      where
        others : eqb j n ≡ false → (j < n) ⊎ (length args ≤ j) → uses_of (Arg x 0 j) (edited (Replace (Arg x 0 n) v) m).tree ≡ []
        others e k = others_stay (Arg x 0 n) v (Arg x 0 j) (no_both (eqb x x) (eqb j n) e) (differs j) m.tree ∙ unused j k
          where
            no_both : (a b : Bool) → b ≡ false → a && b ≡ false
            no_both true b e = e
            no_both false b e = refl

        less : eqb j n ≡ false → (j < n + 1) ⊎ (length args ≤ j) → (j < n) ⊎ (length args ≤ j)
        less e (inr l) = inr l
        less e (inl l) = (let apart = apart_of e in inl (omega (arith, l, apart)))
          where
            apart_of : eqb j n ≡ false → (j < n) ⊎ (n < j)
            apart_of e = order (nat_lt j n) refl
              where
                order : (b : Bool) → nat_lt j n ≡ b → (j < n) ⊎ (n < j)
                order true k = inl (ltb-true j n k)
                order false k = (let no_less = ltb-false j n k in inr (bigger no_less))
                  where
                    bigger : n ≤ j → n < j
                    bigger no_less = grind (arith, e)

        go : (b : Bool) → eqb j n ≡ b → uses_of (Arg x 0 j) (edited (Replace (Arg x 0 n) v) m).tree ≡ []
        go true e = ap (λ z. uses_of (Arg x 0 z) (edited (Replace (Arg x 0 n) v) m).tree) (eqb-true j n e) ∙ old_unused (Arg x 0 n) v (differs n) m.tree
        go false e = others e (less e out)

    module _ (done : List TypeTerm) (ty : TypeTerm) (tys : List TypeTerm) (is : args ≡ done ++ ty ∷ tys) (at : n ≡ length done) (u : TypeTerm) (of : type_of_value v m.tree ≡ Some u) (same : same_type ty u ≡ true) where
      this_type : type_of_value (Arg x 0 n) m.tree ≡ Some ty
      this_type = argument_type m h n ∙ (λ i. slice_get (is i) (at i)) ∙ slice_at done ty tys
        where
          slice_at : (done : List TypeTerm) (x : TypeTerm) (xs : List TypeTerm) → slice_get (done ++ x ∷ xs) (length done) ≡ Some x
          slice_at [] x xs = refl
          slice_at (y ∷ done) x xs = slice_at done x xs

      same_types : type_of_value v m.tree ≡ type_of_value (Arg x 0 n) m.tree
      same_types = of ∙ ap Some (sym (type_is ty u same)) ∙ sym this_type

      replace_free : (es : List Edit) → Free es (edited (Replace (Arg x 0 n) v) m) → Free (Replace (Arg x 0 n) v ∷ es) m
      replace_free es rest = (
        passed _ _ _ (ap is_some this_type)
            (passed _ _ _ (ap is_some of)
            (passed _ _ _ ((λ i. option_eq same_type (this_type i) (of i)) ∙ same)
            (passed _ _ _ users refl))),
        rest,
      )

  -- the arguments from number n on are replaced by values
  abbrev pub after : ℕ → List Value → Module → Module
  after n vs m = all_edited (replacing (arguments_from x n vs) vs) m

  abbrev pub changed : ℕ → List Value → Value → Value
  changed n vs = replaced (arguments_from x n vs) vs

  pub record Outcome (n : ℕ) (vs : List Value) (m : Module) : Type 0 where
    pub free : (es : List Edit) → Free es (after n vs m) → Free (replacing (arguments_from x n vs) vs ++ es) m
    pub taking : Taking x insertion args held (after n vs m)
    pub unused : (j : ℕ) → uses_of (Arg x 0 j) (after n vs m).tree ≡ []
    pub heads : (z : ℕ) → option_map head (find z (after n vs m).tree) ≡ option_map (with_operands (changed n vs)) (option_map head (find z m.tree))
    pub types : (v : Value) → type_of_value v (after n vs m).tree ≡ type_of_value v m.tree
    pub changed_types : (v : Value) → type_of_value (changed n vs v) m.tree ≡ type_of_value v m.tree
    pub dominance : (v : Value) → dominated_by x v (after n vs m) ≡ dominated_by x v m
    pub numbers : (after n vs m).next ≡ m.next
    pub lists : (s : StandsAt x insertion m) (ws : List Operation) → region_at 0 (regions s.at.here) ≡ Some (block args (joined_ops ws no_ops)) → (zs : List Operation) × (region_at 0 (regions taking.located.at.here) ≡ Some (block args (joined_ops zs no_ops))) × Similar ws zs
    pub users : (w : Value) (u : ℕ × ℕ) → In u (uses_of w (after n vs m).tree) → (e : ℕ × ℕ) × (e.0 ≡ u.0) × (In e (uses_of w m.tree) ⊎ ((j : ℕ) × In e (uses_of (Arg x 0 j) m.tree)))
    pub counts : op_count (after n vs m).tree ≡ op_count m.tree
    pub befores : (a b : ℕ) → Before a b m.tree → Before a b (after n vs m).tree

  pub one_here : (m : Module) (s k : StandsAt x insertion m) → s.at.here ≡ k.at.here
  one_here m s k = (let two : Some s.at.here ≡ Some k.at.here = sym (headed.found_there is_isolated x insertion m s) ∙ headed.found_there is_isolated x insertion m k in cc)

  pub outcome : (vs : List Value) (tys done : List TypeTerm) (m : Module) → Taking x insertion args held m → args ≡ done ++ tys → AreGiven x insertion vs tys m → (n : ℕ) → n ≡ length done
      → ((j : ℕ) → (j < n) ⊎ (length args ≤ j) → uses_of (Arg x 0 j) m.tree ≡ []) → Outcome n vs m
  outcome [] [] done m h is g n at unused = record {
    free = λ es k. k;
    taking = h;
    unused = λ j. unused j (all_out j (nat_lt j n) refl);
    heads = λ z. sym (no_head (option_map head (find z m.tree)));
    types = λ v. refl;
    changed_types = λ v. refl;
    dominance = λ v. refl;
    numbers = refl;
    lists = λ s ws is. (ws, ap (λ o. region_at 0 (regions o)) (one_here m h.located s) ∙ is, similar_none ws);
    users = λ w u i. (u, refl, inl i);
    counts = refl;
    befores = λ a b k. k;
  }
    where
      all_out : (j : ℕ) (b : Bool) → nat_lt j n ≡ b → (j < n) ⊎ (length args ≤ j)
      all_out j true e = inl (ltb-true j n e)
      all_out j false e = (let long = ap length (is ∙ append-nil done) in let more = ltb-false j n e in inr (omega (arith, long, more, at)))

      no_head : (o : Option Header) → option_map (with_operands (replaced [] [])) o ≡ o
      no_head None = refl
      no_head (Some h) = ap (λ vs. Some (record h { operands = vs })) (left_alone h.operands)
  outcome (v ∷ vs) (ty ∷ tys) done m h is g n at unused =
      let next_one = outcome vs tys (done ++ ty ∷ []) (edited (Replace (Arg x 0 n) v) m) (taking_after m h v g.0.0 n) (is ∙ sym (append_assoc done (ty ∷ []) tys)) (given_after m h v g.0.0 n vs tys g.1) (n + 1)
      (let e = length-append done (ty ∷ []) in omega (arith, e, at)) (unused_after m h v g.0.0 n unused) in
      record {
        free = λ es k. replace_free m h v g.0.0 n done ty tys is at g.0.1.0 g.0.1.1 g.0.1.2 (replacing (arguments_from x (n + 1) vs) vs ++ es) (next_one.free es k);
        taking = next_one.taking;
        unused = next_one.unused;
        heads = λ z. next_one.heads z ∙ ap (option_map (with_operands (changed (n + 1) vs))) (heads_after m h v g.0.0 n z) ∙ joined (option_map head (find z m.tree));
        types = λ w. next_one.types w ∙ types_after m h v g.0.0 n w;
        changed_types = λ w. changed_type next_one w (same_value (Arg x 0 n) w) refl;
        dominance = λ w. next_one.dominance w ∙ dominated_by_after m h v g.0.0 n w;
        numbers = next_one.numbers;
        lists = λ s ws is. (let p = next_one.lists (located_after m h v g.0.0 n) (map (each_head (put_values (Arg x 0 n) v)) ws) (list_after ws (ap (λ o. region_at 0 (regions o)) (one_here m h.located s) ∙ is)) in (p.0, p.1, similar_both ws (map (each_head (put_values (Arg x 0 n) v)) ws) p.0 (each_similar (put_values (Arg x 0 n) v) (λ k. record { id = refl; name = refl; results = refl }) ws) p.2));
        users = λ w u i. users_both next_one w u i;
        befores = λ a b k. next_one.befores a b (before_headed (put_values (Arg x 0 n) v) (λ j. record { id = refl; name = refl; results = refl }) m.tree a b k);
        counts = next_one.counts ∙ ap length (edit_ids (put_values (Arg x 0 n) v) (λ k. record { id = refl; name = refl; results = refl }) m.tree);
      }
    where
      list_after : (ws : List Operation) → region_at 0 (regions h.located.at.here) ≡ Some (block args (joined_ops ws no_ops)) → region_at 0 (regions (located_after m h v g.0.0 n).at.here) ≡ Some (block args (joined_ops (map (each_head (put_values (Arg x 0 n) v)) ws) no_ops))
      list_after ws is = each_region (put_values (Arg x 0 n) v) h.located.at.here 0 ∙ ap (option_map (region_each_head (put_values (Arg x 0 n) v))) is ∙ ap (λ l. Some (block args l)) (each_joined (put_values (Arg x 0 n) v) ws)

      users_both : Outcome (n + 1) vs (edited (Replace (Arg x 0 n) v) m) → (w : Value) (u : ℕ × ℕ) → In u (uses_of w (after n (v ∷ vs) m).tree) → (e : ℕ × ℕ) × (e.0 ≡ u.0) × (In e (uses_of w m.tree) ⊎ ((j : ℕ) × In e (uses_of (Arg x 0 j) m.tree)))
      users_both later w u i = (let p = later.users w u i in by_first p.0 p.1 p.2)
        where
          by_first : (e : ℕ × ℕ) → e.0 ≡ u.0 → In e (uses_of w (edited (Replace (Arg x 0 n) v) m).tree) ⊎ ((j : ℕ) × In e (uses_of (Arg x 0 j) (edited (Replace (Arg x 0 n) v) m).tree)) → (e : ℕ × ℕ) × (e.0 ≡ u.0) × (In e (uses_of w m.tree) ⊎ ((j : ℕ) × In e (uses_of (Arg x 0 j) m.tree)))
          by_first e id (inl k) = (let r = replaced_uses (Arg x 0 n) v m.tree w e k in (r.0, r.1 ∙ id, elim r.2 [ inl a ↦ inl a | inr a ↦ inr (n, a) ]))
          by_first e id (inr k) = (let r = replaced_uses (Arg x 0 n) v m.tree (Arg x 0 k.0) e k.1 in (r.0, r.1 ∙ id, elim r.2 [ inl a ↦ inr (k.0, a) | inr a ↦ inr (n, a) ]))

      one : (w : Value) → changed (n + 1) vs (put_value (Arg x 0 n) v w) ≡ changed n (v ∷ vs) w
      one w = go (same_value (Arg x 0 n) w)
        where
          go : (b : Bool) → changed (n + 1) vs (cond b v w) ≡ cond b v (changed (n + 1) vs w)
          go true = untouched x v (differs m h v g.0.0 n) (n + 1) vs vs
          go false = refl

      each : (ws : List Value) → map (changed (n + 1) vs) (map (put_value (Arg x 0 n) v) ws) ≡ map (changed n (v ∷ vs)) ws
      each [] = refl
      each (w ∷ ws) = λ i. one w i ∷ each ws i

      joined : (o : Option Header) → option_map (with_operands (changed (n + 1) vs)) (option_map (put_values (Arg x 0 n) v) o) ≡ option_map (with_operands (changed n (v ∷ vs))) o
      joined None = refl
      joined (Some g) = ap (λ ws. Some (record g { operands = ws })) (each g.operands)

      changed_type : Outcome (n + 1) vs (edited (Replace (Arg x 0 n) v) m) → (w : Value) (b : Bool) → same_value (Arg x 0 n) w ≡ b → type_of_value (changed n (v ∷ vs) w) m.tree ≡ type_of_value w m.tree
      changed_type later w true e =
          ap (λ b. type_of_value (cond b v (changed (n + 1) vs w)) m.tree) e
          ∙ same_types m h v g.0.0 n done ty tys is at g.0.1.0 g.0.1.1 g.0.1.2
          ∙ ap (λ z. type_of_value z m.tree) (same_value_true (Arg x 0 n) w e)
      changed_type later w false e =
          ap (λ b. type_of_value (cond b v (changed (n + 1) vs w)) m.tree) e
          ∙ sym (types_after m h v g.0.0 n (changed (n + 1) vs w)) ∙ later.changed_types w ∙ types_after m h v g.0.0 n w
  outcome [] (ty ∷ tys) done m h is g n at unused = absurd g
  outcome (v ∷ vs) [] done m h is g n at unused = absurd g
