-- An operation is inserted before another.
use Rattle.std.proofs.Common.{◌≡◌, refl, ap, sym, ◌∙◌, subst, ℕ, Bool, true, false, true≢false, ◌&&◌, ◌||◌, eqb, eq-eqb, eqb-true, List, [], ◌∷◌, ◌++◌, length, Some, None, option_map, inl, inr}
use Rattle.std.specs.List.{list_any}
use Rattle.std.specs.Prelude.{nat_lt}
use Rattle.std.proofs.lemmas.List.Folds.{list_any-append}
use Rattle.ir_tree.specs.declared.value.Value.{Value}
use Rattle.ir_tree.specs.declared.value.Value.TheVariants.{Result, Arg}
use Rattle.ir_tree.specs.declared.place.Place.{Place}
use Rattle.ir_tree.specs.Tree.{OpOf, OpsOf, no_ops, next, head}
use Rattle.ir_tree.specs.Ids.{HasDistinctIds, find, has_id}
use Rattle.ir_tree.specs.Frames.{owner_of}
use Rattle.ir_tree.specs.Sites.{shows, results_of, visible}
use Rattle.ir_tree.specs.Places.{put, without, place_of, first_id}
use Rattle.ir_tree_laws.specs.Stands.{StepOf, OpWithPathOf, op_with_path_id, stands, ops_stands, dominated_by, place_in, table_in}
use Rattle.ir_tree_laws.specs.Tables.{table_of}
use Rattle.ir_tree_laws.specs.Members.{In}
use Rattle.ir_tree_laws.specs.Reads.{around}
use Rattle.ir_tree_laws.specs.Reasons.{has_place}
use Rattle.ir_tree_laws.specs.Restores.{MayPut}
use Rattle.ir_tree_laws.proofs.Listed.{bool_cases, both_hold, either, or_left, or_right}
use Rattle.ir_tree_laws.proofs.Readings.{step, stands_table}
use Rattle.ir_tree_laws.proofs.Members.{stand, itself, within, joined_ops, ops_child, stand_found, stand_of_member}
use Rattle.ir_tree_laws.proofs.Around.{around_there, stands_around, stand_present, member_of_place}
use Rattle.ir_tree_laws.proofs.Put.{child, of_point, Landed}
use Rattle.ir_tree_laws.proofs.PutForm as put_form
use Rattle.ir_tree_laws.proofs.Values.{shaped_as, seen_by}
use Rattle.ir_tree_laws.proofs.Changed.{joined_among}
use Rattle.ir_tree_laws.proofs.DominatedBy.{visible_there}
use Rattle.ir_tree_laws.proofs.Edited.{head_stays, dominance_stays}
use Rattle.patterns_base.proofs.Given.{seer}

abbrev pub before_it : ℕ → ℕ → ℕ → Place
before_it p r x = record { parent = p; region = r; before = Some x }

module _ {N T A : Type 0} where
  -- operation x of a tree comes after a place
  pub record Following (x : ℕ) (preceding : Place) (t : OpOf N T A) : Type 0 where
    pub here : OpOf N T A
    pub step_in : StepOf N T A
    pub path : List (StepOf N T A)
    pub there : In (stand here (step_in ∷ path)) (stands [] t)
    pub id : (head here).id ≡ x
    pub place : preceding ≡ before_it (head step_in.parent).id step_in.region x

  -- an operation that has a place
  pub after_of : (x : ℕ) (place : Place) (t : OpOf N T A) → place_of x t ≡ Some place → Following x (record place { before = Some x }) t
  after_of x place t e =
      let u = member_of_place x place t e in
      go u.0 u.1 u.2 u.0.path refl u.3
    where
      go : (u : OpWithPathOf N T A) → In u (stands [] t) → op_with_path_id u ≡ x → (p : List (StepOf N T A)) → u.path ≡ p → place_in u.path ≡ Some place → Following x (record place { before = Some x }) t
      go u h i [] q e = (let bad : None ≡ Some place = sym (ap place_in q) ∙ e in absurd cc)
      go u h i (a ∷ p) q e =
          let one : Some (record { parent = (head a.parent).id; region = a.region; before = first_id a.rest }) ≡ Some place = sym (ap place_in q) ∙ e in
          let two : record { parent = (head a.parent).id; region = a.region; before = first_id a.rest } ≡ place = cc in
          record { here = u.here; step_in = a; path = p; there = subst (λ l. In (stand u.here l) (stands [] t)) q h; id = i; place = λ j. record (sym two j) { before = Some x } }

  module _ (x : ℕ) (preceding : Place) (t : OpOf N T A) (d : HasDistinctIds t) (s : Following x preceding t) where
    abbrev trailing : OpsOf N T A
    trailing = joined_ops s.step_in.preceding (next s.here s.step_in.rest)

    up : In (stand s.step_in.parent s.path) (stands [] t)
    up = (around_there t s.here s.step_in s.path s.there).1

    pub point : has_place preceding t ≡ true
    point = ap (λ p. has_place p t) s.place ∙ of_point (before_it (head s.step_in.parent).id s.step_in.region x) t (record {
      parent = s.step_in.parent;
      found = stand_found t d (stand s.step_in.parent s.path) up;
      args = s.step_in.args;
      list = trailing;
      is = shaped_as t s.here s.step_in s.path s.there;
      among = joined_among x s.step_in.preceding (next s.here s.step_in.rest) (or_left (eqb (head s.here).id x) _ (eq-eqb (head s.here).id x s.id));
    })

    pub parent_is : has_id preceding.parent t ≡ true
    parent_is = ap (λ (p : Place). has_id p.parent t) s.place ∙ stand_present [] t (stand s.step_in.parent s.path) up

    pub around_is : around preceding.parent t ≡ Some (length s.path)
    around_is = ap (λ (p : Place). around p.parent t) s.place ∙ sym (stands_around (head s.step_in.parent).id [] t) ∙ ap (option_map (λ (u : OpWithPathOf N T A). length u.path)) (stand_of_member t d (stand s.step_in.parent s.path) up)

    -- an operation that may be inserted before x
    module _ (o : OpOf N T A) (may : MayPut preceding o t) where
      abbrev there : Landed preceding o (put preceding o t)
      there = put_form.landed preceding o t may

      distinct : HasDistinctIds (put preceding o t)
      distinct = put_form.put_distinct preceding o t may

      absent : has_id (head o).id t ≡ false
      absent = may.apart (head o).id (stand_present [] o (stand o []) (itself [] o))

      back : without (head o).id (put preceding o t) ≡ t
      back = put_form.put_back preceding o t may

      -- the operation directly after it
      record Follows : Type 0 where
        pub it : OpOf N T A
        pub rest : OpsOf N T A
        pub is : there.step_in.rest ≡ next it rest
        pub id : (head it).id ≡ x

      after_it : Follows
      after_it = go there.step_in.rest refl (there.before ∙ ap (λ (p : Place). p.before) s.place)
        where
          go : (os : OpsOf N T A) → there.step_in.rest ≡ os → first_id os ≡ Some x → Follows
          go no_ops e f = (let bad : None ≡ Some x = f in absurd cc)
          go (next q os) e f = (let one : (head q).id ≡ x = cc in record { it = q; rest = os; is = e; id = one })

      abbrev b : StepOf N T A
      b = there.step_in

      abbrev b' : StepOf N T A
      b' = step there.step_in.parent there.step_in.region there.step_in.args (there.step_in.preceding ++ o ∷ []) after_it.rest

      joined_more : (preceding : List (OpOf N T A)) (o : OpOf N T A) (os : OpsOf N T A) → joined_ops (preceding ++ o ∷ []) os ≡ joined_ops preceding (next o os)
      joined_more [] o os = refl
      joined_more (f ∷ fs) o os = ap (next f) (joined_more fs o os)

      still : In (stand after_it.it (step there.step_in.parent there.step_in.region there.step_in.args (there.step_in.preceding ++ o ∷ []) after_it.rest ∷ there.path)) (stands [] (put preceding o t))
      still =
          let t' = put preceding o t in
          let list : joined_ops there.step_in.preceding (next o there.step_in.rest) ≡ joined_ops (there.step_in.preceding ++ o ∷ []) (next after_it.it after_it.rest) = ap (λ l. joined_ops there.step_in.preceding (next o l)) after_it.is ∙ sym (joined_more there.step_in.preceding o (next after_it.it after_it.rest)) in
          within there.step_in.parent there.path (stand after_it.it (b' ∷ there.path)) (child there.step_in.parent there.path there.step_in.region there.step_in.args (joined_ops there.step_in.preceding (next o there.step_in.rest)) (stand after_it.it (b' ∷ there.path)) (shaped_as t' o there.step_in there.path there.there)
          (subst (λ l. In (stand after_it.it (b' ∷ there.path)) (ops_stands there.step_in.parent there.path there.step_in.region there.step_in.args [] l)) (sym list) (ops_child there.step_in.parent there.path there.step_in.region there.step_in.args [] (there.step_in.preceding ++ o ∷ []) after_it.it after_it.rest))) [] t' there.around

      module _ (isolated : N → Bool) where
        -- the values that dominate the operation after it, except its own, dominate the new operation
        one_preceding : (v : Value) → eqb (owner_of v).0 (head o).id ≡ false → dominated_by isolated (step there.step_in.parent there.step_in.region there.step_in.args (there.step_in.preceding ++ o ∷ []) after_it.rest ∷ there.path) v ≡ true → dominated_by isolated (there.step_in ∷ there.path) v ≡ true
        one_preceding v n e = elim (either (list_any (λ f. shows v (results_of f)) (there.step_in.preceding ++ o ∷ [])) _ e) [
          | inr k ↦ or_right (list_any (λ f. shows v (results_of f)) there.step_in.preceding) _ k
          | inl k ↦ or_left _ _ (elim (either (list_any (λ f. shows v (results_of f)) there.step_in.preceding) _ (sym (list_any-append (λ f. shows v (results_of f)) there.step_in.preceding (o ∷ [])) ∙ k)) [
            | inl l ↦ l
            | inr l ↦ absurd (true≢false (sym l ∙ own v n))
          ])
        ]
          where
            own : (v : Value) → eqb (owner_of v).0 (head o).id ≡ false → (shows v (results_of o) || false) ≡ false
            own (Arg y r k) n = refl
            own (Result y k) n = ap (λ c. (c && nat_lt k (length (head o).results)) || false) n

        not_new : (v : Value) → visible isolated t x v ≡ true → eqb (owner_of v).0 (head o).id ≡ false
        not_new v e =
            let w = seer isolated t d x v e in
            let g = seen_by isolated t d w.0 w.1 v w.3 in
            elim (bool_cases (eqb (owner_of v).0 (head o).id)) [
              | inr k ↦ k
              | inl k ↦ absurd (true≢false (sym (ap (λ z. has_id z t) (sym (eqb-true (owner_of v).0 (head o).id k) ∙ g.id) ∙ stand_present [] t g.owner g.there) ∙ absent))
            ]

        -- the values that dominated x still do
        pub dominated_by_still : (v : Value) → visible isolated t x v ≡ true → visible isolated (put preceding o t) x v ≡ true
        dominated_by_still v e =
            let w = seer isolated t d x v e in
            sym (dominance_stays (head o).id (put preceding o t) distinct x (ap (has_id x) back ∙ there_still w) isolated v (not_new v e))
            ∙ ap (λ z. visible isolated z x v) back ∙ e
          where
            there_still : (w : (u : OpWithPathOf N T A) × In u (stands [] t) × (op_with_path_id u ≡ x) × (dominated_by isolated u.path v ≡ true)) → has_id x t ≡ true
            there_still w = ap (λ z. has_id z t) (sym w.2) ∙ stand_present [] t w.0 w.1

        -- the values that dominate x dominate the new operation
        pub new_dominated_by : (v : Value) → visible isolated t x v ≡ true → visible isolated (put preceding o t) (head o).id v ≡ true
        new_dominated_by v e =
            visible_there isolated (put preceding o t) distinct (stand o (there.step_in ∷ there.path)) there.there v
            ∙ one_preceding v (not_new v e)
            (sym (visible_there isolated (put preceding o t) distinct (stand after_it.it (b' ∷ there.path)) still v) ∙ ap (λ z. visible isolated (put preceding o t) z v) after_it.id ∙ dominated_by_still v e)

        -- the results of the new operation dominate x
        pub dominated_by_new : (k : ℕ) → nat_lt k (length (head o).results) ≡ true → visible isolated (put preceding o t) x (Result (head o).id k) ≡ true
        dominated_by_new k l =
            ap (λ z. visible isolated (put preceding o t) z (Result (head o).id k)) (sym after_it.id)
            ∙ visible_there isolated (put preceding o t) distinct (stand after_it.it (b' ∷ there.path)) still (Result (head o).id k)
            ∙ or_left _ _ (list_any-append (λ f. shows (Result (head o).id k) (results_of f)) there.step_in.preceding (o ∷ [])
            ∙ or_right (list_any (λ f. shows (Result (head o).id k) (results_of f)) there.step_in.preceding) _ (or_left (shows (Result (head o).id k) (results_of o)) false
            (both_hold (eqb (head o).id (head o).id) (nat_lt k (length (head o).results)) (eq-eqb (head o).id (head o).id refl) l)))

      -- x still comes after the place
      pub after_still : Following x preceding (put preceding o t)
      after_still = record {
        here = after_it.it;
        step_in = b';
        path = there.path;
        there = still;
        id = after_it.id;
        place = (let p = s.place in λ i. record { parent = sym there.parent i; region = sym there.region i; before = (p i).before });
      }

      -- the other operations keep their heads
      pub heads_stay : (y : ℕ) → has_id y t ≡ true → option_map head (find y (put preceding o t)) ≡ option_map head (find y t)
      heads_stay y h = sym (head_stays (head o).id (put preceding o t) distinct y (ap (has_id y) back ∙ h)) ∙ ap (λ z. option_map head (find y z)) back

      -- x and the new operation are in the same symbol table
      pub table_next_to : (is_table : N → Bool) → table_of is_table x (put preceding o t) ≡ table_of is_table (head o).id (put preceding o t)
      table_next_to is_table =
          ap (λ z. table_of is_table z (put preceding o t)) (sym after_it.id)
          ∙ sym (stands_table is_table (head after_it.it).id [] (put preceding o t)) ∙ ap (option_map (λ (z : OpWithPathOf N T A). table_in is_table z.path)) (stand_of_member (put preceding o t) distinct (stand after_it.it (b' ∷ there.path)) still)
          ∙ sym (sym (stands_table is_table (head o).id [] (put preceding o t)) ∙ ap (option_map (λ (z : OpWithPathOf N T A). table_in is_table z.path)) (stand_of_member (put preceding o t) distinct (stand o (there.step_in ∷ there.path)) there.there))
