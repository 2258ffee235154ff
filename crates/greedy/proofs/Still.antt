-- Each event keeps, for the operations that it isn't about, their heads, their parents and their effects.
use Rattle.std.proofs.Common.{◌≡◌, refl, ap, sym, ◌∙◌, subst, ℕ, zero, suc, ◌+◌, false, cond, eqb, eqb-true, List, [], ◌∷◌, ◌++◌, map, Option, Some, None, inl, inr, ◌⊎◌}
use Rattle.ir_event.specs.trees.Tree.{HeadOf, OpOf, op, RegionsOf, no_regions, region, RegionOf, empty, block, OpsOf, no_ops, next, head, regions}
use Rattle.ir_event.specs.trees.Ids.{HasDistinctIds, find, first_of}
use Rattle.ir_event.specs.trees.Places.{each_list, regions_each_list, without}
use Rattle.ir_event.specs.trees.Edits.{each_head, regions_each_head, ops_each_head, at}
use Rattle.ir_event.specs.store.Nodes.{node_of, regions_arguments}
use Rattle.ir_event.specs.tree_laws.Changes.{HoldNone}
use Rattle.ir_event.specs.tree_laws.Reads.{last_id}
use Rattle.ir_event.specs.tree_laws.Values.{region_at}
use Rattle.ir_event.specs.tree_laws.Stands.{StepOf, OpWithPathOf, op_with_path_id, stands, regions_stands, region_stands, ops_stands, is_gone, dropping, left_step, left_stand, edit_step, edit_stand}
use Rattle.ir_event.specs.tree_laws.Members.{In}
use Rattle.ir_event.proofs.of_tree_laws.Listed.{bool_cases, in_left, in_right, in_parts}
use Rattle.ir_event.proofs.of_tree_laws.Readings.{step}
use Rattle.ir_event.proofs.of_tree_laws.Members.{stand, itself, within, stand_found, found_stands}
use Rattle.ir_event.proofs.of_tree_laws.Around.{Within, gone_within}
use Rattle.ir_event.proofs.of_tree_laws.Without.{left_member, member_left}
use Rattle.ir_event.proofs.of_tree_laws.Heads.{each_stands}
use Rattle.op_registry.specs.declared.own.Own.{Own}
use Rattle.effects.specs.Effects.{effects}
use Rattle.listeners_support.proofs.Left.{left_node, left_head}
use Rattle.listeners_support.proofs.Moves.{taken, left_id}
use Rattle.greedy.specs.Climbs.{feels}
use Rattle.greedy.specs.LocalContext.{last_ids}
use Rattle.listeners_support.proofs.Locality.{last_id_kept}
use Rattle.greedy.proofs.Feeling.{left_effects, edit_effects}

module _ {N T A : Type 0} where
  -- the operation that a path leads into
  abbrev pub around_id : List (StepOf N T A) → Option ℕ
  around_id [] = None
  around_id (a ∷ q) = Some (head a.parent).id

  -- operation x ends no block of the operation
  abbrev pub Unlast : ℕ → OpOf N T A → Type 0
  Unlast x o = (k : ℕ) (args : List T) (os : OpsOf N T A) → region_at k (regions o) ≡ Some (block args os) → last_id os ≡ Some x → ⊥

  -- an operation with the same head and the same parent in both trees. If it doesn't feel operation x, its effects are
  -- the same; if x ends none of its blocks, the same operations end them
  pub record Like (own : N → Own) (x : ℕ) (s r : OpWithPathOf N T A) : Type 0 where
    pub node : node_of s.here ≡ node_of r.here
    pub around : around_id s.path ≡ around_id r.path
    pub effects_of : feels own x s.here ≡ false → feels own x r.here ≡ false → effects own s.here ≡ effects own r.here
    pub lasts : Unlast x s.here → Unlast x r.here → last_ids (regions s.here) ≡ last_ids (regions r.here)

  -- each operation of the first tree except x is in the second
  abbrev pub Goes : (OpWithPathOf N T A → OpWithPathOf N T A → Type 0) → ℕ → OpOf N T A → OpOf N T A → Type 0
  Goes R x t u = (s : OpWithPathOf N T A) → In s (stands [] t) → (op_with_path_id s ≡ x → ⊥) → (r : OpWithPathOf N T A) × In r (stands [] u) × (op_with_path_id r ≡ op_with_path_id s) × R s r

  module _ (own : N → Own) (x : ℕ) where
    -- the last operations of the remaining tree
    left_lasts : (p r : ℕ) (rs : RegionsOf N T A) → ((k : ℕ) (args : List T) (os : OpsOf N T A) → region_at k rs ≡ Some (block args os) → last_id os ≡ Some x → ⊥) → last_ids (regions_each_list (dropping x) p r rs) ≡ last_ids rs
    left_lasts p r no_regions f = refl
    left_lasts p r (region empty rs) f = ap (λ l. None ∷ l) (left_lasts p (r + 1) rs (λ k args os. f (suc k) args os))
    left_lasts p r (region (block args os) rs) f = λ i. last_id_kept x os (f zero args os refl) i ∷ left_lasts p (r + 1) rs (λ k args os. f (suc k) args os) i

    left_lasts_op : (o : OpOf N T A) → Unlast x o → last_ids (regions (each_list (dropping x) o)) ≡ last_ids (regions o)
    left_lasts_op (op h rs) f = left_lasts h.id 0 rs f

    left_around : (q : List (StepOf N T A)) → around_id (map (left_step x) q) ≡ around_id q
    left_around [] = refl
    left_around (a ∷ q) = ap (λ (h : HeadOf N T A). Some h.id) (left_head x a.parent)

    -- taking the operation out
    pub goes_out : (t w : OpOf N T A) → HasDistinctIds t → HasDistinctIds w → w ≡ without x t → ((o : OpOf N T A) → find x t ≡ Some o → HoldNone (regions o)) → Goes (Like own x) x t w
    goes_out t w dt dw is bare s h apart = (
      left_stand x s,
      taken x t w dt dw is bare s h apart,
      left_id x s,
      record { node = sym (left_node x s.here); around = sym (left_around s.path); effects_of = λ f g. sym (left_effects own x s.here f); lasts = λ f g. sym (left_lasts_op s.here f) },
    )

    -- putting the operation in
    pub goes_in : (t w : OpOf N T A) → w ≡ without x t → Goes (Like own x) x w t
    goes_in t w is r h apart =
        let b = member_left x t r (subst (λ z. In r (stands [] z)) is h) in
        let same : r ≡ left_stand x b.0 = b.3 in (
          b.0,
          b.1,
          sym (left_id x b.0) ∙ ap (λ (z : OpWithPathOf N T A). op_with_path_id z) (sym same),
          record {
            node = ap (λ (z : OpWithPathOf N T A). node_of z.here) same ∙ left_node x b.0.here;
            around = ap (λ (z : OpWithPathOf N T A). around_id z.path) same ∙ left_around b.0.path;
            effects_of = λ f g. ap (λ (z : OpWithPathOf N T A). effects own z.here) same ∙ left_effects own x b.0.here g;
            lasts = λ f g. ap (λ (z : OpWithPathOf N T A). last_ids (regions z.here)) same ∙ left_lasts_op b.0.here g;
          },
        )

    -- operations inside an operation keep their parents, whatever is around the outer operation
    abbrev Again : OpWithPathOf N T A → List (OpWithPathOf N T A) → Type 0
    Again s us = (u : OpWithPathOf N T A) × In u us × (u.here ≡ s.here) × (around_id u.path ≡ around_id s.path)

    more : (s : OpWithPathOf N T A) (us vs : List (OpWithPathOf N T A)) → ((z : OpWithPathOf N T A) → In z us → In z vs) → Again s us → Again s vs
    more s us vs f w = (w.0, f w.0 w.1, w.2, w.3)

    mutual
      again : (b c : List (StepOf N T A)) (t : OpOf N T A) (s : OpWithPathOf N T A) → In s (stands b t) → (s ≡ stand t b) ⊎ Again s (stands c t)
      again b c (op h rs) s (inl e) = inl e
      again b c (op h rs) s (inr k) = inr (more s (regions_stands (op h rs) c 0 rs) (stands c (op h rs)) (λ z m. inr m) (regions_again (op h rs) b c 0 rs s k))

      regions_again : (p : OpOf N T A) (b c : List (StepOf N T A)) (r : ℕ) (rs : RegionsOf N T A) (s : OpWithPathOf N T A) → In s (regions_stands p b r rs) → Again s (regions_stands p c r rs)
      regions_again p b c r no_regions s k = absurd k
      regions_again p b c r (region g rs) s k =
          let xs = region_stands p c r g in
          let ys = regions_stands p c (r + 1) rs in
          elim (in_parts s (region_stands p b r g) (regions_stands p b (r + 1) rs) k) [
            | inl l ↦ more s xs (xs ++ ys) (λ z m. in_left z xs ys m) (region_again p b c r g s l)
            | inr l ↦ more s ys (xs ++ ys) (λ z m. in_right z xs ys m) (regions_again p b c (r + 1) rs s l)
          ]

      region_again : (p : OpOf N T A) (b c : List (StepOf N T A)) (r : ℕ) (g : RegionOf N T A) (s : OpWithPathOf N T A) → In s (region_stands p b r g) → Again s (region_stands p c r g)
      region_again p b c r empty s k = absurd k
      region_again p b c r (block args os) s k = ops_again p b c r args [] os s k

      ops_again : (p : OpOf N T A) (b c : List (StepOf N T A)) (r : ℕ) (args : List T) (preceding : List (OpOf N T A)) (os : OpsOf N T A) (s : OpWithPathOf N T A) → In s (ops_stands p b r args preceding os) → Again s (ops_stands p c r args preceding os)
      ops_again p b c r args preceding no_ops s k = absurd k
      ops_again p b c r args preceding (next o os) s k =
          let a = step p r args preceding os in
          let xs = stands (a ∷ c) o in
          let ys = ops_stands p c r args (preceding ++ o ∷ []) os in
          elim (in_parts s (stands (a ∷ b) o) (ops_stands p b r args (preceding ++ o ∷ []) os) k) [
            | inl l ↦ elim (again (a ∷ b) (a ∷ c) o s l) [
              | inl e ↦ (stand o (a ∷ c), in_left (stand o (a ∷ c)) xs ys (itself (a ∷ c) o), ap (λ (z : OpWithPathOf N T A). z.here) (sym e), ap (λ (z : OpWithPathOf N T A). around_id z.path) (sym e))
              | inr w ↦ more s xs (xs ++ ys) (λ z m. in_left z xs ys m) w
            ]
            | inr l ↦ more s ys (xs ++ ys) (λ z m. in_right z xs ys m) (ops_again p b c r args (preceding ++ o ∷ []) os s l)
          ]

    left_or_within : (t : OpOf N T A) (s : OpWithPathOf N T A) → In s (stands [] t) → In (left_stand x s) (stands [] (without x t)) ⊎ Within x t s
    left_or_within t s h = elim (bool_cases (is_gone x s)) [ inr k ↦ inl (left_member x t s h k) | inl k ↦ inr (gone_within x t s.path s.here h k) ]

    top_found : (t : OpOf N T A) → HasDistinctIds t → (s : OpWithPathOf N T A) → (w : Within x t s) → find x t ≡ Some w.here
    top_found t d s w = ap (λ y. find y t) (sym w.id) ∙ stand_found t d (stand w.here (w.step_in ∷ w.path)) w.there

    -- moving the operation with everything inside it
    pub goes_on : (t u : OpOf N T A) → HasDistinctIds t → without x t ≡ without x u → find x t ≡ find x u → Goes (Like own x) x t u
    goes_on t u d is same s h apart = elim (left_or_within t s h) [
      | inl k ↦
          let b = member_left x u (left_stand x s) (subst (λ z. In (left_stand x s) (stands [] z)) is k) in
          let eq : left_stand x s ≡ left_stand x b.0 = b.3 in (
            b.0,
            b.1,
            sym (left_id x b.0) ∙ ap (λ (z : OpWithPathOf N T A). op_with_path_id z) (sym eq) ∙ left_id x s,
            record {
              node = sym (left_node x s.here) ∙ ap (λ (z : OpWithPathOf N T A). node_of z.here) eq ∙ left_node x b.0.here;
              around = sym (left_around s.path) ∙ ap (λ (z : OpWithPathOf N T A). around_id z.path) eq ∙ left_around b.0.path;
              effects_of = λ f g. sym (left_effects own x s.here f) ∙ ap (λ (z : OpWithPathOf N T A). effects own z.here) eq ∙ left_effects own x b.0.here g;
              lasts = λ f g. sym (left_lasts_op s.here f) ∙ ap (λ (z : OpWithPathOf N T A). last_ids (regions z.here)) eq ∙ left_lasts_op b.0.here g;
            },
          )
      | inr i ↦
          let top = found_stands x u i.here (sym same ∙ top_found t d s i) in
          let there : In (stand i.here top.0.path) (stands [] u) = subst (λ q. In (stand q top.0.path) (stands [] u)) top.3 top.1 in
          elim (again (i.step_in ∷ i.path) top.0.path i.here s i.inner) [
            | inl k ↦ absurd (apart (ap (λ (z : OpWithPathOf N T A). op_with_path_id z) k ∙ i.id))
            | inr r ↦ (
              r.0,
              within i.here top.0.path r.0 r.1 [] u there,
              ap (λ o. (head o).id) r.2,
              record { node = ap (λ o. node_of o) (sym r.2); around = sym r.3; effects_of = λ f g. ap (effects own) (sym r.2); lasts = λ f g. ap (λ o. last_ids (regions o)) (sym r.2) },
            )
          ]
    ]

  -- ---- heads that change
  module _ (own : N → Own) (x : ℕ) (f : HeadOf N T A → HeadOf N T A) (ids : (h : HeadOf N T A) → (at x f h).id ≡ h.id) (names : (h : HeadOf N T A) → (at x f h).name ≡ h.name) where
    abbrev g : HeadOf N T A → HeadOf N T A
    g = at x f

    edit_arguments : (rs : RegionsOf N T A) → regions_arguments (regions_each_head g rs) ≡ regions_arguments rs
    edit_arguments no_regions = refl
    edit_arguments (region empty rs) = ap (λ l. None ∷ l) (edit_arguments rs)
    edit_arguments (region (block args os) rs) = ap (λ l. Some args ∷ l) (edit_arguments rs)

    edit_node : (o : OpOf N T A) → ((head o).id ≡ x → ⊥) → node_of o ≡ node_of (each_head g o)
    edit_node (op h rs) apart = λ i. record { head = other i; arguments = sym (edit_arguments rs) i }
      where
        other : h ≡ g h
        other = elim (bool_cases (eqb h.id x)) [ inl e ↦ absurd (apart (eqb-true h.id x e)) | inr e ↦ sym (ap (λ b. cond b (f h) h) e) ]

    pub edit_id : (o : OpOf N T A) → (head (each_head g o)).id ≡ (head o).id
    edit_id (op h rs) = ids h

    pub edit_name : (o : OpOf N T A) → (head (each_head g o)).name ≡ (head o).name
    edit_name (op h rs) = names h

    edit_last : (os : OpsOf N T A) → last_id (ops_each_head g os) ≡ last_id os
    edit_last no_ops = refl
    edit_last (next o os) = λ i. first_of (edit_last os i) (Some (edit_id o i))

    edit_lasts : (rs : RegionsOf N T A) → last_ids (regions_each_head g rs) ≡ last_ids rs
    edit_lasts no_regions = refl
    edit_lasts (region empty rs) = ap (λ l. None ∷ l) (edit_lasts rs)
    edit_lasts (region (block args os) rs) = λ i. edit_last os i ∷ edit_lasts rs i

    edit_lasts_op : (o : OpOf N T A) → last_ids (regions (each_head g o)) ≡ last_ids (regions o)
    edit_lasts_op (op h rs) = edit_lasts rs

    edit_around : (q : List (StepOf N T A)) → around_id q ≡ around_id (map (edit_step g) q)
    edit_around [] = refl
    edit_around (a ∷ q) = ap Some (sym (edit_id a.parent))

    edit_in : (ss : List (OpWithPathOf N T A)) (s : OpWithPathOf N T A) → In s ss → In (edit_stand g s) (map (edit_stand g) ss)
    edit_in [] s h = h
    edit_in (z ∷ ss) s (inl e) = inl (ap (edit_stand g) e)
    edit_in (z ∷ ss) s (inr k) = inr (edit_in ss s k)

    pub edited_there : (t u : OpOf N T A) → u ≡ each_head g t → (s : OpWithPathOf N T A) → In s (stands [] t) → In (edit_stand g s) (stands [] u)
    edited_there t u is s h = subst (λ z. In (edit_stand g s) (stands [] z)) (sym is) (subst (λ ss. In (edit_stand g s) ss) (sym (each_stands g [] t)) (edit_in (stands [] t) s h))

    pub goes_edited : (t u : OpOf N T A) → u ≡ each_head g t → Goes (Like own x) x t u
    goes_edited t u is s h apart = (
      edit_stand g s,
      edited_there t u is s h,
      edit_id s.here,
      record { node = edit_node s.here apart; around = edit_around s.path; effects_of = λ a b. sym (edit_effects own g names s.here); lasts = λ a b. sym (edit_lasts_op s.here) },
    )

    -- all operations keep their names, parents and effects
    pub record Named (s r : OpWithPathOf N T A) : Type 0 where
      pub name : (head r.here).name ≡ (head s.here).name
      pub around : around_id s.path ≡ around_id r.path
      pub effects_of : effects own s.here ≡ effects own r.here
      pub lasts : last_ids (regions s.here) ≡ last_ids (regions r.here)

    pub all_edited : (t u : OpOf N T A) → u ≡ each_head g t → (s : OpWithPathOf N T A) → In s (stands [] t) → (r : OpWithPathOf N T A) × In r (stands [] u) × (op_with_path_id r ≡ op_with_path_id s) × Named s r
    all_edited t u is s h = (edit_stand g s, edited_there t u is s h, edit_id s.here, record { name = edit_name s.here; around = edit_around s.path; effects_of = sym (edit_effects own g names s.here); lasts = sym (edit_lasts_op s.here) })
