-- An entry that is set or removed, and the undo.
use Rattle.std.proofs.Common.{◌≡◌, refl, ap, sym, ◌∙◌, subst, ℕ, ◌+◌, Bool, true, false, true≢false, cond, not, ◌&&◌, eqb, eq-eqb, eqb-true, List, [], ◌∷◌, ◌++◌, Option, Some, None, option_map, inl, inr}
use Rattle.std.specs.Prelude.{is_some}
use Rattle.ir_tree.specs.types.declared.refusal.Refusal.TheVariants.{NoSuchKey}
use Rattle.ir_tree.specs.declared.place.Part.{Part}
use Rattle.ir_tree.specs.declared.place.Part.TheVariants.{Props, Attrs}
use Rattle.ir_tree.specs.Tree.{HeadOf, OpOf, op, RegionsOf, no_regions, region, RegionOf, empty, block, OpsOf, no_ops, next, head}
use Rattle.ir_tree.specs.Ids.{HasDistinctIds, find}
use Rattle.ir_tree.specs.Limits.{every}
use Rattle.ir_tree.specs.Edits.{each_head, regions_each_head, region_each_head, ops_each_head, at, same_key, put_entry, drop_entry, change_entry, entry_at, part_of, change_part, with_entry}
use Rattle.ir_tree.specs.Meaning.{rises, rises_after, dictionaries_rise}
use Rattle.ir_tree.specs.WellFormed.{ModuleOf}
use Rattle.ir_tree.proofs.Heads.{head_find, alike_entry}
use Rattle.ir_tree_laws.specs.Reasons.{entry_reason, set_entry_reason}
use Rattle.ir_tree_laws.specs.Members.{In}
use Rattle.ir_tree_laws.specs.Changes.{SetsEntry}
use Rattle.ir_tree_laws.specs.Keys.{Ordered}
use Rattle.ir_tree_laws.specs.Stands.{StepOf, OpWithPathOf, op_with_path_id, stands, regions_stands, region_stands, ops_stands}
use Rattle.ir_tree_laws.proofs.Listed.{in_left, in_right, all_each, both, bool_cases}
use Rattle.ir_tree_laws.proofs.Readings.{step, stands_every}
use Rattle.ir_tree_laws.proofs.Members.{stand_found, found_stands}
use Rattle.ir_tree_laws.proofs.Reasoned.{no_entry_reason, no_unless}
use Rattle.ir_tree.proofs.Facts.{head_each}

own_key : {N : Type 0} (before : N → N → Bool) → Ordered before → (k : N) → same_key before k k ≡ true
own_key before o k = λ i. not (o.irr k i) && not (o.irr k i)

module _ {N A : Type 0} (before : N → N → Bool) (o : Ordered before) where
  none_after : (k l : N) (es : List (N × A)) → before k l ≡ true → rises_after before l es ≡ true → entry_at before k es ≡ None
  none_after k l [] h r = refl
  none_after k l (e ∷ es) h r =
      let b = both (before l e.0) (rises_after before e.0 es) r in
      let c = o.trans k l e.0 h b.0 in
      ap (λ b. cond (not b && not (before e.0 k)) (Some e.1) (entry_at before k es)) c ∙ none_after k e.0 es c b.1

  none_own : (k : N) (es : List (N × A)) → rises_after before k es ≡ true → entry_at before k es ≡ None
  none_own k [] r = refl
  none_own k (e ∷ es) r =
      let b = both (before k e.0) (rises_after before e.0 es) r in
      ap (λ b. cond (not b && not (before e.0 k)) (Some e.1) (entry_at before k es)) b.0 ∙ none_after k e.0 es b.0 b.1

  after_rises : (k : N) (es : List (N × A)) → rises_after before k es ≡ true → rises before es ≡ true
  after_rises k [] h = refl
  after_rises k (e ∷ es) h = (both (before k e.0) (rises_after before e.0 es) h).1

  -- an entry that is set is present
  put_has : (k : N) (b : A) (es : List (N × A)) → entry_at before k (put_entry before k b es) ≡ Some b
  put_has k b [] = ap (λ c. cond c (Some b) None) (own_key before o k)
  put_has k b (e ∷ es) = go (before k e.0) refl (before e.0 k) refl (put_has k b es)
    where
      go : (p : Bool) → before k e.0 ≡ p → (q : Bool) → before e.0 k ≡ q → entry_at before k (put_entry before k b es) ≡ Some b → entry_at before k (cond p ((k, b) ∷ e ∷ es) (cond q (e ∷ put_entry before k b es) ((k, b) ∷ es))) ≡ Some b
      go true p q i later = ap (λ c. cond c (Some b) (entry_at before k (e ∷ es))) (own_key before o k)
      go false p true i later = (λ j. cond (not (p j) && not (i j)) (Some e.1) (entry_at before k (put_entry before k b es))) ∙ later
      go false p false i later = ap (λ c. cond c (Some b) (entry_at before k es)) (own_key before o k)

  -- an entry that is removed is absent
  drop_lacks : (k : N) (es : List (N × A)) → rises before es ≡ true → entry_at before k (drop_entry before k es) ≡ None
  drop_lacks k [] r = refl
  drop_lacks k (e ∷ es) r = go (before k e.0) refl (before e.0 k) refl (drop_lacks k es (after_rises e.0 es r))
    where
      go : (p : Bool) → before k e.0 ≡ p → (q : Bool) → before e.0 k ≡ q → entry_at before k (drop_entry before k es) ≡ None → entry_at before k (cond (not p && not q) es (e ∷ drop_entry before k es)) ≡ None
      go true p q i later = ap (λ c. cond (not c && not (before e.0 k)) (Some e.1) (entry_at before k (drop_entry before k es))) p ∙ later
      go false p true i later = (λ j. cond (not (p j) && not (i j)) (Some e.1) (entry_at before k (drop_entry before k es))) ∙ later
      go false p false i later = none_own k es (ap (λ z. rises_after before z es) (o.exact k e.0 p i) ∙ r)

  drop_put : (k : N) (b : A) (es : List (N × A)) → entry_at before k es ≡ None → drop_entry before k (put_entry before k b es) ≡ es
  drop_put k b [] h = ap (λ c. cond c [] ((k, b) ∷ [])) (own_key before o k)
  drop_put k b (e ∷ es) h = go (before k e.0) refl (before e.0 k) refl (drop_put k b es)
    where
      go : (p : Bool) → before k e.0 ≡ p → (q : Bool) → before e.0 k ≡ q → (entry_at before k es ≡ None → drop_entry before k (put_entry before k b es) ≡ es) → drop_entry before k (cond p ((k, b) ∷ e ∷ es) (cond q (e ∷ put_entry before k b es) ((k, b) ∷ es))) ≡ e ∷ es
      go true p q i later = ap (λ c. cond c (e ∷ es) ((k, b) ∷ drop_entry before k (e ∷ es))) (own_key before o k)
      go false p true i later =
          (λ j. cond (not (p j) && not (i j)) (put_entry before k b es) (e ∷ drop_entry before k (put_entry before k b es)))
          ∙ ap (λ l. e ∷ l) (later (sym (λ j. cond (not (p j) && not (i j)) (Some e.1) (entry_at before k es)) ∙ h))
      go false p false i later = (let bad : Some e.1 ≡ None = sym (λ j. cond (not (p j) && not (i j)) (Some e.1) (entry_at before k es)) ∙ h in absurd cc)

  put_first : (k : N) (c : A) (es : List (N × A)) → rises_after before k es ≡ true → put_entry before k c es ≡ (k, c) ∷ es
  put_first k c [] r = refl
  put_first k c (d ∷ ds) r = ap (λ b. cond b ((k, c) ∷ d ∷ ds) (cond (before d.0 k) (d ∷ put_entry before k c ds) ((k, c) ∷ ds))) (both (before k d.0) (rises_after before d.0 ds) r).0

  put_drop : (k : N) (c : A) (es : List (N × A)) → rises before es ≡ true → entry_at before k es ≡ Some c → put_entry before k c (drop_entry before k es) ≡ es
  put_drop k c [] r h = absurd cc
  put_drop k c (e ∷ es) r h = go (before k e.0) refl (before e.0 k) refl (put_drop k c es (after_rises e.0 es r))
    where
      go : (p : Bool) → before k e.0 ≡ p → (q : Bool) → before e.0 k ≡ q → (entry_at before k es ≡ Some c → put_entry before k c (drop_entry before k es) ≡ es) → put_entry before k c (cond (not p && not q) es (e ∷ drop_entry before k es)) ≡ e ∷ es
      go true p q i later = (let bad : None ≡ Some c = sym (ap (λ b. cond (not b && not (before e.0 k)) (Some e.1) (entry_at before k es)) p ∙ none_after k e.0 es p r) ∙ h in absurd cc)
      go false p true i later =
          (λ j. cond (p j) ((k, c) ∷ e ∷ drop_entry before k es) (cond (i j) (e ∷ put_entry before k c (drop_entry before k es)) ((k, c) ∷ drop_entry before k es)))
          ∙ ap (λ l. e ∷ l) (later (sym (λ j. cond (not (p j) && not (i j)) (Some e.1) (entry_at before k es)) ∙ h))
      go false p false i later =
          let same : Some e.1 ≡ Some c = sym (λ j. cond (not (p j) && not (i j)) (Some e.1) (entry_at before k es)) ∙ h in
          let one : c ≡ e.1 = cc in
          let key = o.exact k e.0 p i in
          put_first k c es (ap (λ z. rises_after before z es) key ∙ r) ∙ λ j. (key j, one j) ∷ es

  put_put : (k : N) (b c : A) (es : List (N × A)) → rises before es ≡ true → entry_at before k es ≡ Some c → put_entry before k c (put_entry before k b es) ≡ es
  put_put k b c [] r h = absurd cc
  put_put k b c (e ∷ es) r h = go (before k e.0) refl (before e.0 k) refl (put_put k b c es (after_rises e.0 es r))
    where
      go : (p : Bool) → before k e.0 ≡ p → (q : Bool) → before e.0 k ≡ q → (entry_at before k es ≡ Some c → put_entry before k c (put_entry before k b es) ≡ es)
          → put_entry before k c (cond p ((k, b) ∷ e ∷ es) (cond q (e ∷ put_entry before k b es) ((k, b) ∷ es))) ≡ e ∷ es
      go true p q i later = (let bad : None ≡ Some c = sym (ap (λ b. cond (not b && not (before e.0 k)) (Some e.1) (entry_at before k es)) p ∙ none_after k e.0 es p r) ∙ h in absurd cc)
      go false p true i later =
          (λ j. cond (p j) ((k, c) ∷ e ∷ put_entry before k b es) (cond (i j) (e ∷ put_entry before k c (put_entry before k b es)) ((k, c) ∷ put_entry before k b es)))
          ∙ ap (λ l. e ∷ l) (later (sym (λ j. cond (not (p j) && not (i j)) (Some e.1) (entry_at before k es)) ∙ h))
      go false p false i later =
          let same : Some e.1 ≡ Some c = sym (λ j. cond (not (p j) && not (i j)) (Some e.1) (entry_at before k es)) ∙ h in
          let one : c ≡ e.1 = cc in
          (λ j. cond (o.irr k j) ((k, c) ∷ (k, b) ∷ es) (cond (o.irr k j) ((k, b) ∷ put_entry before k c es) ((k, c) ∷ es))) ∙ λ j. (o.exact k e.0 p i j, one j) ∷ es

  pub change_is : (k : N) (a : Option A) (es : List (N × A)) → rises before es ≡ true → entry_at before k (change_entry before k a es) ≡ a
  change_is k None es r = drop_lacks k es r
  change_is k (Some b) es r = put_has k b es

  pub change_back : (k : N) (a : Option A) (es : List (N × A)) → rises before es ≡ true → entry_reason before k a es ≡ None → change_entry before k (entry_at before k es) (change_entry before k a es) ≡ es
  change_back k a es r h = go (entry_at before k es) refl a h
    where
      go : (c : Option A) → entry_at before k es ≡ c → (a : Option A) → entry_reason before k a es ≡ None → change_entry before k c (change_entry before k a es) ≡ es
      go None e None h = (let bad = (no_unless (is_some (entry_at before k es)) NoSuchKey None h).0 in absurd (true≢false (sym bad ∙ ap is_some e)))
      go None e (Some b) h = drop_put k b es e
      go (Some c) e None h = put_drop k c es r e
      go (Some c) e (Some b) h = put_put k b c es r e

module _ {N T A : Type 0} (f : HeadOf N T A → HeadOf N T A) where
  mutual
    -- an edit that leaves each head unchanged
    pub each_same : (path : List (StepOf N T A)) (t : OpOf N T A) → ((s : OpWithPathOf N T A) → In s (stands path t) → f (head s.here) ≡ head s.here) → each_head f t ≡ t
    each_same path (op h rs) c = λ i. op (c (record { here = op h rs; path = path }) (inl refl) i) (regions_each_same (op h rs) path 0 rs (λ s k. c s (inr k)) i)

    regions_each_same : (p : OpOf N T A) (path : List (StepOf N T A)) (r : ℕ) (rs : RegionsOf N T A) → ((s : OpWithPathOf N T A) → In s (regions_stands p path r rs) → f (head s.here) ≡ head s.here) → regions_each_head f rs ≡ rs
    regions_each_same p path r no_regions c = refl
    regions_each_same p path r (region g rs) c = λ i.
        region (region_each_same p path r g (λ s k. c s (in_left s (region_stands p path r g) (regions_stands p path (r + 1) rs) k)) i) (regions_each_same p path (r + 1) rs (λ s k. c s (in_right s (region_stands p path r g) (regions_stands p path (r + 1) rs) k)) i)

    region_each_same : (p : OpOf N T A) (path : List (StepOf N T A)) (r : ℕ) (g : RegionOf N T A) → ((s : OpWithPathOf N T A) → In s (region_stands p path r g) → f (head s.here) ≡ head s.here) → region_each_head f g ≡ g
    region_each_same p path r empty c = refl
    region_each_same p path r (block args os) c = ap (block args) (ops_each_same p path r args [] os c)

    ops_each_same : (p : OpOf N T A) (path : List (StepOf N T A)) (r : ℕ) (args : List T) (preceding : List (OpOf N T A)) (os : OpsOf N T A) → ((s : OpWithPathOf N T A) → In s (ops_stands p path r args preceding os) → f (head s.here) ≡ head s.here) → ops_each_head f os ≡ os
    ops_each_same p path r args preceding no_ops c = refl
    ops_each_same p path r args preceding (next o os) c = λ i.
        next (each_same (step p r args preceding os ∷ path) o (λ s k. c s (in_left s (stands (step p r args preceding os ∷ path) o) (ops_stands p path r args (preceding ++ o ∷ []) os) k)) i)
        (ops_each_same p path r args (preceding ++ o ∷ []) os (λ s k. c s (in_right s (stands (step p r args preceding os ∷ path) o) (ops_stands p path r args (preceding ++ o ∷ []) os) k)) i)

module _ {N T A : Type 0} (f g : HeadOf N T A → HeadOf N T A) where
  mutual
    pub each_twice : (t : OpOf N T A) → each_head g (each_head f t) ≡ each_head (λ h. g (f h)) t
    each_twice (op h rs) = ap (op (g (f h))) (regions_twice rs)

    regions_twice : (rs : RegionsOf N T A) → regions_each_head g (regions_each_head f rs) ≡ regions_each_head (λ h. g (f h)) rs
    regions_twice no_regions = refl
    regions_twice (region r rs) = λ i. region (region_twice r i) (regions_twice rs i)

    region_twice : (r : RegionOf N T A) → region_each_head g (region_each_head f r) ≡ region_each_head (λ h. g (f h)) r
    region_twice empty = refl
    region_twice (block args os) = ap (block args) (ops_twice os)

    ops_twice : (os : OpsOf N T A) → ops_each_head g (ops_each_head f os) ≡ ops_each_head (λ h. g (f h)) os
    ops_twice no_ops = refl
    ops_twice (next o os) = λ i. next (each_twice o i) (ops_twice os i)

module _ {N T A : Type 0} (before : N → N → Bool) (o : Ordered before) (x : ℕ) (part : Part) (k : N) (a : Option A) where
  part_rises : (part : Part) (h : HeadOf N T A) → rises before h.properties ≡ true → rises before h.attributes ≡ true → rises before (part_of part h) ≡ true
  part_rises Props h p q = p
  part_rises Attrs h p q = q

  part_changed : (part : Part) (f : List (N × A) → List (N × A)) (h : HeadOf N T A) → part_of part (change_part part f h) ≡ f (part_of part h)
  part_changed Props f h = refl
  part_changed Attrs f h = refl

  part_back : (part : Part) (f g : List (N × A) → List (N × A)) (h : HeadOf N T A) → g (f (part_of part h)) ≡ part_of part h → change_part part g (change_part part f h) ≡ h
  part_back Props f g h e = λ i. record h { properties = e i }
  part_back Attrs f g h e = λ i. record h { attributes = e i }

  part_id : (part : Part) (f : List (N × A) → List (N × A)) (h : HeadOf N T A) → (change_part part f h).id ≡ h.id
  part_id Props f h = refl
  part_id Attrs f h = refl

  pub entry_changes : (m : ModuleOf N T A) → HasDistinctIds m.tree → every (dictionaries_rise before) m.tree ≡ true → set_entry_reason before x part k a m.tree ≡ None
      → (old : Option A) × SetsEntry before x part k old a m (record m { tree = with_entry before x part k a m.tree })
  entry_changes m d sorted e =
      let n = no_entry_reason before x part k a m.tree e in
      let old = entry_at before k (part_of part (head n.here)) in
      let f = change_part part (change_entry before k a) in
      let g = change_part part (change_entry before k old) in
      let id = found_id n.here n.found in
      let r = rises_there n.here n.found in (
        old,
        record {
          was = ap (option_map (λ q. entry_at before k (part_of part (head q)))) n.found;
          is = ap (option_map (λ q. entry_at before k (part_of part (head q)))) (head_find (at x f) (alike_entry before x part k a) x m.tree ∙ ap (option_map (each_head (at x f))) n.found)
              ∙ ap Some (ap (λ (h : HeadOf N T A). entry_at before k (part_of part h)) (head_each (at x f) n.here ∙ ap (λ b. cond b (f (head n.here)) (head n.here)) id)
              ∙ ap (entry_at before k) (part_changed part (change_entry before k a) (head n.here)) ∙ change_is before o k a (part_of part (head n.here)) r);
          after = refl;
          before = sym (each_twice (at x f) (at x g) m.tree ∙ each_same (λ h. at x g (at x f h)) [] m.tree (λ s h. elim (bool_cases (eqb (op_with_path_id s) x)) [
            | inr q ↦ ap (at x g) (ap (λ b. cond b (f (head s.here)) (head s.here)) q) ∙ ap (λ b. cond b (g (head s.here)) (head s.here)) q
            | inl q ↦ (let same : Some s.here ≡ Some n.here = sym (stand_found m.tree d s h) ∙ ap (λ z. find z m.tree) (eqb-true (op_with_path_id s) x q) ∙ n.found in
                let one : n.here ≡ s.here = cc in
                subst (λ (z : OpOf N T A). at x g (at x f (head z)) ≡ head z) one
                (ap (at x g) (ap (λ b. cond b (f (head n.here)) (head n.here)) id) ∙ ap (λ b. cond b (g (f (head n.here))) (f (head n.here))) (ap (λ z. eqb z x) (part_id part (change_entry before k a) (head n.here)) ∙ id)
                ∙ part_back part (change_entry before k a) (change_entry before k old) (head n.here) (change_back before o k a (part_of part (head n.here)) r n.may)))
          ]));
          next = refl;
        },
      )
    where
      found_id : (q : OpOf N T A) → find x m.tree ≡ Some q → eqb (head q).id x ≡ true
      found_id q h = let w = found_stands x m.tree q h in eq-eqb (head q).id x (ap (λ (z : OpOf N T A). (head z).id) (sym w.3) ∙ w.2)

      rises_there : (q : OpOf N T A) → find x m.tree ≡ Some q → rises before (part_of part (head q)) ≡ true
      rises_there q h =
          let w = found_stands x m.tree q h in
          let all = all_each (λ (u : OpWithPathOf N T A). dictionaries_rise before u.here) (stands [] m.tree) (stands_every (dictionaries_rise before) [] m.tree ∙ sorted) w.0 w.1 in
          let b = both (rises before (head q).properties) (rises before (head q).attributes) (ap (λ (z : OpOf N T A). dictionaries_rise before z) (sym w.3) ∙ all) in
          part_rises part (head q) b.0 b.1
