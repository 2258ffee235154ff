-- Accepted edits of heads keep a module well-formed.
use Rattle.std.proofs.Common.{◌≡◌, refl, ap, sym, ◌∙◌, subst, ℕ, zero, suc, ◌+◌, ◌<◌, ◌≤◌, Bool, true, false, true≢false, cond, not, ◌&&◌, eqb, eqb-true, List, [], ◌∷◌, length, map, Option, Some, None, inl, inr, arith}
use Rattle.std.specs.Prelude.{All, nat_lt, nat_le, is_some, slice_set}
use Rattle.std.specs.List.{list_all, IsDistinct}
use Rattle.std.proofs.lemmas.Bool.{ltb-true, leb-true, le-leb}
use Rattle.std.proofs.lemmas.List.{length-map, length-set}
use Rattle.ir_tree.specs.types.declared.refusal.Refusal.TheVariants.{Full}
use Rattle.ir_tree.specs.declared.value.Value.{Value}
use Rattle.ir_tree.specs.declared.place.Part.{Part}
use Rattle.ir_tree.specs.declared.place.Part.TheVariants.{Props, Attrs}
use Rattle.ir_tree.specs.Tree.{HeadOf, OpOf, op, RegionsOf, no_regions, region, empty, block, head, region_count}
use Rattle.ir_tree.specs.Ids.{ids, find}
use Rattle.ir_tree.specs.Limits.{every, op_fits, head_fits, items_fit, all_arguments_pass, most_items, most_regions}
use Rattle.ir_tree.specs.Sites.{visible}
use Rattle.ir_tree.specs.Uses.{same_value, operand_uses, uses_of}
use Rattle.ir_tree.specs.Edits.{each_head, regions_each_head, at, put_operand, with_operand, put_value, put_values, with_value_replaced, same_key, put_entry, drop_entry, change_entry, entry_at, part_of, change_part, with_entry}
use Rattle.ir_tree.specs.Meaning.{rises, rises_after, dictionaries_rise}
use Rattle.ir_tree.specs.WellFormed.{ModuleOf, IsValidTree, IsWellFormed}
use Rattle.ir_tree_laws.specs.Reasons.{set_operand_reason, set_entry_reason, entry_reason, has_headroom}
use Rattle.ir_tree_laws.specs.Stands.{OpWithPathOf, op_with_path_id, stands, dominated_by, edit_stand, edit_step, gather}
use Rattle.ir_tree_laws.specs.Members.{In}
use Rattle.ir_tree_laws.proofs.Listed.{in_mapped, in_left, in_right, all_each, each_all, both, both_hold, bool_cases, either}
use Rattle.ir_tree_laws.proofs.Readings.{stands_ids, stands_every, stands_uses}
use Rattle.ir_tree_laws.proofs.Members.{stand_found}
use Rattle.ir_tree_laws.proofs.DominatedBy.{visible_there, all_same}
use Rattle.ir_tree_laws.proofs.Heads.{each_stands, Alike, each_dominated_by}
use Rattle.ir_tree_laws.proofs.Wellformed.{from_wellformed, to_wellformed}
use Rattle.ir_tree_laws.proofs.Reasoned.{no_operand_reason, no_entry_reason, no_unless}
use Rattle.ir_tree.proofs.Heads.{part_operands}

set_passes : {X : Type 0} (p : X → Bool) (xs : List X) (k : ℕ) (x : X) → list_all p xs ≡ true → p x ≡ true → list_all p (slice_set xs k x) ≡ true
set_passes p [] zero x h g = refl
set_passes p [] (suc k) x h g = refl
set_passes p (y ∷ ys) zero x h g = both_hold (p x) (list_all p ys) g (both (p y) (list_all p ys) h).1
set_passes p (y ∷ ys) (suc k) x h g = let b = both (p y) (list_all p ys) h in both_hold (p y) (list_all p (slice_set ys k x)) b.0 (set_passes p ys k x b.1 g)

map_ids : {X Y : Type 0} (f : Y → ℕ) (g : X → ℕ) (e : X → Y) → ((x : X) → f (e x) ≡ g x) → (xs : List X) → map f (map e xs) ≡ map g xs
map_ids f g e h [] = refl
map_ids f g e h (x ∷ xs) = λ i. h x i ∷ map_ids f g e h xs i

pub used_here : (old : Value) (x k : ℕ) (ws : List Value) (v : Value) → In v ws → same_value old v ≡ true → (n : ℕ) × In (x, n) (operand_uses old x k ws)
used_here old x k [] v h e = absurd h
used_here old x k (w ∷ ws) v (inl i) e = (k, subst (λ b. In (x, k) (cond b ((x, k) ∷ operand_uses old x (k + 1) ws) (operand_uses old x (k + 1) ws))) (sym (ap (same_value old) (sym i) ∙ e)) (inl refl))
used_here old x k (w ∷ ws) v (inr h) e =
    let r = used_here old x (k + 1) ws v h e in
    (r.0, elim (same_value old w) as (λ b. In (x, r.0) (cond b ((x, k) ∷ operand_uses old x (k + 1) ws) (operand_uses old x (k + 1) ws))) [ true ↦ inr r.1 | false ↦ r.1 ])

pub in_gather : {X Y : Type 0} (f : X → List Y) (y : Y) (x : X) (xs : List X) → In x xs → In y (f x) → In y (gather f xs)
in_gather f y x [] h k = absurd h
in_gather f y x (z ∷ xs) (inl e) k = in_left y (f z) (gather f xs) (subst (λ q. In y (f q)) e k)
in_gather f y x (z ∷ xs) (inr h) k = in_right y (f z) (gather f xs) (in_gather f y x xs h k)

module _ {N T A : Type 0} (f : HeadOf N T A → HeadOf N T A) (alike : (h : HeadOf N T A) → Alike (f h) h) where
  head_each : (o : OpOf N T A) → head (each_head f o) ≡ f (head o)
  head_each (op h rs) = refl

  pub edit_ids : (t : OpOf N T A) → ids (each_head f t) ≡ ids t
  edit_ids t =
      sym (stands_ids [] (each_head f t))
      ∙ ap (map (λ (s : OpWithPathOf N T A). op_with_path_id s)) (each_stands f [] t)
      ∙ map_ids (λ (s : OpWithPathOf N T A). op_with_path_id s) (λ (s : OpWithPathOf N T A). op_with_path_id s) (edit_stand f) (λ (s : OpWithPathOf N T A). ap (λ (h : HeadOf N T A). h.id) (head_each s.here) ∙ (alike (head s.here)).id) (stands [] t)
      ∙ stands_ids [] t

  count_kept : (rs : RegionsOf N T A) → region_count (regions_each_head f rs) ≡ region_count rs
  count_kept no_regions = refl
  count_kept (region r rs) = ap (λ n. n + 1) (count_kept rs)

  arguments_kept : (rs : RegionsOf N T A) → all_arguments_pass items_fit (regions_each_head f rs) ≡ all_arguments_pass items_fit rs
  arguments_kept no_regions = refl
  arguments_kept (region empty rs) = arguments_kept rs
  arguments_kept (region (block args os) rs) = ap (λ b. items_fit args && b) (arguments_kept rs)

  edit_fits : (o : OpOf N T A) → head_fits (f (head o)) ≡ true → op_fits o ≡ true → op_fits (each_head f o) ≡ true
  edit_fits (op h rs) e k =
      let b = both (head_fits h) (nat_le (region_count rs) most_regions && all_arguments_pass items_fit rs) k in
      both_hold (head_fits (f h)) _ e ((λ i. nat_le (count_kept rs i) most_regions && arguments_kept rs i) ∙ b.1)

  member_edited : (t : OpOf N T A) (u : OpWithPathOf N T A) → In u (stands [] (each_head f t)) → (s : OpWithPathOf N T A) × In s (stands [] t) × (u ≡ edit_stand f s)
  member_edited t u h = in_mapped (edit_stand f) u (stands [] t) (subst (λ (l : List (OpWithPathOf N T A)). In u l) (each_stands f [] t) h)

  pub edit_wellformed : (isolated : N → Bool) (t : OpOf N T A) → IsValidTree isolated t → ((s : OpWithPathOf N T A) → In s (stands [] t) → list_all (dominated_by isolated s.path) (f (head s.here)).operands ≡ true)
      → ((s : OpWithPathOf N T A) → In s (stands [] t) → head_fits (f (head s.here)) ≡ true) → IsValidTree isolated (each_head f t)
  edit_wellformed isolated t wellformed own fits =
      let g = from_wellformed isolated t wellformed in
      to_wellformed isolated (each_head f t) (record {
        dominated_by_own = λ u h. let m = member_edited t u h in
            ap (λ (z : OpWithPathOf N T A). list_all (dominated_by isolated z.path) (head z.here).operands) m.2
            ∙ ap (λ (h : HeadOf N T A). list_all (dominated_by isolated (map (edit_step f) m.0.path)) h.operands) (head_each m.0.here)
            ∙ all_same _ _ (f (head m.0.here)).operands (λ v k. each_dominated_by f alike isolated m.0.path v)
            ∙ own m.0 m.1;
        shallow = λ u h. let m = member_edited t u h in
            let a = g.shallow m.0 m.1 in
            let b = ap (λ (z : OpWithPathOf N T A). length z.path) m.2 in
            let c = length-map m.0.path (edit_step f) in
            omega (arith, a, b, c);
        count = (let a = g.count in let b = ap length (edit_ids t) in omega (arith, a, b));
        fits = λ u h. let m = member_edited t u h in ap (λ (z : OpWithPathOf N T A). op_fits z.here) m.2 ∙ edit_fits m.0.here (fits m.0 m.1) (g.fits m.0 m.1);
      })

  pub edit_well_formed : (isolated : N → Bool) (m : ModuleOf N T A) → IsWellFormed isolated m → ((s : OpWithPathOf N T A) → In s (stands [] m.tree) → list_all (dominated_by isolated s.path) (f (head s.here)).operands ≡ true)
      → ((s : OpWithPathOf N T A) → In s (stands [] m.tree) → head_fits (f (head s.here)) ≡ true) → IsWellFormed isolated (record m { tree = each_head f m.tree })
  edit_well_formed isolated m w own fits = record {
    distinct = subst (IsDistinct eqb) (sym (edit_ids m.tree)) w.distinct;
    below = subst (λ l. All (λ y. y < m.next) l) (sym (edit_ids m.tree)) w.below;
    next = w.next;
    wellformed = edit_wellformed isolated m.tree w.wellformed own fits;
  }

module _ {N T A : Type 0} where
  alike_itself : (h : HeadOf N T A) → Alike h h
  alike_itself h = record { id = refl; name = refl; results = refl }

  pub alike_at : (x : ℕ) (f : HeadOf N T A → HeadOf N T A) → ((h : HeadOf N T A) → Alike (f h) h) → (h : HeadOf N T A) → Alike (at x f h) h
  alike_at x f alike h = elim (eqb h.id x) as (λ b. Alike (cond b (f h) h) h) [ true ↦ alike h | false ↦ alike_itself h ]

  alike_part : (part : Part) (f : List (N × A) → List (N × A)) (h : HeadOf N T A) → Alike (change_part part f h) h
  alike_part Props f h = record { id = refl; name = refl; results = refl }
  alike_part Attrs f h = record { id = refl; name = refl; results = refl }

  own_fits : (o : OpOf N T A) → op_fits o ≡ true → head_fits (head o) ≡ true
  own_fits (op h rs) e = (both (head_fits h) _ e).0

module _ {N T A : Type 0} (isolated : N → Bool) where
  -- an operand
  pub operand_keeps : (x k : ℕ) (v : Value) (m : ModuleOf N T A) → IsWellFormed isolated m → visible isolated m.tree x v ≡ true → IsWellFormed isolated (record m { tree = with_operand x k v m.tree })
  operand_keeps x k v m w seen =
      let g = from_wellformed isolated m.tree w.wellformed in
      edit_well_formed (at x (put_operand k v)) (alike_at x (put_operand k v) (λ h. record { id = refl; name = refl; results = refl })) isolated m w
      (λ s h. elim (bool_cases (eqb (op_with_path_id s) x)) [
        | inl e ↦ ap (λ b. list_all (dominated_by isolated s.path) (cond b (put_operand k v (head s.here)) (head s.here)).operands) e
            ∙ set_passes (dominated_by isolated s.path) (head s.here).operands k v (g.dominated_by_own s h) (sym (visible_there isolated m.tree w.distinct s h v) ∙ ap (λ z. visible isolated m.tree z v) (eqb-true (op_with_path_id s) x e) ∙ seen)
        | inr e ↦ ap (λ b. list_all (dominated_by isolated s.path) (cond b (put_operand k v (head s.here)) (head s.here)).operands) e ∙ g.dominated_by_own s h
      ])
      (λ s h. fits_there (head s.here) (own_fits s.here (g.fits s h)))
    where
      fits_there : (h : HeadOf N T A) → head_fits h ≡ true → head_fits (at x (put_operand k v) h) ≡ true
      fits_there h e =
          elim (eqb h.id x) as (λ b. head_fits (cond b (put_operand k v h) h) ≡ true) [
            | true ↦ ap (λ n. nat_le n most_items && (items_fit h.results && (items_fit h.properties && items_fit h.attributes))) (length-set h.operands k v) ∙ e
            | false ↦ e
          ]

  pub set_operand_keeps : (x k : ℕ) (v : Value) (m : ModuleOf N T A) → IsWellFormed isolated m → set_operand_reason isolated x k v m.tree ≡ None → IsWellFormed isolated (record m { tree = with_operand x k v m.tree })
  set_operand_keeps x k v m w e = operand_keeps x k v m w (no_operand_reason isolated x k v m.tree e).dominated_by

  -- all uses of a value replaced by another, which is visible at each user
  pub replaced_keeps : (old new : Value) (m : ModuleOf N T A) → IsWellFormed isolated m → list_all (λ u. visible isolated m.tree u.0 new) (uses_of old m.tree) ≡ true → IsWellFormed isolated (record m { tree = with_value_replaced old new m.tree })
  replaced_keeps old new m w seen =
      let g = from_wellformed isolated m.tree w.wellformed in
      edit_well_formed (put_values old new) (λ h. record { id = refl; name = refl; results = refl }) isolated m w
      (λ s h. each_all (dominated_by isolated s.path) (map (put_value old new) (head s.here).operands) (λ v i.
      let r = in_mapped (put_value old new) v (head s.here).operands i in
      ap (dominated_by isolated s.path) r.2
      ∙ elim (bool_cases (same_value old r.0)) [
        | inr e ↦ ap (λ b. dominated_by isolated s.path (cond b new r.0)) e ∙ all_each (dominated_by isolated s.path) (head s.here).operands (g.dominated_by_own s h) r.0 r.1
        | inl e ↦ (let n = used_here old (op_with_path_id s) 0 (head s.here).operands r.0 r.1 e in
            let j : In (op_with_path_id s, n.0) (uses_of old m.tree) = subst (λ l. In (op_with_path_id s, n.0) l) (stands_uses old [] m.tree) (in_gather (λ (u : OpWithPathOf N T A). operand_uses old (op_with_path_id u) 0 (head u.here).operands) (op_with_path_id s, n.0) s (stands [] m.tree) h n.1) in
            ap (λ b. dominated_by isolated s.path (cond b new r.0)) e
            ∙ sym (visible_there isolated m.tree w.distinct s h new)
            ∙ all_each (λ u. visible isolated m.tree u.0 new) (uses_of old m.tree) seen (op_with_path_id s, n.0) j)
      ]))
      (λ s h. ap (λ n. nat_le n most_items && (items_fit (head s.here).results && (items_fit (head s.here).properties && items_fit (head s.here).attributes))) (length-map (head s.here).operands (put_value old new)) ∙ own_fits s.here (g.fits s h))

-- dictionaries
module _ {N A : Type 0} (before : N → N → Bool) where
  drop_shorter : (k : N) (es : List (N × A)) → length (drop_entry before k es) ≤ length es
  drop_shorter k [] = omega arith
  drop_shorter k (e ∷ es) = let d = drop_shorter k es in elim (same_key before k e.0) as (λ b. length (cond b es (e ∷ drop_entry before k es)) ≤ length (e ∷ es)) [ true ↦ omega arith | false ↦ omega (arith, d) ]

  put_longer : (k : N) (a : A) (es : List (N × A)) → length (put_entry before k a es) ≤ length es + 1
  put_longer k a [] = omega arith
  put_longer k a (e ∷ es) =
      let d = put_longer k a es in
      elim (before k e.0) as (λ b. length (cond b ((k, a) ∷ e ∷ es) (cond (before e.0 k) (e ∷ put_entry before k a es) ((k, a) ∷ es))) ≤ length (e ∷ es) + 1) [
        | true ↦ omega arith
        | false ↦ elim (before e.0 k) as (λ b. length (cond b (e ∷ put_entry before k a es) ((k, a) ∷ es)) ≤ length (e ∷ es) + 1) [ true ↦ omega (arith, d) | false ↦ omega arith ]
      ]

  module _ (trans : (k l m : N) → before k l ≡ true → before l m ≡ true → before k m ≡ true) where
    none_after : (k l : N) (es : List (N × A)) → before k l ≡ true → rises_after before l es ≡ true → entry_at before k es ≡ None
    none_after k l [] h r = refl
    none_after k l (e ∷ es) h r =
        let b = both (before l e.0) (rises_after before e.0 es) r in
        let c = trans k l e.0 h b.0 in
        ap (λ b. cond (not b && not (before e.0 k)) (Some e.1) (entry_at before k es)) c ∙ none_after k e.0 es c b.1

    after_rises : (k : N) (es : List (N × A)) → rises_after before k es ≡ true → rises before es ≡ true
    after_rises k [] h = refl
    after_rises k (e ∷ es) h = (both (before k e.0) (rises_after before e.0 es) h).1

    put_same : (k : N) (a : A) (es : List (N × A)) → rises before es ≡ true → is_some (entry_at before k es) ≡ true → length (put_entry before k a es) ≡ length es
    put_same k a [] r s = absurd (true≢false (sym s))
    put_same k a (e ∷ es) r s = go (before k e.0) refl (before e.0 k) refl (put_same k a es (after_rises e.0 es r))
      where
        go : (b : Bool) → before k e.0 ≡ b → (c : Bool) → before e.0 k ≡ c → (is_some (entry_at before k es) ≡ true → length (put_entry before k a es) ≡ length es) → length (put_entry before k a (e ∷ es)) ≡ length (e ∷ es)
        go true p c q later =
            absurd (true≢false (sym s ∙ ap is_some (ap (λ b. cond (not b && not (before e.0 k)) (Some e.1) (entry_at before k es)) p ∙ none_after k e.0 es p r)))
        go false p true q later =
            let there : is_some (entry_at before k es) ≡ true = sym (λ i. is_some (cond (not (p i) && not (q i)) (Some e.1) (entry_at before k es))) ∙ s in
            (λ i. length (cond (p i) ((k, a) ∷ e ∷ es) (cond (q i) (e ∷ put_entry before k a es) ((k, a) ∷ es)))) ∙ ap suc (later there)
        go false p false q later = λ i. length (cond (p i) ((k, a) ∷ e ∷ es) (cond (q i) (e ∷ put_entry before k a es) ((k, a) ∷ es)))

    pub changed_fits : (k : N) (a : Option A) (es : List (N × A)) → rises before es ≡ true → items_fit es ≡ true → entry_reason before k a es ≡ None → items_fit (change_entry before k a es) ≡ true
    changed_fits k None es r f e = let d = drop_shorter k es in let l = leb-true (length es) most_items f in le-leb (length (drop_entry before k es)) most_items (omega (arith, d, l))
    changed_fits k (Some a) es r f e = elim (either (nat_lt (length es) most_items) (is_some (entry_at before k es)) (no_unless (has_headroom before k es) Full None e).0) [
      | inl h ↦ (let d = put_longer k a es in let l = ltb-true (length es) most_items h in le-leb (length (put_entry before k a es)) most_items (omega (arith, d, l)))
      | inr h ↦ ap (λ n. nat_le n most_items) (put_same k a es r h) ∙ f
    ]

module _ {N T A : Type 0} (isolated : N → Bool) (before : N → N → Bool) (trans : (k l m : N) → before k l ≡ true → before l m ≡ true → before k m ≡ true) where
  part_fits : (part : Part) (k : N) (a : Option A) (h : HeadOf N T A) → rises before h.properties ≡ true → rises before h.attributes ≡ true → head_fits h ≡ true → entry_reason before k a (part_of part h) ≡ None
      → head_fits (change_part part (change_entry before k a) h) ≡ true
  part_fits Props k a h p q f e =
      let b = both (items_fit h.operands) _ f in
      let c = both (items_fit h.results) _ b.1 in
      let d = both (items_fit h.properties) (items_fit h.attributes) c.1 in
      both_hold _ _ b.0 (both_hold _ _ c.0 (both_hold _ _ (changed_fits before trans k a h.properties p d.0 e) d.1))
  part_fits Attrs k a h p q f e =
      let b = both (items_fit h.operands) _ f in
      let c = both (items_fit h.results) _ b.1 in
      let d = both (items_fit h.properties) (items_fit h.attributes) c.1 in
      both_hold _ _ b.0 (both_hold _ _ c.0 (both_hold _ _ d.0 (changed_fits before trans k a h.attributes q d.1 e)))

  -- an entry of a dictionary; dictionaries are sorted, each key once
  pub entry_keeps : (x : ℕ) (part : Part) (k : N) (a : Option A) (m : ModuleOf N T A) → IsWellFormed isolated m → every (dictionaries_rise before) m.tree ≡ true → set_entry_reason before x part k a m.tree ≡ None
      → IsWellFormed isolated (record m { tree = with_entry before x part k a m.tree })
  entry_keeps x part k a m w sorted e =
      let g = from_wellformed isolated m.tree w.wellformed in
      let n = no_entry_reason before x part k a m.tree e in
      let c = change_part part (change_entry before k a) in
      edit_well_formed (at x (change_part part (change_entry before k a))) (alike_at x (change_part part (change_entry before k a)) (alike_part part (change_entry before k a))) isolated m w
      (λ s h. elim (eqb (op_with_path_id s) x) as (λ b. list_all (dominated_by isolated s.path) (cond b (c (head s.here)) (head s.here)).operands ≡ true)
      [ true ↦ ap (list_all (dominated_by isolated s.path)) (part_operands part (change_entry before k a) (head s.here)) ∙ g.dominated_by_own s h | false ↦ g.dominated_by_own s h ])
      (λ s h. elim (bool_cases (eqb (op_with_path_id s) x)) [
        | inr i ↦ ap (λ b. head_fits (cond b (c (head s.here)) (head s.here))) i ∙ own_fits s.here (g.fits s h)
        | inl i ↦ (let same : Some s.here ≡ Some n.here = sym (stand_found m.tree w.distinct s h) ∙ ap (λ z. find z m.tree) (eqb-true (op_with_path_id s) x i) ∙ n.found in
            let is : s.here ≡ n.here = cc in
            let r = both (rises before (head s.here).properties) (rises before (head s.here).attributes) (all_each (λ (u : OpWithPathOf N T A). dictionaries_rise before u.here) (stands [] m.tree) (stands_every (dictionaries_rise before) [] m.tree ∙ sorted) s h) in
            ap (λ b. head_fits (cond b (c (head s.here)) (head s.here))) i
            ∙ part_fits part k a (head s.here) r.0 r.1 (own_fits s.here (g.fits s h)) (ap (λ (z : OpOf N T A). entry_reason before k a (part_of part (head z))) is ∙ n.may))
      ])
