-- Edits keep a tree sound.
use Rattle.std.proofs.Common.{◌≡◌, refl, ap, sym, ◌∙◌, ℕ, ◌+◌, ◌⊎◌, inl, inr, Bool, true, false, cond, ◌&&◌, eqb, List, [], ◌∷◌, Option, Some, None}
use Rattle.std.specs.List.{list_all}
use Rattle.std.proofs.Common.{Ordering, Less, Equal, Greater}
use Rattle.std.specs.Ordering.{is_lt, nat_cmp, ordering_reverse}
use Rattle.std.specs.Cmp.Lexicographic.{slice_cmp}
use Rattle.std.proofs.lemmas.Cmp.{nat_list_cmp_total}
use Rattle.ir_types.specs.Things.{ContextModel}
use Rattle.ir_types.specs.Terms.{name_term}
use Rattle.ir_tree.specs.declared.value.Value.{Value}
use Rattle.ir_tree.specs.declared.place.Place.{Place}
use Rattle.ir_tree.specs.declared.place.Part.{Part}
use Rattle.ir_tree.specs.declared.place.Part.TheVariants.{Props, Attrs}
use Rattle.ir_tree.specs.Tree.{HeadOf, OpOf, Op, op, RegionsOf, no_regions, region, RegionOf, empty, block, OpsOf, no_ops, next, head}
use Rattle.ir_tree.specs.Limits.{every, regions_every, region_every, ops_every, all_arguments_pass}
use Rattle.ir_tree.specs.Passing.{entry_passes, head_passes, op_passes}
use Rattle.ir_tree.specs.Edits.{each_head, regions_each_head, region_each_head, ops_each_head, at, put_operand, with_operand, put_values, with_value_replaced, same_key, put_entry, drop_entry, change_entry, change_part, with_entry}
use Rattle.ir_tree.specs.Places.{each_list, regions_each_list, region_each_list, ops_each_list, put_last, put_before, put_in, is_in_block, put_here, put, drop_op, without}
use Rattle.ir_tree.specs.Meaning.{is_name, is_type, is_attr, key_before, key_before_in, rises, rises_after, dictionaries_rise, IsSoundIn}
use Rattle.std.proofs.lemmas.Bool.{cases_Bool, and_parts, and_from}
use Rattle.ir_types.proofs.AcceptedCalls.{less_from}

-- tests that every operation passes
module _ {N T A : Type 0} (p : OpOf N T A → Bool) (f : HeadOf N T A → HeadOf N T A) (step : (h : HeadOf N T A) (rs : RegionsOf N T A) → p (op h rs) ≡ true → p (op (f h) (regions_each_head f rs)) ≡ true) where
  mutual
    every_head : (t : OpOf N T A) → every p t ≡ true → every p (each_head f t) ≡ true
    every_head (op h rs) k = let b = and_parts _ _ k in and_from _ _ (step h rs b.0) (regions_head rs b.1)

    regions_head : (rs : RegionsOf N T A) → regions_every p rs ≡ true → regions_every p (regions_each_head f rs) ≡ true
    regions_head no_regions k = refl
    regions_head (region g rs) k = let b = and_parts (region_every p g) (regions_every p rs) k in and_from _ _ (region_head g b.0) (regions_head rs b.1)

    region_head : (g : RegionOf N T A) → region_every p g ≡ true → region_every p (region_each_head f g) ≡ true
    region_head empty k = refl
    region_head (block args os) k = ops_head os k

    ops_head : (os : OpsOf N T A) → ops_every p os ≡ true → ops_every p (ops_each_head f os) ≡ true
    ops_head no_ops k = refl
    ops_head (next o os) k = let b = and_parts (every p o) (ops_every p os) k in and_from _ _ (every_head o b.0) (ops_head os b.1)

module _ {N T A : Type 0} (p : OpOf N T A → Bool) (f : ℕ → ℕ → OpsOf N T A → OpsOf N T A) (step : (h : HeadOf N T A) (rs : RegionsOf N T A) → p (op h rs) ≡ true → p (op h (regions_each_list f h.id 0 rs)) ≡ true)
    (list : (o r : ℕ) (os : OpsOf N T A) → ops_every p os ≡ true → ops_every p (f o r os) ≡ true)
  where
    mutual
      every_list : (t : OpOf N T A) → every p t ≡ true → every p (each_list f t) ≡ true
      every_list (op h rs) k = let b = and_parts _ _ k in and_from _ _ (step h rs b.0) (regions_list h.id 0 rs b.1)

      regions_list : (o r : ℕ) (rs : RegionsOf N T A) → regions_every p rs ≡ true → regions_every p (regions_each_list f o r rs) ≡ true
      regions_list o r no_regions k = refl
      regions_list o r (region g rs) k = let b = and_parts (region_every p g) (regions_every p rs) k in and_from _ _ (region_list' o r g b.0) (regions_list o (r + 1) rs b.1)

      region_list' : (o r : ℕ) (g : RegionOf N T A) → region_every p g ≡ true → region_every p (region_each_list f o r g) ≡ true
      region_list' o r empty k = refl
      region_list' o r (block args os) k = list o r (ops_each_list f os) (ops_list os k)

      ops_list : (os : OpsOf N T A) → ops_every p os ≡ true → ops_every p (ops_each_list f os) ≡ true
      ops_list no_ops k = refl
      ops_list (next o os) k = let b = and_parts (every p o) (ops_every p os) k in and_from _ _ (every_list o b.0) (ops_list os b.1)

module _ {N T A : Type 0} (p : OpOf N T A → Bool) where
  pub every_put_last : (o : OpOf N T A) (os : OpsOf N T A) → every p o ≡ true → ops_every p os ≡ true → ops_every p (put_last o os) ≡ true
  every_put_last o no_ops h k = and_from _ _ h refl
  every_put_last o (next q os) h k = let b = and_parts (every p q) (ops_every p os) k in and_from _ _ b.0 (every_put_last o os h b.1)

  pub every_put_before : (b : ℕ) (o : OpOf N T A) (os : OpsOf N T A) → every p o ≡ true → ops_every p os ≡ true → ops_every p (put_before b o os) ≡ true
  every_put_before x o no_ops h k = refl
  every_put_before x o (next q os) h k =
      let b = and_parts (every p q) (ops_every p os) k in
      elim (eqb (head q).id x) as (λ c. ops_every p (cond c (next o (next q os)) (next q (put_before x o os))) ≡ true)
      [ true ↦ and_from (every p o) (ops_every p (next q os)) h k | false ↦ and_from (every p q) (ops_every p (put_before x o os)) b.0 (every_put_before x o os h b.1) ]

  pub every_put_in : (b : Option ℕ) (o : OpOf N T A) (os : OpsOf N T A) → every p o ≡ true → ops_every p os ≡ true → ops_every p (put_in b o os) ≡ true
  every_put_in None o os h k = every_put_last o os h k
  every_put_in (Some b) o os h k = every_put_before b o os h k

  pub every_put_here : (place : Place) (o : OpOf N T A) → every p o ≡ true → (q r : ℕ) (os : OpsOf N T A) → ops_every p os ≡ true → ops_every p (put_here place o q r os) ≡ true
  every_put_here place o h q r os k =
      elim (is_in_block place q r) as (λ c. ops_every p (cond c (put_in place.before o os) os) ≡ true) [ true ↦ every_put_in place.before o os h k | false ↦ k ]

  pub every_drop : (x : ℕ) (os : OpsOf N T A) → ops_every p os ≡ true → ops_every p (drop_op x os) ≡ true
  every_drop x no_ops k = refl
  every_drop x (next o os) k =
      let b = and_parts (every p o) (ops_every p os) k in
      elim (eqb (head o).id x) as (λ c. ops_every p (cond c (drop_op x os) (next o (drop_op x os))) ≡ true)
      [ true ↦ every_drop x os b.1 | false ↦ and_from (every p o) (ops_every p (drop_op x os)) b.0 (every_drop x os b.1) ]

-- arguments are unchanged
module _ {N T A : Type 0} (q : List T → Bool) where
  head_arguments : (f : HeadOf N T A → HeadOf N T A) (rs : RegionsOf N T A) → all_arguments_pass q rs ≡ true → all_arguments_pass q (regions_each_head f rs) ≡ true
  head_arguments f no_regions k = refl
  head_arguments f (region empty rs) k = head_arguments f rs k
  head_arguments f (region (block args os) rs) k = let b = and_parts (q args) (all_arguments_pass q rs) k in and_from _ _ b.0 (head_arguments f rs b.1)

  list_arguments : (f : ℕ → ℕ → OpsOf N T A → OpsOf N T A) (p r : ℕ) (rs : RegionsOf N T A) → all_arguments_pass q rs ≡ true → all_arguments_pass q (regions_each_list f p r rs) ≡ true
  list_arguments f p r no_regions k = refl
  list_arguments f p r (region empty rs) k = list_arguments f p (r + 1) rs k
  list_arguments f p r (region (block args os) rs) k = let b = and_parts (q args) (all_arguments_pass q rs) k in and_from _ _ b.0 (list_arguments f p (r + 1) rs b.1)

-- dictionaries
module _ {N A : Type 0} (before : N → N → Bool) (e : N × A → Bool) where
  all_put : (k : N) (a : A) (es : List (N × A)) → e (k, a) ≡ true → list_all e es ≡ true → list_all e (put_entry before k a es) ≡ true
  all_put k a [] h l = and_from _ _ h refl
  all_put k a (d ∷ es) h l =
      let b = and_parts (e d) (list_all e es) l in
      elim (before k d.0) as (λ c. list_all e (cond c ((k, a) ∷ d ∷ es) (cond (before d.0 k) (d ∷ put_entry before k a es) ((k, a) ∷ es))) ≡ true) [
        | true ↦ and_from (e (k, a)) (list_all e (d ∷ es)) h l
        | false ↦ elim (before d.0 k) as (λ c. list_all e (cond c (d ∷ put_entry before k a es) ((k, a) ∷ es)) ≡ true)
            [ true ↦ and_from (e d) (list_all e (put_entry before k a es)) b.0 (all_put k a es h b.1) | false ↦ and_from (e (k, a)) (list_all e es) h b.1 ]
      ]

  all_drop : (k : N) (es : List (N × A)) → list_all e es ≡ true → list_all e (drop_entry before k es) ≡ true
  all_drop k [] l = refl
  all_drop k (d ∷ es) l =
      let b = and_parts (e d) (list_all e es) l in
      elim (same_key before k d.0) as (λ c. list_all e (cond c es (d ∷ drop_entry before k es)) ≡ true) [ true ↦ b.1 | false ↦ and_from (e d) (list_all e (drop_entry before k es)) b.0 (all_drop k es b.1) ]

  all_changed : (k : N) (a : Option A) (es : List (N × A)) → ((b : A) → a ≡ Some b → e (k, b) ≡ true) → list_all e es ≡ true → list_all e (change_entry before k a es) ≡ true
  all_changed k None es h l = all_drop k es l
  all_changed k (Some a) es h l = all_put k a es (h a refl) l

-- an order of keys
record Orders {N : Type 0} (before : N → N → Bool) : Type 0 where
  trans : (k l m : N) → before k l ≡ true → before l m ≡ true → before k m ≡ true
  tied : (k l m : N) → before k l ≡ false → before l k ≡ false → (before k m ≡ before l m) × (before m k ≡ before m l)

module _ {N A : Type 0} (before : N → N → Bool) (orders : Orders before) where
  rises_tail : (k : N) (es : List (N × A)) → rises_after before k es ≡ true → rises before es ≡ true
  rises_tail k [] h = refl
  rises_tail k (d ∷ es) h = (and_parts (before k d.0) (rises_after before d.0 es) h).1

  -- after a smaller key
  after_less : (k l : N) (es : List (N × A)) → before k l ≡ true → rises_after before l es ≡ true → rises_after before k es ≡ true
  after_less k l [] h r = refl
  after_less k l (d ∷ es) h r = let b = and_parts (before l d.0) (rises_after before d.0 es) r in and_from (before k d.0) (rises_after before d.0 es) (orders.trans k l d.0 h b.0) b.1

  after_tied : (k l : N) (es : List (N × A)) → before k l ≡ false → before l k ≡ false → rises_after before l es ≡ true → rises_after before k es ≡ true
  after_tied k l [] h g r = refl
  after_tied k l (d ∷ es) h g r =
      let b = and_parts (before l d.0) (rises_after before d.0 es) r in and_from (before k d.0) (rises_after before d.0 es) ((orders.tied k l d.0 h g).0 ∙ b.0) b.1

  put_after : (j k : N) (a : A) (es : List (N × A)) → before j k ≡ true → rises_after before j es ≡ true → rises_after before j (put_entry before k a es) ≡ true
  put_after j k a [] h r = and_from _ _ h refl
  put_after j k a (d ∷ es) h r =
      let b = and_parts (before j d.0) (rises_after before d.0 es) r in
      elim (cases_Bool (before k d.0)) [
        | inl u ↦ ap (λ c. rises_after before j (cond c ((k, a) ∷ d ∷ es) (cond (before d.0 k) (d ∷ put_entry before k a es) ((k, a) ∷ es)))) u
            ∙ and_from (before j k) (before k d.0 && rises_after before d.0 es) h (and_from (before k d.0) (rises_after before d.0 es) u b.1)
        | inr u ↦ ap (λ c. rises_after before j (cond c ((k, a) ∷ d ∷ es) (cond (before d.0 k) (d ∷ put_entry before k a es) ((k, a) ∷ es)))) u
            ∙ elim (cases_Bool (before d.0 k)) [
              | inl v ↦ ap (λ c. rises_after before j (cond c (d ∷ put_entry before k a es) ((k, a) ∷ es))) v ∙ and_from (before j d.0) (rises_after before d.0 (put_entry before k a es)) b.0 (put_after d.0 k a es v b.1)
              | inr v ↦ ap (λ c. rises_after before j (cond c (d ∷ put_entry before k a es) ((k, a) ∷ es))) v ∙ and_from (before j k) (rises_after before k es) h (after_tied k d.0 es u v b.1)
            ]
      ]

  put_rises : (k : N) (a : A) (es : List (N × A)) → rises before es ≡ true → rises before (put_entry before k a es) ≡ true
  put_rises k a [] r = refl
  put_rises k a (d ∷ es) r =
      elim (cases_Bool (before k d.0)) [
        | inl u ↦ ap (λ c. rises before (cond c ((k, a) ∷ d ∷ es) (cond (before d.0 k) (d ∷ put_entry before k a es) ((k, a) ∷ es)))) u ∙ and_from (before k d.0) (rises_after before d.0 es) u r
        | inr u ↦ ap (λ c. rises before (cond c ((k, a) ∷ d ∷ es) (cond (before d.0 k) (d ∷ put_entry before k a es) ((k, a) ∷ es)))) u
            ∙ elim (cases_Bool (before d.0 k)) [
              | inl v ↦ ap (λ c. rises before (cond c (d ∷ put_entry before k a es) ((k, a) ∷ es))) v ∙ put_after d.0 k a es v r
              | inr v ↦ ap (λ c. rises before (cond c (d ∷ put_entry before k a es) ((k, a) ∷ es))) v ∙ after_tied k d.0 es u v r
            ]
      ]

  drop_after : (j k : N) (es : List (N × A)) → rises_after before j es ≡ true → rises_after before j (drop_entry before k es) ≡ true
  drop_after j k [] r = refl
  drop_after j k (d ∷ es) r =
      let b = and_parts (before j d.0) (rises_after before d.0 es) r in
      elim (same_key before k d.0) as (λ c. rises_after before j (cond c es (d ∷ drop_entry before k es)) ≡ true)
      [ true ↦ after_less j d.0 es b.0 b.1 | false ↦ and_from (before j d.0) (rises_after before d.0 (drop_entry before k es)) b.0 (drop_after d.0 k es b.1) ]

  drop_rises : (k : N) (es : List (N × A)) → rises before es ≡ true → rises before (drop_entry before k es) ≡ true
  drop_rises k [] r = refl
  drop_rises k (d ∷ es) r =
      elim (same_key before k d.0) as (λ c. rises before (cond c es (d ∷ drop_entry before k es)) ≡ true) [ true ↦ rises_tail d.0 es r | false ↦ drop_after d.0 k es r ]

  changed_rises : (k : N) (a : Option A) (es : List (N × A)) → rises before es ≡ true → rises before (change_entry before k a es) ≡ true
  changed_rises k None es r = drop_rises k es r
  changed_rises k (Some a) es r = put_rises k a es r

tied_is : (o o' : Ordering) → o ≡ ordering_reverse o' → is_lt o ≡ false → is_lt o' ≡ false → o ≡ Equal
tied_is Less o' e h g = cc
tied_is Equal o' e h g = refl
tied_is Greater Less e h g = cc
tied_is Greater Equal e h g = cc
tied_is Greater Greater e h g = cc

bytes_order : Orders key_before
bytes_order =
    let R = slice_cmp nat_cmp in
    let o = nat_list_cmp_total in
    record {
      trans = λ k l m h g. ap is_lt (o.trans k l m (less_from (R k l) h) (less_from (R l m) g));
      tied =
          λ k l m h g.
          let same = tied_is (R k l) (R l k) (o.antisymm k l) h g in
          (ap is_lt (o.congr k l m same), λ i. is_lt ((o.antisymm m k ∙ ap ordering_reverse (o.congr k l m same) ∙ sym (o.antisymm m l)) i));
    }

order_in : (c : ContextModel) → Orders (key_before_in c)
order_in c = record {
  trans = λ k l m. bytes_order.trans (name_term c k) (name_term c l) (name_term c m);
  tied = λ k l m. bytes_order.tied (name_term c k) (name_term c l) (name_term c m);
}

-- edits of heads
module _ (c : ContextModel) where
  record Keeps (f : HeadOf ℕ ℕ ℕ → HeadOf ℕ ℕ ℕ) : Type 0 where
    known : (h : HeadOf ℕ ℕ ℕ) → head_passes (is_name c) (is_type c) (is_attr c) h ≡ true → head_passes (is_name c) (is_type c) (is_attr c) (f h) ≡ true
    sorted : (h : HeadOf ℕ ℕ ℕ) → (rises (key_before_in c) h.properties && rises (key_before_in c) h.attributes) ≡ true → (rises (key_before_in c) (f h).properties && rises (key_before_in c) (f h).attributes) ≡ true

  heads_sound : (f : HeadOf ℕ ℕ ℕ → HeadOf ℕ ℕ ℕ) → Keeps f → (t : Op) → IsSoundIn c t → IsSoundIn c (each_head f t)
  heads_sound f keeps t s = record {
    known =
        every_head (op_passes (is_name c) (is_type c) (is_attr c)) f
        (λ h rs k. let b = and_parts (head_passes (is_name c) (is_type c) (is_attr c) h) (all_arguments_pass (list_all (is_type c)) rs) k in and_from _ _ (keeps.known h b.0) (head_arguments (list_all (is_type c)) f rs b.1))
        t s.known;
    sorted = every_head (dictionaries_rise (key_before_in c)) f (λ h rs k. keeps.sorted h k) t s.sorted;
  }

  at_keeps : (x : ℕ) (f : HeadOf ℕ ℕ ℕ → HeadOf ℕ ℕ ℕ) → Keeps f → Keeps (at x f)
  at_keeps x f keeps = record {
    known = λ h k. elim (eqb h.id x) as (λ b. head_passes (is_name c) (is_type c) (is_attr c) (cond b (f h) h) ≡ true) [ true ↦ keeps.known h k | false ↦ k ];
    sorted =
        λ h k.
        elim (eqb h.id x) as (λ b. (rises (key_before_in c) (cond b (f h) h).properties && rises (key_before_in c) (cond b (f h) h).attributes) ≡ true) [ true ↦ keeps.sorted h k | false ↦ k ];
  }

  pub operand_sound : (x k : ℕ) (v : Value) (t : Op) → IsSoundIn c t → IsSoundIn c (with_operand x k v t)
  operand_sound x k v = heads_sound (at x (put_operand k v)) (at_keeps x (put_operand k v) (record { known = λ h p. p; sorted = λ h p. p }))

  pub replaced_sound : (v w : Value) (t : Op) → IsSoundIn c t → IsSoundIn c (with_value_replaced v w t)
  replaced_sound v w = heads_sound (put_values v w) (record { known = λ h p. p; sorted = λ h p. p })

  part_keeps : (part : Part) (k : ℕ) (a : Option ℕ) → is_name c k ≡ true → ((b : ℕ) → a ≡ Some b → is_attr c b ≡ true) → Keeps (change_part part (change_entry (key_before_in c) k a))
  part_keeps Props k a n m = record {
    known =
        λ h p.
        let b = and_parts (is_name c h.name) _ p in
        let d = and_parts (list_all (is_type c) h.results) _ b.1 in
        let e = and_parts (list_all (entry_passes (is_name c) (is_attr c)) h.properties) _ d.1 in
        and_from _ _ b.0 (and_from _ _ d.0 (and_from _ _ (all_changed (key_before_in c) (entry_passes (is_name c) (is_attr c)) k a h.properties (λ b q. and_from _ _ n (m b q)) e.0) e.1));
    sorted = λ h p. let b = and_parts (rises (key_before_in c) h.properties) _ p in and_from _ _ (changed_rises (key_before_in c) (order_in c) k a h.properties b.0) b.1;
  }
  part_keeps Attrs k a n m = record {
    known =
        λ h p.
        let b = and_parts (is_name c h.name) _ p in
        let d = and_parts (list_all (is_type c) h.results) _ b.1 in
        let e = and_parts (list_all (entry_passes (is_name c) (is_attr c)) h.properties) _ d.1 in
        and_from _ _ b.0 (and_from _ _ d.0 (and_from _ _ e.0 (all_changed (key_before_in c) (entry_passes (is_name c) (is_attr c)) k a h.attributes (λ b q. and_from _ _ n (m b q)) e.1)));
    sorted = λ h p. let b = and_parts (rises (key_before_in c) h.properties) _ p in and_from _ _ b.0 (changed_rises (key_before_in c) (order_in c) k a h.attributes b.1);
  }

  pub entry_sound : (x : ℕ) (part : Part) (k : ℕ) (a : Option ℕ) (t : Op) → is_name c k ≡ true → ((b : ℕ) → a ≡ Some b → is_attr c b ≡ true) → IsSoundIn c t → IsSoundIn c (with_entry (key_before_in c) x part k a t)
  entry_sound x part k a t n m = heads_sound (at x (change_part part (change_entry (key_before_in c) k a))) (at_keeps x (change_part part (change_entry (key_before_in c) k a)) (part_keeps part k a n m)) t

  -- edits of lists
  pub put_sound : (place : Place) (o t : Op) → IsSoundIn c o → IsSoundIn c t → IsSoundIn c (put place o t)
  put_sound place o t r s = record {
    known =
        every_list (op_passes (is_name c) (is_type c) (is_attr c)) (put_here place o)
        (λ h rs k. let b = and_parts (head_passes (is_name c) (is_type c) (is_attr c) h) (all_arguments_pass (list_all (is_type c)) rs) k in and_from _ _ b.0 (list_arguments (list_all (is_type c)) (put_here place o) h.id 0 rs b.1))
        (every_put_here (op_passes (is_name c) (is_type c) (is_attr c)) place o r.known) t s.known;
    sorted = every_list (dictionaries_rise (key_before_in c)) (put_here place o) (λ h rs k. k) (every_put_here (dictionaries_rise (key_before_in c)) place o r.sorted) t s.sorted;
  }

  pub without_sound : (x : ℕ) (t : Op) → IsSoundIn c t → IsSoundIn c (without x t)
  without_sound x t s =
      let d = λ (p r : ℕ) (os : OpsOf ℕ ℕ ℕ). drop_op x os in
      record {
        known =
            every_list (op_passes (is_name c) (is_type c) (is_attr c)) d
            (λ h rs k. let b = and_parts (head_passes (is_name c) (is_type c) (is_attr c) h) (all_arguments_pass (list_all (is_type c)) rs) k in and_from _ _ b.0 (list_arguments (list_all (is_type c)) d h.id 0 rs b.1))
            (λ p r os k. every_drop (op_passes (is_name c) (is_type c) (is_attr c)) x os k) t s.known;
        sorted = every_list (dictionaries_rise (key_before_in c)) d (λ h rs k. k) (λ p r os k. every_drop (dictionaries_rise (key_before_in c)) x os k) t s.sorted;
      }
