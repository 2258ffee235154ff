-- Each edit of the lists keeps the labels increasing.
use Rattle.std.proofs.Common.{◌≡◌, ℕ, ◌+◌, ◌<◌, ◌≤◌, List, [], ◌∷◌, ◌++◌, map, set, refl, sym, ap, ◌∙◌, subst, length, Bool, true, false, eqb, ◌||◌, ⊎_elim, arith, Option, Some, None, MatchOption, take, drop}
use Rattle.std.proofs.Math.ListN.{drop_of_length-le}
use Rattle.std.specs.List.{IsDistinct, AllByRecursion, list_any}
use Rattle.std.proofs.lemmas.Bool.{cases_eq, cases_lt, cases_Bool, eqb-true, eq-eqb, ne_eqb, cond-true, cond-false, false≢true, or_cases, or_left, or_right}
use Rattle.std.proofs.lemmas.List.{get_or_past, get_or-set_same, get_or-set_other, length-set, append-nil, take_all, get_or_append_left, get_or_push, length_push}
use Rattle.std.proofs.lemmas.Map.Steps.{length-le_from_distinct_below}
use Rattle.ir_store_lists.specs.Lists.{Lists, Laws, Once, free, list_at, home_at, has, without, put_before, before, last_of, let_go, IsItem, IsFree, IsHead}
use Rattle.ir_store_lists.proofs.Cuts.{list_at-map}
use Rattle.ir_store_lists.proofs.Around.{home_inside}
use Rattle.ir_store_lists.specs.Labels.{label_at, RisesFrom, label_before, last_label, step, spread, spread_end, Rising, HasHeadroom}
use Rattle.ir_store_lists.proofs.Laws.{rises_without, rises_put, rises_still, rises_end, rises_same}
use Rattle.ir_store_lists.proofs.Spreads.{Labelled, length-spread, spread_else, spread_rises, spread_gap, last_spread, end_times}

-- a node in a list is an item
pub member_item : (c : Lists) (h y : ℕ) → Laws c.lists c.homes → has y (list_at c.lists h) ≡ true → IsItem c.homes y
member_item c h y laws e =
    let m = laws.members h y e in
    let linked : home_at c.homes y ≡ free → ⊥ = λ f. (
    let g : h ≡ free = sym m.0 ∙ f in
    let few : length c.homes < free = laws.few in
    let none : list_at c.lists h ≡ [] = get_or_past c.lists h [] (omega (arith, laws.counted)) in
    false≢true (ap (has y) (sym none) ∙ e)) in
    record { inside = home_inside c.homes y linked; linked = linked; other = λ f. m.1 (sym f ∙ m.0) }

-- a free node is in no list
pub free_absent : (c : Lists) (i h : ℕ) → Laws c.lists c.homes → IsFree c.homes i → has i (list_at c.lists h) ≡ false
free_absent c i h laws f =
    ⊎_elim (λ e. let item = member_item c h i laws e in absurd (item.linked f.unlinked)) (λ e. e) (cases_Bool (has i (list_at c.lists h)))

pub list_labelled : (c : Lists) (h : ℕ) (labels : List ℕ) → Laws c.lists c.homes → Rising c labels → Labelled (length labels) (list_at c.lists h)
list_labelled c h labels laws r = λ y e. let item = member_item c h y laws e in omega (arith, item.inside, r.long)

far : (x : ℕ) (xs : List ℕ) → has x xs ≡ false → AllByRecursion (λ y. eqb x y ≡ false) xs
far x [] e = tt
far x (y ∷ ys) e =
    let b = split (eqb y x) (has x ys) e in
    (ne_eqb x y (λ z. false≢true (sym b.0 ∙ eq-eqb y x (sym z))), far x ys b.1)
  where
    split : (p q : Bool) → (p || q) ≡ false → (p ≡ false) × (q ≡ false)
    split true q e = absurd (false≢true (sym e))
    split false q e = (refl, e)

distinct : (xs : List ℕ) → Once xs → IsDistinct eqb xs
unfolding IsDistinct
distinct [] o = tt
distinct (x ∷ xs) o = (far x xs o.0, distinct xs o.1)

any_has : (q : ℕ) (xs : List ℕ) → list_any (eqb q) xs ≡ true → has q xs ≡ true
any_has q [] e = e
any_has q (x ∷ xs) e = ⊎_elim
    (λ z. or_left (eqb x q) (has q xs) (eq-eqb x q (sym (eqb-true q x z))))
    (λ z. or_right (eqb x q) (has q xs) (any_has q xs z))
    (or_cases (eqb q x) (list_any (eqb q) xs) e)

-- no list is longer than there are nodes
pub list_short : (c : Lists) (h : ℕ) → Laws c.lists c.homes → length (list_at c.lists h) ≤ length c.homes
list_short c h laws = length-le_from_distinct_below (list_at c.lists h) (length c.homes) (distinct (list_at c.lists h) (laws.once h)) (λ q e. let item = member_item c h q laws (any_has q (list_at c.lists h) e) in item.inside)

pub rising_without : (c d : Lists) (labels : List ℕ) (n : ℕ) → d.lists ≡ map (without n) c.lists → length d.homes ≡ length c.homes → Rising c labels → Rising d labels
rising_without c d labels n e l r = record {
  rises = λ h. subst (RisesFrom labels 0) (sym (ap (λ z. list_at z h) e ∙ list_at-map (without n) c.lists h refl)) (rises_without labels 0 n (list_at c.lists h) (r.rises h));
  long = r.long ∙ sym l;
  few = omega (arith, r.few);
}

pub rising_kept : (c d : Lists) (labels : List ℕ) → d ≡ c → Rising c labels → Rising d labels
rising_kept c d labels e r = subst (λ (z : Lists). Rising z labels) (sym e) r

pub rising_taken : (c d : Lists) (labels : List ℕ) (capacity : ℕ) (o : Option ℕ) → MatchOption o (d ≡ c) (λ n. d ≡ let_go n c) → Rising c labels → HasHeadroom (length labels) capacity c.headroom → Rising d labels × HasHeadroom (length labels) capacity d.headroom
rising_taken c d labels capacity None e r headroom = subst (λ (z : Lists). Rising z labels × HasHeadroom (length labels) capacity z.headroom) (sym e) (r, headroom)
rising_taken c d labels capacity (Some n) e r headroom = (
  rising_without c d labels n (ap {A = Lists} (λ z. z.lists) e) (ap {A = Lists} (λ z. length z.homes) e ∙ length-set c.homes n free) r,
  subst (λ (z : Lists). HasHeadroom (length labels) capacity z.headroom) (sym e) headroom,
)

put_else : (i t : ℕ) (ks : List ℕ) → has t ks ≡ false → put_before i t ks ≡ ks
put_else i t [] e = refl
put_else i t (w ∷ ks) e =
    let b = split (eqb w t) (has t ks) e in
    cond-false (eqb w t) (i ∷ w ∷ put_before i t ks) (w ∷ put_before i t ks) b.0 ∙ ap (λ v. w ∷ v) (put_else i t ks b.1)
  where
    split : (p q : Bool) → (p || q) ≡ false → (p ≡ false) × (q ≡ false)
    split true q e = absurd (false≢true (sym e))
    split false q e = (refl, e)

pub rising_put : (c d : Lists) (labels : List ℕ) (i t m : ℕ) → Laws c.lists c.homes → IsFree c.homes i → IsItem c.homes t
    → label_before labels 0 t (list_at c.lists (home_at c.homes t)) < m → m < label_at labels t
    → d.lists ≡ map (put_before i t) c.lists → length d.homes ≡ length c.homes → Rising c labels → Rising d (set labels i m)
rising_put c d labels i t m laws f item low high e l r =
    let put : (h : ℕ) → list_at d.lists h ≡ put_before i t (list_at c.lists h) = λ h. ap (λ z. list_at z h) e ∙ list_at-map (put_before i t) c.lists h refl in
    let inside : i < length labels = omega (arith, f.inside, r.long) in
    let k = home_at c.homes t in
    let own : RisesFrom (set labels i m) 0 (put_before i t (list_at c.lists k)) = rises_put labels i m inside 0 t (list_at c.lists k) (free_absent c i k laws f) (laws.covers t item) (laws.once k) low high (r.rises k) in
    record {
      rises = λ h. ⊎_elim
          (λ z. subst (RisesFrom (set labels i m) 0) (sym (put h ∙ ap (λ w. put_before i t (list_at c.lists w)) z)) own)
          (λ z.
          let none : has t (list_at c.lists h) ≡ false = ⊎_elim (λ w. absurd (z (sym (laws.members h t w).0))) (λ w. w) (cases_Bool (has t (list_at c.lists h))) in
          subst (RisesFrom (set labels i m) 0) (sym (put h ∙ put_else i t (list_at c.lists h) none)) (rises_still labels i m 0 (list_at c.lists h) (free_absent c i h laws f) (r.rises h)))
          (cases_eq h k);
      long = length-set labels i m ∙ r.long ∙ sym l;
      few = omega (arith, r.few);
    }

pub rising_push : (c d : Lists) (labels : List ℕ) (i k m : ℕ) → Laws c.lists c.homes → IsFree c.homes i → IsHead c.homes k
    → last_label labels 0 (list_at c.lists k) < m
    → d.lists ≡ set c.lists k (list_at c.lists k ++ i ∷ []) → length d.homes ≡ length c.homes → Rising c labels → Rising d (set labels i m)
rising_push c d labels i k m laws f head low e l r =
    let inside : i < length labels = omega (arith, f.inside, r.long) in
    let new = list_at c.lists k ++ i ∷ [] in
    let here : list_at d.lists k ≡ new = ap (λ z. list_at z k) e ∙ get_or-set_same c.lists k new [] (omega (arith, laws.counted, head.inside)) in
    record {
      rises = λ h. ⊎_elim
          (λ z. subst (RisesFrom (set labels i m) 0) (sym (ap (list_at d.lists) z ∙ here)) (rises_end labels i m inside 0 (list_at c.lists k) (free_absent c i k laws f) low (r.rises k)))
          (λ z. subst (RisesFrom (set labels i m) 0) (sym (ap (λ w. list_at w h) e ∙ get_or-set_other c.lists k h new [] z)) (rises_still labels i m 0 (list_at c.lists h) (free_absent c i h laws f) (r.rises h)))
          (cases_eq h k);
      long = length-set labels i m ∙ r.long ∙ sym l;
      few = omega (arith, r.few);
    }

more_label : (labels : List ℕ) (y : ℕ) → label_at (labels ++ 0 ∷ []) y ≡ label_at labels y
more_label labels y = ⊎_elim
    (λ l. get_or_append_left labels (0 ∷ []) 0 y l)
    (λ g. ⊎_elim
    (λ e. ap (label_at (labels ++ 0 ∷ [])) e ∙ get_or_push labels 0 0 (length labels) refl ∙ sym (get_or_past labels y 0 g))
    (λ n. get_or_past (labels ++ 0 ∷ []) y 0 (omega (arith, length_push labels 0)) ∙ sym (get_or_past labels y 0 g))
    (cases_eq y (length labels)))
    (cases_lt y (length labels))

more_list : (ls : List (List ℕ)) (h : ℕ) → list_at (ls ++ [] ∷ []) h ≡ list_at ls h
more_list ls h = ⊎_elim
    (λ l. get_or_append_left ls ([] ∷ []) [] h l)
    (λ g. ⊎_elim
    (λ e. ap (list_at (ls ++ [] ∷ [])) e ∙ get_or_push ls [] [] (length ls) refl ∙ sym (get_or_past ls h [] g))
    (λ n. get_or_past (ls ++ [] ∷ []) h [] (omega (arith, length_push ls [])) ∙ sym (get_or_past ls h [] g))
    (cases_eq h (length ls)))
    (cases_lt h (length ls))

pub rising_grown : (c d : Lists) (labels more : List ℕ) (k : ℕ) → d.lists ≡ c.lists ++ [] ∷ [] → d.homes ≡ c.homes ++ k ∷ [] → more ≡ labels ++ 0 ∷ [] → length c.homes + 1 < 4294967295 → Rising c labels → Rising d more
rising_grown c d labels more k el eh em few r = record {
  rises = λ h. rises_same labels more 0 (list_at d.lists h) (λ y _. ap (λ z. label_at z y) em ∙ more_label labels y)
      (subst (RisesFrom labels 0) (sym (ap (λ z. list_at z h) el ∙ more_list c.lists h)) (r.rises h));
  long = ap length em ∙ length_push labels 0 ∙ ap (λ z. z + 1) r.long ∙ sym (length_push c.homes k) ∙ ap length (sym eh);
  few = omega (arith, few, ap length eh, length_push c.homes k);
}

-- a relabelled list is increasing, and the others still are
pub rising_spread : (c : Lists) (labels : List ℕ) (k : ℕ) → Laws c.lists c.homes → Rising c labels → Rising c (spread step 0 (list_at c.lists k) labels)
rising_spread c labels k laws r = record {
  rises = λ h. ⊎_elim
      (λ z. subst (λ w. RisesFrom (spread step 0 (list_at c.lists k) labels) 0 (list_at c.lists w)) (sym z) (spread_rises step 0 (list_at c.lists k) labels (omega arith) (laws.once k) (list_labelled c k labels laws r)))
      (λ z. rises_same labels (spread step 0 (list_at c.lists k) labels) 0 (list_at c.lists h)
      (λ y e. spread_else step 0 (list_at c.lists k) labels y
      (⊎_elim (λ w. absurd (z (sym (laws.members h y e).0 ∙ (laws.members k y w).0))) (λ w. w) (cases_Bool (has y (list_at c.lists k)))))
      (r.rises h))
      (cases_eq h k);
  long = length-spread step 0 (list_at c.lists k) labels ∙ r.long;
  few = r.few;
}

-- the same for a node of the list, and at its end
pub record Widened (c : Lists) (new : List ℕ) (t : ℕ) : Type 0 where
  pub rising : Rising c new
  pub gap : label_before new 0 t (list_at c.lists (home_at c.homes t)) + step ≡ label_at new t

pub widened : (c : Lists) (labels new : List ℕ) (t h : ℕ) → Laws c.lists c.homes → IsItem c.homes t → h ≡ home_at c.homes t → new ≡ spread step 0 (list_at c.lists h) labels → Rising c labels → Widened c new t
widened c labels new t h laws item e s r =
    let k = home_at c.homes t in
    let s' : new ≡ spread step 0 (list_at c.lists k) labels = s ∙ ap (λ z. spread step 0 (list_at c.lists z) labels) e in
    let here : Widened c (spread step 0 (list_at c.lists k) labels) t = record {
      rising = rising_spread c labels k laws r;
      gap = spread_gap step 0 t (list_at c.lists k) labels (laws.covers t item) (laws.once k) (list_labelled c k labels laws r);
    } in
    subst (λ z. Widened c z t) (sym s') here

pub record Ended (c : Lists) (new : List ℕ) (h last : ℕ) : Type 0 where
  pub rising : Rising c new
  pub above : last_label new 0 (list_at c.lists h) ≡ last
  pub fits : last + step < 18446744073709551616

-- labels a step apart fit
pub all_fit : (c : Lists) (h : ℕ) → Laws c.lists c.homes → length c.homes < 4294967295 → spread_end step 0 (list_at c.lists h) + step < 18446744073709551616
all_fit c h laws few = omega (arith, end_times step 0 (list_at c.lists h), list_short c h laws, few)

pub ended : (c : Lists) (labels new : List ℕ) (h last : ℕ) → Laws c.lists c.homes → new ≡ spread step 0 (list_at c.lists h) labels → last ≡ spread_end step 0 (list_at c.lists h) → Rising c labels → Ended c new h last
ended c labels new h last laws s e r = record {
  rising = subst (Rising c) (sym s) (rising_spread c labels h laws r);
  above = ap (λ z. last_label z 0 (list_at c.lists h)) s ∙ last_spread step 0 (list_at c.lists h) labels (laws.once h) (list_labelled c h labels laws r) ∙ sym e;
  fits = omega (arith, e, all_fit c h laws r.few);
}

-- a write to the slice of a whole vector is a write to the vector
pub whole_written : (n : ℕ) (new old : List ℕ) → length new ≡ length old → length old ≡ n → take n (new ++ drop (length new) old) ≡ new
whole_written n new old e l =
    ap (λ z. take n (new ++ z)) (drop_of_length-le old (omega (arith, e))) ∙ ap (take n) (append-nil new) ∙ take_all n new (omega (arith, e, l))

-- the capacity of the vector is unchanged
pub headroom_kept : (labels new : List ℕ) (capacity old headroom : ℕ) → length new ≡ length labels → headroom ≡ old → HasHeadroom (length labels) capacity old → HasHeadroom (length new) capacity headroom
headroom_kept labels new capacity old headroom e q h = record { within = omega (arith, e, q, h.within); few = omega (arith, e, q, h.few) }

-- the label of a node, or 0 if there is none
abbrev pub label_or : List ℕ → Option ℕ → ℕ
label_or labels None = 0
label_or labels (Some k) = label_at labels k

pub last_read : (labels : List ℕ) (o : Option ℕ) (ks : List ℕ) → label_or labels (last_of o ks) ≡ last_label labels (label_or labels o) ks
last_read labels o [] = refl
last_read labels o (k ∷ ks) = last_read labels (Some k) ks

pub before_read : (labels : List ℕ) (t : ℕ) (o : Option ℕ) (ks : List ℕ) → has t ks ≡ true → label_or labels (before t o ks) ≡ label_before labels (label_or labels o) t ks
before_read labels t o [] e = absurd (false≢true e)
before_read labels t o (k ∷ ks) e = ⊎_elim
    (λ z.
    ap (label_or labels) (cond-true (eqb k t) o (before t (Some k) ks) (eq-eqb k t z))
    ∙ sym (cond-true (eqb k t) (label_or labels o) (label_before labels (label_at labels k) t ks) (eq-eqb k t z)))
    (λ z.
    ap (label_or labels) (cond-false (eqb k t) o (before t (Some k) ks) (ne_eqb k t z))
    ∙ before_read labels t (Some k) ks (⊎_elim (λ w. absurd (z (eqb-true k t w))) (λ w. w) (or_cases (eqb k t) (has t ks) e))
    ∙ sym (cond-false (eqb k t) (label_or labels o) (label_before labels (label_at labels k) t ks) (ne_eqb k t z)))
    (cases_eq k t)

-- the node before another is in the list
pub before_has : (t p : ℕ) (o : Option ℕ) (ks : List ℕ) → before t o ks ≡ Some p → (o ≡ Some p → ⊥) → has p ks ≡ true
before_has t p o [] e n = (cc)
before_has t p o (k ∷ ks) e n = ⊎_elim
    (λ z. absurd (n (sym (cond-true (eqb k t) o (before t (Some k) ks) z) ∙ e)))
    (λ z. ⊎_elim
    (λ w. or_left (eqb k p) (has p ks) (eq-eqb k p w))
    (λ w. or_right (eqb k p) (has p ks) (before_has t p (Some k) ks (sym (cond-false (eqb k t) o (before t (Some k) ks) z) ∙ e) (λ v. w (cc))))
    (cases_eq k p))
    (cases_Bool (eqb k t))

pub last_has : (p : ℕ) (o : Option ℕ) (ks : List ℕ) → last_of o ks ≡ Some p → (o ≡ Some p → ⊥) → has p ks ≡ true
last_has p o [] e n = absurd (n e)
last_has p o (k ∷ ks) e n = ⊎_elim
    (λ w. or_left (eqb k p) (has p ks) (eq-eqb k p w))
    (λ w. or_right (eqb k p) (has p ks) (last_has p (Some k) ks e (λ v. w (cc))))
    (cases_eq k p)
