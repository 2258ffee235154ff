-- The loops that look for free labels, and that relabel nodes.
use Rattle.std.proofs.Common.{◌≡◌, ℕ, suc, ◌+◌, ◌-◌, ◌*◌, ◌/◌, ◌<◌, ◌≤◌, List, [], ◌∷◌, ◌++◌, set, take, refl, sym, ap, ◌∙◌, subst, length, true, eqb, arith, Option, Some, None, slice_get, length-append, append_assoc}
use Rattle.std.proofs.lemmas.Bool.{cond_both, eq-eqb, ne_eqb, cond-true, cond-false, false≢true, or_left, or_right}
use Rattle.std.proofs.lemmas.List.{length-set, length_push, take-append-le, take_all}
use Rattle.std.proofs.Math.Nat.{mul-suc, le-div_iff_mul-le}
use Rattle.ir_store_lists.specs.Lists.{Lists, Laws, Once, list_at, home_at, has, after, IsItem, IsHead}
use Rattle.ir_store_lists.specs.Labels.{label_at, RisesFrom, label_before, from, spread, spread_end, IsHeadroom, Rising}
use Rattle.ir_store_lists.proofs.Laws.{above}
use Rattle.ir_store_lists.proofs.Spreads.{end_low, end_times}
use Rattle.ir_store_lists.proofs.Parts.{around, before_around, rises_parts}
use Rattle.ir_store_lists.proofs.Kept.{member_item, list_short}

pub has_middle : (x : ℕ) (preceding back : List ℕ) → has x (preceding ++ x ∷ back) ≡ true
has_middle x [] back = or_left (eqb x x) (has x back) (eq-eqb x x refl)
has_middle x (a ∷ preceding) back = or_right (eqb a x) (has x (preceding ++ x ∷ back)) (has_middle x preceding back)

pub after_middle : (x : ℕ) (preceding back : List ℕ) → Once (preceding ++ x ∷ back) → after x (preceding ++ x ∷ back) ≡ slice_get back 0
after_middle x [] back o = cond-true (eqb x x) (slice_get back 0) (after x back) (eq-eqb x x refl)
after_middle x (a ∷ preceding) back o =
    let n : a ≡ x → ⊥ = λ e. false≢true (sym o.0 ∙ subst (λ z. has z (preceding ++ x ∷ back) ≡ true) (sym e) (has_middle x preceding back)) in
    cond-false (eqb a x) (slice_get (preceding ++ x ∷ back) 0) (after x (preceding ++ x ∷ back)) (ne_eqb a x n) ∙ after_middle x preceding back o.1

-- a node of the list of head h, with the nodes before it and the nodes from it on
pub record At (c : Lists) (h : ℕ) (node : Option ℕ) (rest : List ℕ) : Type 0 where
  pub sofar : List ℕ
  pub split : sofar ++ rest ≡ list_at c.lists h
  pub stands : node ≡ slice_get rest 0

pub at_node : (c : Lists) (t : ℕ) → Laws c.lists c.homes → IsItem c.homes t → At c (home_at c.homes t) (Some t) (from t (list_at c.lists (home_at c.homes t)))
at_node c t laws item =
    let a = around t (list_at c.lists (home_at c.homes t)) (laws.covers t item) in
    record { sofar = a.preceding; split = ap (λ z. a.preceding ++ z) a.rest ∙ a.whole; stands = ap (λ z. slice_get z 0) (sym a.rest) }

pub record Next (c : Lists) (h x : ℕ) (rest : List ℕ) : Type 0 where
  pub tail : List ℕ
  pub own : rest ≡ x ∷ tail
  pub there : has x (list_at c.lists h) ≡ true
  pub item : IsItem c.homes x
  pub next : (node : Option ℕ) → node ≡ after x (list_at c.lists (home_at c.homes x)) → At c h node tail

pub at_next : (c : Lists) (h x : ℕ) (rest : List ℕ) (at : Option ℕ) → at ≡ Some x → Laws c.lists c.homes → At c h at rest → Next c h x rest
at_next c h x [] at e laws w = absurd (let z : None ≡ Some x = sym w.stands ∙ e in (cc))
at_next c h x (y ∷ ys) at e laws w =
    let here : y ≡ x = (let z : Some y ≡ Some x = sym w.stands ∙ e in (cc)) in
    let s : w.sofar ++ x ∷ ys ≡ list_at c.lists h = ap (λ z. w.sofar ++ z ∷ ys) (sym here) ∙ w.split in
    let there : has x (list_at c.lists h) ≡ true = subst (λ z. has x z ≡ true) s (has_middle x w.sofar ys) in
    record {
      tail = ys;
      own = ap (λ z. z ∷ ys) here;
      there = there;
      item = member_item c h x laws there;
      next = λ n q. record {
        sofar = w.sofar ++ x ∷ [];
        split = append_assoc w.sofar (x ∷ []) ys ∙ s;
        stands = q ∙ ap (λ z. after x (list_at c.lists z)) (laws.members h x there).0 ∙ ap (after x) (sym s) ∙ after_middle x w.sofar ys (subst Once (sym s) (laws.once h));
      };
    }

pub at_end : (c : Lists) (h : ℕ) (rest : List ℕ) (at : Option ℕ) → at ≡ None → At c h at rest → rest ≡ []
at_end c h [] at e w = refl
at_end c h (y ∷ ys) at e w = absurd (let z : Some y ≡ None = sym w.stands ∙ e in (cc))

-- the relabelling loop: the remaining nodes get the labels that the whole call gives them
pub record Walk (c : Lists) (h gap : ℕ) (whole : List ℕ) (low : ℕ) (initial : List ℕ) (node : Option ℕ) (left label : ℕ) (now : List ℕ) : Type 0 where
  pub rest : List ℕ
  pub at : At c h node rest
  pub same : spread gap label (take left rest) now ≡ spread gap low whole initial
  pub ends : spread_end gap label (take left rest) ≡ spread_end gap low whole
  pub long : length now ≡ length initial

pub walk_start : (c : Lists) (t gap count low : ℕ) (labels : List ℕ) → Laws c.lists c.homes → IsItem c.homes t
    → Walk c (home_at c.homes t) gap (take count (from t (list_at c.lists (home_at c.homes t)))) low labels (Some t) count low labels
walk_start c t gap count low labels laws item = record { rest = from t (list_at c.lists (home_at c.homes t)); at = at_node c t laws item; same = refl; ends = refl; long = refl }

pub record Stepped (c : Lists) (h gap : ℕ) (whole : List ℕ) (low : ℕ) (initial : List ℕ) (x left label : ℕ) (now : List ℕ) : Type 0 where
  pub item : IsItem c.homes x
  pub inside : x < length now
  pub fits : label + gap ≤ spread_end gap low whole
  pub next : (node : Option ℕ) → node ≡ after x (list_at c.lists (home_at c.homes x)) → Walk c h gap whole low initial node (left - 1) (label + gap) (set now x (label + gap))

pub walk_step : (c : Lists) (h gap : ℕ) (whole : List ℕ) (low : ℕ) (initial : List ℕ) (node : Option ℕ) (x left label : ℕ) (now : List ℕ) → node ≡ Some x → (left ≡ 0 → ⊥) → Laws c.lists c.homes → Rising c initial
    → Walk c h gap whole low initial node left label now → Stepped c h gap whole low initial x left label now
walk_step c h gap whole low initial node x left label now e some laws r w =
    let n = at_next c h x w.rest node e laws w.at in
    let taken : take left w.rest ≡ x ∷ take (left - 1) n.tail = (λ i. take (one_more i) (n.own i)) in
    record {
      item = n.item;
      inside = omega (arith, n.item.inside, r.long, w.long);
      fits = omega (arith, ap (spread_end gap label) (sym taken) ∙ w.ends, end_low gap (label + gap) (take (left - 1) n.tail));
      next = λ m q. record {
        rest = n.tail;
        at = n.next m q;
        same = ap (λ z. spread gap label z now) (sym taken) ∙ w.same;
        ends = ap (spread_end gap label) (sym taken) ∙ w.ends;
        long = length-set now x (label + gap) ∙ w.long;
      };
    }
  where
    one_more : left ≡ suc (left - 1)
    one_more = omega (arith, some)

module _ (c : Lists) (h gap : ℕ) (whole : List ℕ) (low : ℕ) (initial : List ℕ) (node : Option ℕ) (label : ℕ) (now : List ℕ) where
  pub walk_none : (left : ℕ) → left ≡ 0 → Walk c h gap whole low initial node left label now → (now ≡ spread gap low whole initial) × (label ≡ spread_end gap low whole)
  walk_none left e w = (ap (λ n. spread gap label (take n w.rest) now) (sym e) ∙ w.same, ap (λ n. spread_end gap label (take n w.rest)) (sym e) ∙ w.ends)

  pub walk_end : (left : ℕ) → node ≡ None → Walk c h gap whole low initial node left label now → (now ≡ spread gap low whole initial) × (label ≡ spread_end gap low whole)
  walk_end left e w =
      let nil : take left w.rest ≡ [] = take_all left w.rest (omega (arith, ap length (at_end c h w.rest node e w.at))) ∙ at_end c h w.rest node e w.at in
      (ap (λ z. spread gap label z now) (sym nil) ∙ w.same, ap (spread_end gap label) (sym nil) ∙ w.ends)

-- the loop that looks for free labels: this many nodes were passed
pub record Ahead (c : Lists) (h : ℕ) (whole : List ℕ) (node : Option ℕ) (count : ℕ) : Type 0 where
  pub passed : List ℕ
  pub rest : List ℕ
  pub at : At c h node rest
  pub split : passed ++ rest ≡ whole
  pub counted : count ≡ length passed

pub ahead_start : (c : Lists) (t : ℕ) → Laws c.lists c.homes → IsItem c.homes t → Ahead c (home_at c.homes t) (from t (list_at c.lists (home_at c.homes t))) (Some t) 0
ahead_start c t laws item = record { passed = []; rest = from t (list_at c.lists (home_at c.homes t)); at = at_node c t laws item; split = refl; counted = refl }

-- the nodes from a node on have labels above the previous one
pub from_above : (c : Lists) (labels : List ℕ) (t x : ℕ) → Laws c.lists c.homes → IsItem c.homes t → Rising c labels → has x (from t (list_at c.lists (home_at c.homes t))) ≡ true
    → label_before labels 0 t (list_at c.lists (home_at c.homes t)) < label_at labels x
from_above c labels t x laws item r e =
    let list = list_at c.lists (home_at c.homes t) in
    let a = around t list (laws.covers t item) in
    let parts = rises_parts labels 0 a.preceding (t ∷ a.tail) (subst (RisesFrom labels 0) (sym a.whole) (r.rises (home_at c.homes t))) in
    let up = above labels _ x (t ∷ a.tail) parts.1 (subst (λ z. has x z ≡ true) a.rest e) in
    omega (arith, up, ap (label_before labels 0 t) (sym a.whole) ∙ before_around labels 0 t a.preceding a.tail a.absent)

trailing : (xs ys : List ℕ) → slice_get (xs ++ ys) (length xs) ≡ slice_get ys 0
trailing [] ys = refl
trailing (x ∷ xs) ys = trailing xs ys

length_from : (t : ℕ) (ks : List ℕ) → length (from t ks) ≤ length ks
length_from t [] = omega arith
length_from t (k ∷ ks) = cond_both (eqb k t) (k ∷ ks) (from t ks) (λ z. length z ≤ length (k ∷ ks)) (λ _. omega arith) (λ _. omega (arith, length_from t ks))

pub record Passed (c : Lists) (labels : List ℕ) (t x count : ℕ) : Type 0 where
  pub item : IsItem c.homes x
  pub inside : x < length labels
  pub above_low : label_before labels 0 t (list_at c.lists (home_at c.homes t)) < label_at labels x
  pub few : count + 1 < 4294967296
  pub next : (node : Option ℕ) → node ≡ after x (list_at c.lists (home_at c.homes x)) → Ahead c (home_at c.homes t) (from t (list_at c.lists (home_at c.homes t))) node (count + 1)

module _ (c : Lists) (labels : List ℕ) (t count : ℕ) (node : Option ℕ) (laws : Laws c.lists c.homes) (item : IsItem c.homes t) (r : Rising c labels)
    (w : Ahead c (home_at c.homes t) (from t (list_at c.lists (home_at c.homes t))) node count) where
  abbrev whole : List ℕ
  whole = from t (list_at c.lists (home_at c.homes t))

  short : count + length w.rest ≤ length c.homes
  short = omega (arith, w.counted, ap length w.split, length-append w.passed w.rest, length_from t (list_at c.lists (home_at c.homes t)), list_short c (home_at c.homes t) laws)

  pub ahead_few : count < 4294967295
  ahead_few = omega (arith, short, r.few)

  pub ahead_step : (x : ℕ) → node ≡ Some x → Passed c labels t x count
  ahead_step x e =
      let n = at_next c (home_at c.homes t) x w.rest node e laws w.at in
      let s : w.passed ++ x ∷ n.tail ≡ whole = ap (λ z. w.passed ++ z) (sym n.own) ∙ w.split in
      record {
        item = n.item;
        inside = omega (arith, n.item.inside, r.long);
        above_low = from_above c labels t x laws item r (subst (λ z. has x z ≡ true) s (has_middle x w.passed n.tail));
        few = omega (arith, short, r.few);
        next = λ m q. record {
          passed = w.passed ++ x ∷ [];
          rest = n.tail;
          at = n.next m q;
          split = append_assoc w.passed (x ∷ []) n.tail ∙ s;
          counted = omega (arith, w.counted, length_push w.passed x);
        };
      }

  -- the passed nodes may be relabelled if there are enough labels up to a bound
  headroom_under : (low gap bound : ℕ) → gap * (count + 2) ≤ bound - low → 0 < gap → low ≤ bound → spread_end gap (low + gap) (take count whole) < bound
  headroom_under low gap bound g some l =
      let taken : take count whole ≡ w.passed = ap (take count) (sym w.split) ∙ take-append-le count w.passed w.rest (omega (arith, w.counted)) ∙ take_all count w.passed (omega (arith, w.counted)) in
      omega (arith, ap (spread_end gap (low + gap)) taken ∙ end_times gap (low + gap) w.passed, ap (λ n. gap * n) w.counted, mul-suc gap count, mul-suc gap (suc count), g, some, l)

  under_by : (a gap : ℕ) → gap ≤ a / (count + 2) → gap * (count + 2) ≤ a
  under_by a gap q = (le-div_iff_mul-le {k = count + 2} {x = gap} {y = a} (omega arith)).0 q

  pub headroom_found : (low x gap : ℕ) → node ≡ Some x → low < label_at labels x → label_at labels x < 18446744073709551616 → gap ≤ (label_at labels x - low) / (count + 2) → count < gap → IsHeadroom labels low count gap whole
  headroom_found low x gap e up fits_in q more =
      let n = at_next c (home_at c.homes t) x w.rest node e laws w.at in
      let s : w.passed ++ x ∷ n.tail ≡ whole = ap (λ z. w.passed ++ z) (sym n.own) ∙ w.split in
      let under = headroom_under low gap (label_at labels x) (under_by (label_at labels x - low) gap q) (omega arith) (omega arith) in
      record {
        some = omega arith;
        fits = omega arith;
        below = λ b f. subst (λ z. spread_end gap (low + gap) (take count whole) < label_at labels z)
            (let z : Some x ≡ Some b = sym (trailing w.passed (x ∷ n.tail)) ∙ ap (slice_get (w.passed ++ x ∷ n.tail)) (sym w.counted) ∙ ap (λ v. slice_get v count) s ∙ f in (cc)) under;
      }

  pub headroom_last : (low gap : ℕ) → node ≡ None → low < 18446744073709551616 → gap ≤ (18446744073709551615 - low) / (count + 2) → count < gap → IsHeadroom labels low count gap whole
  headroom_last low gap e fits_in q more =
      let nil = at_end c (home_at c.homes t) w.rest node e w.at in
      let s : w.passed ++ [] ≡ whole = ap (λ z. w.passed ++ z) (sym nil) ∙ w.split in
      let under = headroom_under low gap 18446744073709551615 (under_by (18446744073709551615 - low) gap q) (omega arith) (omega arith) in
      record {
        some = omega arith;
        fits = omega arith;
        below = λ b f. (let z : None ≡ Some b = sym (trailing w.passed []) ∙ ap (slice_get (w.passed ++ [])) (sym w.counted) ∙ ap (λ v. slice_get v count) s ∙ f in absurd (cc));
      }

-- a whole list, from its first node on
pub record First (c : Lists) (h x : ℕ) : Type 0 where
  pub item : IsItem c.homes x
  pub all : take 18446744073709551615 (from x (list_at c.lists (home_at c.homes x))) ≡ list_at c.lists h

pub first_of : (c : Lists) (h x : ℕ) → Laws c.lists c.homes → IsHead c.homes h → Some x ≡ slice_get (list_at c.lists h) 0 → First c h x
first_of c h x laws head e =
    let there : has x (list_at c.lists h) ≡ true = is_there (list_at c.lists h) e in
    record {
      item = member_item c h x laws there;
      all =
          ap (λ z. take 18446744073709551615 (from x (list_at c.lists z))) (laws.members h x there).0
          ∙ ap (take 18446744073709551615) (is_whole (list_at c.lists h) e)
          ∙ take_all 18446744073709551615 (list_at c.lists h) (omega (arith, list_short c h laws, laws.few));
    }
  where
    is_there : (xs : List ℕ) → Some x ≡ slice_get xs 0 → has x xs ≡ true
    is_there [] e = (cc)
    is_there (y ∷ ys) e = (let z : y ≡ x = (cc) in or_left (eqb y x) (has x ys) (eq-eqb y x z))

    is_whole : (xs : List ℕ) → Some x ≡ slice_get xs 0 → from x xs ≡ xs
    is_whole [] e = refl
    is_whole (y ∷ ys) e = (let z : y ≡ x = (cc) in cond-true (eqb y x) (y ∷ ys) (from x ys) (eq-eqb y x z))
