-- Slots are visited in the order of their lists.
use Rattle.std.proofs.Common.{◌≡◌, ℕ, zero, suc, ◌-◌, ◌<◌, ◌≤◌, List, [], ◌∷◌, ◌++◌, map, set, refl, sym, ap, ◌∙◌, subst, length, Bool, true, false, not, ◌&&◌, ◌||◌, eqb, cond, arith, Option, Some, None, ⊎_elim, slice_get}
use Rattle.std.specs.Prelude.{if◌then◌else◌, nat_lt}
use Rattle.std.specs.Ordering.{nat_cmp}
use Rattle.std.specs.FinMap as finmap
use Rattle.std.proofs.lemmas.Bool.{cases_eq, cases_lt, eq-eqb, ne_eqb, cond-true, cond-false, false≢true, not-true}
use Rattle.std.proofs.lemmas.Bool.Decides.{nat_tests}
use Rattle.std.proofs.lemmas.List.{length-set, get_or_past}
use Rattle.std.proofs.lemmas.Bool.{or_left, or_right}
use Rattle.ir_store_lists.specs.Lists.{Laws, IsItem, home_at, list_at, has, without, Once, after, free}
use Rattle.ir_store_slots.specs.Stored.{Gone, none_gone}
use Rattle.ir_store_slots.specs.Releases.{is_given, forgetting, IsKeyed, ReleasesSlot, ReleasesSome, GivenUp, Forgets, Released}
use Rattle.ir_store_slots.specs.Rows.{Row, row_at}
use Rattle.ir_store_arena.specs.Rows.{vacated}
use Rattle.ir_store_slots.specs.Marks.{has_gone, mark, home_of, node_of_slot, Marked}
use Rattle.ir_store_slots.specs.Walks.{from_slot}
use Rattle.ir_store_slots.proofs.Items.{other_row, own_row}
use Rattle.ir_store_slots.proofs.Marking.{marked_edit, marked_same}
use Rattle.ir_store_slots.proofs.SlotLaws.{used_inside, live_inside}
use Rattle.ir_store_slots.proofs.Sweeping.{sweep_start, sweep_all, sweep_step}
use Rattle.ir_store_slots.proofs.Walked.{from_first}
use Rattle.ir_store_lists.proofs.LabelWalks.{after_middle, has_middle}

positive : (n : ℕ) → nat_lt 0 (suc n) ≡ true
positive n = grind (arith, nat_tests)

not_first : (x n : ℕ) (xs ys : List ℕ) → Once (x ∷ xs ++ n ∷ ys) → eqb x n ≡ false
not_first x n xs ys o = ⊎_elim
    (λ z. absurd (false≢true (sym o.0 ∙ ap (λ w. has w (xs ++ n ∷ ys)) z ∙ has_middle n xs ys)))
    (λ z. ne_eqb x n z)
    (cases_eq x n)

pub once_part : (n : ℕ) (xs ys : List ℕ) → Once (xs ++ n ∷ ys) → has n ys ≡ false
once_part n [] ys o = o.0
once_part n (x ∷ xs) ys o = once_part n xs ys o.1

pub from_part : (xs ys : List ℕ) → Once (xs ++ ys) → from_slot (slice_get ys 0) (xs ++ ys) ≡ ys
from_part [] ys o = from_first ys
from_part (x ∷ xs) [] o = refl
from_part (x ∷ xs) (y ∷ ys) o = cond-false (eqb x y) (x ∷ xs ++ y ∷ ys) (from_slot (Some y) (xs ++ y ∷ ys)) (not_first x y xs ys o) ∙ from_part xs (y ∷ ys) o.1

without_none : (n : ℕ) (ys : List ℕ) → has n ys ≡ false → without n ys ≡ ys
without_none n [] e = refl
without_none n (y ∷ ys) e = go (eqb y n) refl e (without_none n ys)
  where
    go : (b : Bool) → eqb y n ≡ b → (b || has n ys) ≡ false → (has n ys ≡ false → without n ys ≡ ys) → cond (eqb y n) (without n ys) (y ∷ without n ys) ≡ y ∷ ys
    go true f g h = absurd (false≢true (sym g))
    go false f g h = cond-false (eqb y n) (without n ys) (y ∷ without n ys) f ∙ ap (λ z. y ∷ z) (h g)

pub without_part : (n : ℕ) (xs ys : List ℕ) → Once (xs ++ n ∷ ys) → without n (xs ++ n ∷ ys) ≡ xs ++ ys
without_part n [] ys o = cond-true (eqb n n) (without n ys) (n ∷ without n ys) (eq-eqb n n refl) ∙ without_none n ys o.0
without_part n (x ∷ xs) ys o = cond-false (eqb x n) (without n (xs ++ n ∷ ys)) (x ∷ without n (xs ++ n ∷ ys)) (not_first x n xs ys o) ∙ ap (λ z. x ∷ z) (without_part n xs ys o.1)

pub listed_without : (lists : List (List ℕ)) (h n : ℕ) → list_at (map (without n) lists) h ≡ without n (list_at lists h)
listed_without [] h n = refl
listed_without (l ∷ lists) zero n = refl
listed_without (l ∷ lists) (suc h) n = listed_without lists h n

-- a node with a home exists
pub home_inside : (homes : List ℕ) (u h : ℕ) → home_at homes u ≡ h → (h ≡ free → ⊥) → u < length homes
home_inside homes u h e n = ⊎_elim (λ l. l) (λ g. absurd (n (sym e ∙ get_or_past homes u free g))) (cases_lt u (length homes))

-- the contents of the slots of both lists
pub record AtNode (slots : List Row) (n : ℕ) (held : Bool) : Type 0 where
  pub node : node_of_slot (n - 2) ≡ n
  pub live : (row_at slots (n - 2)).live ≡ not held
  pub inside : n - 2 < length slots

held_row : (u l g : Bool) → home_of (if l then (if g then Some 1 else None) else (if u then Some 0 else None)) ≡ 0 → (u ≡ true) × (l ≡ false)
held_row u true true e = absurd (omega (arith, e))
held_row u true false e = absurd (omega (arith, e))
held_row true false g e = (refl, refl)
held_row false false g e = absurd (omega (arith, e))

lacking_row : (u l g : Bool) → home_of (if l then (if g then Some 1 else None) else (if u then Some 0 else None)) ≡ 1 → l ≡ true
lacking_row u true g e = refl
lacking_row true false g e = absurd (omega (arith, e))
lacking_row false false g e = absurd (omega (arith, e))

module _ (slots : List Row) (lists : List (List ℕ)) (homes : List ℕ) (laws : Laws lists homes) (m : Marked slots homes) where
  at_two : (n h : ℕ) → h < 2 → home_at homes n ≡ h → (n ≡ h → ⊥) → 2 ≤ n
  at_two zero h l e ne = absurd (ne (sym m.held.own ∙ e))
  at_two (suc zero) h l e ne = absurd (ne (sym m.lacking.own ∙ e))
  at_two (suc (suc n)) h l e ne = omega arith

  pub held_node : (n : ℕ) → has n (list_at lists 0) ≡ true → AtNode slots n true
  held_node n e =
      let w = laws.members 0 n e in
      let two = at_two n 0 (omega arith) w.0 w.1 in
      let same : node_of_slot (n - 2) ≡ n = omega (arith, two) in
      let b = row_at slots (n - 2) in
      let r = held_row b.used b.live (has_gone b.gone) (sym (m.home (n - 2)) ∙ ap (home_at homes) same ∙ w.0) in
      record { node = same; live = r.1; inside = used_inside slots (n - 2) (record { used = r.0 }) }

  pub lacking_node : (n : ℕ) → has n (list_at lists 1) ≡ true → AtNode slots n false
  lacking_node n e =
      let w = laws.members 1 n e in
      let two = at_two n 1 (omega arith) w.0 w.1 in
      let same : node_of_slot (n - 2) ≡ n = omega (arith, two) in
      let b = row_at slots (n - 2) in
      let r = lacking_row b.used b.live (has_gone b.gone) (sym (m.home (n - 2)) ∙ ap (home_at homes) same ∙ w.0) in
      record { node = same; live = r; inside = live_inside slots (n - 2) (record { live = r }) }

  pub node_item : (n h : ℕ) → (h ≡ free → ⊥) → has n (list_at lists h) ≡ true → IsItem homes n
  node_item n h ne e =
      let w = laws.members h n e in
      record { inside = home_inside homes n h w.0 ne; linked = λ f. ne (sym w.0 ∙ f); other = λ f. w.1 (sym f ∙ w.0) }

  -- a slot in no list isn't held, and has no removed keys
  listed : (q h : ℕ) → (h < 2) → home_at homes (node_of_slot q) ≡ h → has (node_of_slot q) (list_at lists h) ≡ true
  listed q h l e =
      let it : IsItem homes (node_of_slot q) = record { inside = home_inside homes (node_of_slot q) h e (λ f. omega (arith, l, f)); linked = λ f. omega (arith, l, e, f); other = λ f. omega (arith, l, e, f) } in
      ap (λ z. has (node_of_slot q) (list_at lists z)) (sym e) ∙ laws.covers (node_of_slot q) it

  pub not_given : (from q : ℕ) → has (node_of_slot q) (list_at lists 0) ≡ false → is_given from (row_at slots q) ≡ false
  not_given from q e = go (row_at slots q).used (row_at slots q).live (not (nat_lt (row_at slots q).head.id from)) refl refl
    where
      go : (u l b : Bool) → (row_at slots q).used ≡ u → (row_at slots q).live ≡ l → (u && (not l && b)) ≡ false
      go false l b f g = refl
      go true true b f g = refl
      go true false b f g =
          let home : home_at homes (node_of_slot q) ≡ 0 = m.home q ∙ ap (λ z. home_of (if z then (if has_gone (row_at slots q).gone then Some 1 else None) else (if (row_at slots q).used then Some 0 else None))) g ∙ ap (λ z. home_of (if z then Some 0 else None)) f in
          absurd (false≢true (sym e ∙ listed q 0 (omega arith) home))

  -- a released slot is in the list of held operations
  pub given_listed : (from q : ℕ) → is_given from (row_at slots q) ≡ true → has (node_of_slot q) (list_at lists 0) ≡ true
  given_listed from q g = go (has (node_of_slot q) (list_at lists 0)) refl
    where
      go : (b : Bool) → has (node_of_slot q) (list_at lists 0) ≡ b → has (node_of_slot q) (list_at lists 0) ≡ true
      go true e = e
      go false e = absurd (false≢true (sym (not_given from q e) ∙ g))

  pub not_lacking : (q : ℕ) → has (node_of_slot q) (list_at lists 1) ≡ false → forgetting (row_at slots q) ≡ row_at slots q
  not_lacking q e = go (row_at slots q).live (has_gone (row_at slots q).gone) refl refl
    where
      none : (x y : List ℕ) → (nat_lt 0 (length x) || nat_lt 0 (length y)) ≡ false → ◌≡◌ {A = Gone} none_gone (record { properties = x; attributes = y })
      none [] [] f = refl
      none [] (y ∷ ys) f = absurd (false≢true (sym f ∙ or_right (nat_lt 0 0) (nat_lt 0 (length (y ∷ ys))) (positive (length ys))))
      none (x ∷ xs) ys f = absurd (false≢true (sym f ∙ or_left (nat_lt 0 (length (x ∷ xs))) (nat_lt 0 (length ys)) (positive (length xs))))

      go : (l b : Bool) → (row_at slots q).live ≡ l → has_gone (row_at slots q).gone ≡ b → (if l then record (row_at slots q) { gone = none_gone } else row_at slots q) ≡ row_at slots q
      go false b f g = refl
      go true false f g = ap {A = Gone} {B = Row} (λ z. record (row_at slots q) { gone = z }) (none (row_at slots q).gone.properties (row_at slots q).gone.attributes g)
      go true true f g =
          let home : home_at homes (node_of_slot q) ≡ 1 = m.home q ∙ ap (λ z. home_of (if z then (if has_gone (row_at slots q).gone then Some 1 else None) else (if (row_at slots q).used then Some 0 else None))) f ∙ ap (λ z. home_of (if z then Some 1 else None)) g in
          absurd (false≢true (sym e ∙ listed q 1 (omega arith) home))

-- the held operations, one by one: those after some position of the list remain to be visited
pub record Sweeps (from : ℕ) (slots new : List Row) (keys left : ℕ → Option ℕ) (list homes : List ℕ) (at : Option ℕ) : Type 0 where
  pub preceding : List ℕ
  pub rest : List ℕ
  pub split : list ≡ preceding ++ rest
  pub here : at ≡ slice_get rest 0
  pub marked : Marked new homes
  pub some : ReleasesSome from (λ q. not (has (node_of_slot q) rest)) slots new keys left

pub sweeps_start : (from : ℕ) (slots : List Row) (keys : ℕ → Option ℕ) → IsKeyed slots keys → (lists : List (List ℕ)) (homes : List ℕ) → Laws lists homes → Marked slots homes → (at : Option ℕ) → at ≡ slice_get (list_at lists 0) 0
    → Sweeps from slots slots keys keys (list_at lists 0) homes at
sweeps_start from slots keys kd lists homes laws m at e = record {
  preceding = [];
  rest = list_at lists 0;
  split = refl;
  here = e;
  marked = m;
  some = sweep_start from slots keys kd (λ q. not (has (node_of_slot q) (list_at lists 0))) (λ q f. not_given slots lists homes laws m from q (not-true (has (node_of_slot q) (list_at lists 0)) f));
}

pub sweeps_end : (from : ℕ) (slots new : List Row) (keys left : ℕ → Option ℕ) → IsKeyed slots keys → (list homes : List ℕ) (at : Option ℕ) → at ≡ None → Sweeps from slots new keys left list homes at → GivenUp from slots new keys left
sweeps_end from slots new keys left kd list homes at e s =
    let none : s.rest ≡ [] = go s.rest (sym s.here ∙ e) in
    sweep_all from slots keys kd (λ q. not (has (node_of_slot q) s.rest)) new left (λ q. ap (λ z. not (has (node_of_slot q) z)) none) s.some
  where
    go : (xs : List ℕ) → slice_get xs 0 ≡ None → xs ≡ []
    go [] f = refl
    go (x ∷ xs) f = absurd cc

-- the next held operation
module _ (from : ℕ) (slots new : List Row) (keys : ℕ → Option ℕ) (left : finmap.FinMap nat_cmp ℕ) (kd : IsKeyed slots keys) (lists : List (List ℕ)) (homes : List ℕ) (laws : Laws lists homes) (n : ℕ)
    (s : Sweeps from slots new keys (finmap.get left) (list_at lists 0) homes (Some n)) where
  abbrev Next : Type 0
  Next = (ys : List ℕ) × (s.rest ≡ n ∷ ys)

  next_of : Next
  next_of = go s.rest s.here
    where
      go : (xs : List ℕ) → Some n ≡ slice_get xs 0 → (ys : List ℕ) × (xs ≡ n ∷ ys)
      go [] e = absurd cc
      go (x ∷ xs) e = let f : x ≡ n = cc in (xs, ap (λ z. z ∷ xs) f)

  abbrev ys : List ℕ
  ys = next_of.0

  whole : list_at lists 0 ≡ s.preceding ++ n ∷ ys
  whole = s.split ∙ ap (λ z. s.preceding ++ z) next_of.1

  once : Once (s.preceding ++ n ∷ ys)
  once = subst Once whole (laws.once 0)

  pub sweep_there : has n (list_at lists 0) ≡ true
  sweep_there = ap (has n) whole ∙ has_middle n s.preceding ys

  at_node : AtNode new n true
  at_node = held_node new lists homes laws s.marked n sweep_there

  module _ (at : Option ℕ) (ea : at ≡ after n (list_at lists (home_at homes n))) (b : Bool) (list : List ℕ) (el : list ≡ (if b then without n (list_at lists 0) else list_at lists 0)) where
    ahead : at ≡ slice_get ys 0
    ahead = ea ∙ ap (λ z. after n (list_at lists z)) (laws.members 0 n sweep_there).0 ∙ ap (after n) whole ∙ after_middle n s.preceding ys once

    parts : (xs : List ℕ) × ((list ≡ xs ++ ys) × Once (xs ++ ys))
    parts = go b el
      where
        shift : (xs zs : List ℕ) → (xs ++ n ∷ []) ++ zs ≡ xs ++ n ∷ zs
        shift [] zs = refl
        shift (x ∷ xs) zs = ap (λ z. x ∷ z) (shift xs zs)

        less : (i : ℕ) (xs zs : List ℕ) → has i (xs ++ n ∷ zs) ≡ false → has i (xs ++ zs) ≡ false
        less i [] zs e = or_false (eqb n i) (has i zs) e
          where
            or_false : (b c : Bool) → (b || c) ≡ false → c ≡ false
            or_false true c f = absurd (false≢true (sym f))
            or_false false c f = f
        less i (x ∷ xs) zs e = both (eqb x i) e (less i xs zs)
          where
            both : (b : Bool) → (b || has i (xs ++ n ∷ zs)) ≡ false → (has i (xs ++ n ∷ zs) ≡ false → has i (xs ++ zs) ≡ false) → (b || has i (xs ++ zs)) ≡ false
            both true f g = absurd (false≢true (sym f))
            both false f g = g f

        fewer : (xs zs : List ℕ) → Once (xs ++ n ∷ zs) → Once (xs ++ zs)
        fewer [] zs o = o.1
        fewer (x ∷ xs) zs o = (less x xs zs o.0, fewer xs zs o.1)

        go : (b : Bool) → list ≡ (if b then without n (list_at lists 0) else list_at lists 0) → (xs : List ℕ) × ((list ≡ xs ++ ys) × Once (xs ++ ys))
        go true e = (s.preceding, (e ∙ ap (without n) whole ∙ without_part n s.preceding ys once, fewer s.preceding ys once))
        go false e = (s.preceding ++ n ∷ [], (e ∙ whole ∙ sym (shift s.preceding ys), subst Once (sym (shift s.preceding ys)) once))

    pub sweep_less : length (from_slot at list) < length (from_slot (Some n) (list_at lists 0))
    sweep_less =
        let e : from_slot at list ≡ ys = ap (λ z. from_slot z list) ahead ∙ ap (from_slot (slice_get ys 0)) parts.1.0 ∙ from_part parts.0 ys parts.1.1 in
        let f : from_slot (Some n) (list_at lists 0) ≡ n ∷ ys = ap (from_slot (Some n)) whole ∙ from_part s.preceding (n ∷ ys) once in
        omega (arith, ap length e, ap length f)

    pub sweep_on : (new2 : List Row) (left2 : finmap.FinMap nat_cmp ℕ) (homes2 : List ℕ) → ReleasesSlot from (n - 2) new new2 left left2 → Marked new2 homes2 → Sweeps from slots new2 keys (finmap.get left2) list homes2 at
    sweep_on new2 left2 homes2 r m = record {
      preceding = parts.0;
      rest = ys;
      split = parts.1.0;
      here = ahead;
      marked = m;
      some = sweep_step from slots keys kd (λ q. not (has (node_of_slot q) s.rest)) new left s.some (n - 2)
          (ap not (ap (λ z. has z s.rest) at_node.node ∙ ap (has n) next_of.1 ∙ ap (λ z. z || has n ys) (eq-eqb n n refl)))
          new2 left2 r (λ q. not (has (node_of_slot q) ys))
          (ap not (ap (λ z. has z ys) at_node.node ∙ once_part n s.preceding ys once))
          (λ q ne. ap not (sym (ap (has (node_of_slot q)) next_of.1 ∙ ap (λ z. z || has (node_of_slot q) ys) (ne_eqb n (node_of_slot q) (λ z. ne (let w = at_node.node in omega (arith, z, w)))))));
    }

-- one held operation: its row is written, and its slot leaves the list if it is released
pub node_marked : (from : ℕ) (slots new : List Row) (keys left : finmap.FinMap nat_cmp ℕ) (lists : List (List ℕ)) (homes homes2 : List ℕ) → Laws lists homes → Marked slots homes → (n : ℕ) → has n (list_at lists 0) ≡ true
    → ReleasesSlot from (n - 2) slots new keys left → (b : Bool) → is_given from (row_at slots (n - 2)) ≡ b → homes2 ≡ (if b then set homes n free else homes) → Marked new homes2
node_marked from slots new keys left lists homes homes2 laws m n e r true g eh =
    let a = held_node slots lists homes laws m n e in
    let it = node_item slots lists homes laws m n 0 (λ f. omega (arith, f)) e in
    let own : row_at new (n - 2) ≡ vacated (row_at slots (n - 2)) = r.own ∙ ap {A = Bool} {B = Row} (λ c. if c then vacated (row_at slots (n - 2)) else row_at slots (n - 2)) g in
    let none : mark (row_at new (n - 2)) ≡ None = ap mark own ∙ ap (λ l. if l then (if has_gone none_gone then Some 1 else None) else None) a.live in
    marked_edit slots new homes homes2 (n - 2) m (omega (arith, it.inside, a.node)) r.others
    (eh ∙ ap (λ z. set homes z free) (sym a.node) ∙ ap (λ z. set homes (node_of_slot (n - 2)) (home_of z)) (sym none))
node_marked from slots new keys left lists homes homes2 laws m n e r false g eh =
    let same : (q : ℕ) → row_at new q ≡ row_at slots q = λ q. ⊎_elim
    (λ z. ap (row_at new) z ∙ r.own ∙ ap {A = Bool} {B = Row} (λ c. if c then vacated (row_at slots (n - 2)) else row_at slots (n - 2)) g ∙ ap (row_at slots) (sym z))
    (λ z. r.others q z) (cases_eq q (n - 2)) in
    subst (Marked new) (sym eh) (marked_same slots new homes m (λ q. ap mark (same q)) (λ q. ap (λ z. z.used) (same q)))

-- the slots of removed keys, operation by operation
pub record Forgot (slots new : List Row) (homes : List ℕ) : Type 0 where
  pub long : length new ≡ length slots
  pub same : (q : ℕ) → forgetting (row_at new q) ≡ forgetting (row_at slots q)
  pub marked : Marked new homes

pub forgot_end : (slots new : List Row) (lists : List (List ℕ)) (homes : List ℕ) → Laws lists homes → Forgot slots new homes → None ≡ slice_get (list_at lists 1) 0 → Forgets slots new
forgot_end slots new lists homes laws f e = record {
  long = f.long;
  all = λ q. sym (not_lacking new lists homes laws f.marked q (ap (has (node_of_slot q)) (go (list_at lists 1) e))) ∙ f.same q;
}
  where
    go : (xs : List ℕ) → None ≡ slice_get xs 0 → xs ≡ []
    go [] g = refl
    go (x ∷ xs) g = absurd cc

module _ (slots : List Row) (items : List Row) (lists : List (List ℕ)) (homes : List ℕ) (laws : Laws lists homes) (n : ℕ) (en : Some n ≡ slice_get (list_at lists 1) 0) (f : Forgot slots items homes) where
  head_is : (ys : List ℕ) × (list_at lists 1 ≡ n ∷ ys)
  head_is = go (list_at lists 1) en
    where
      go : (xs : List ℕ) → Some n ≡ slice_get xs 0 → (ys : List ℕ) × (xs ≡ n ∷ ys)
      go [] e = absurd cc
      go (x ∷ xs) e = let f : x ≡ n = cc in (xs, ap (λ z. z ∷ xs) f)

  there : has n (list_at lists 1) ≡ true
  there = ap (has n) head_is.1 ∙ ap (λ b. b || has n head_is.0) (eq-eqb n n refl)

  lack_node : AtNode items n false
  lack_node = lacking_node items lists homes laws f.marked n there

  pub forget_inside : n - 2 < length items
  forget_inside = lack_node.inside

  pub forget_two : 2 ≤ n
  forget_two = let w = lack_node.node in omega (arith, w)

  pub forget_item : IsItem homes n
  forget_item = node_item items lists homes laws f.marked n 1 (λ g. omega (arith, g)) there

  pub forget_live : (row_at items (n - 2)).live ≡ true
  forget_live = lack_node.live

  pub forget_less : length (without n (list_at lists 1)) < length (list_at lists 1)
  forget_less =
      let o : Once (n ∷ head_is.0) = subst Once head_is.1 (laws.once 1) in
      omega (arith, ap length (ap (without n) head_is.1 ∙ without_part n [] head_is.0 o), ap length head_is.1)

  module _ (new : List Row) (en2 : new ≡ set items (n - 2) (record (row_at items (n - 2)) { gone = none_gone })) (homes2 : List ℕ) (eh : homes2 ≡ set homes n free) where
    own : row_at new (n - 2) ≡ record (row_at items (n - 2)) { gone = none_gone }
    own = ap (λ z. row_at z (n - 2)) en2 ∙ own_row items (n - 2) (record (row_at items (n - 2)) { gone = none_gone }) forget_inside

    other : (q : ℕ) → (q ≡ n - 2 → ⊥) → row_at new q ≡ row_at items q
    other q ne = ap (λ z. row_at z q) en2 ∙ other_row items (n - 2) (record (row_at items (n - 2)) { gone = none_gone }) q ne

    none : mark (row_at new (n - 2)) ≡ None
    none = ap mark own ∙ ap (λ l. if l then None else (if (row_at items (n - 2)).used then Some 0 else None)) lack_node.live

    pub forget_on : Forgot slots new homes2
    forget_on = record {
      long = ap length en2 ∙ length-set items (n - 2) (record (row_at items (n - 2)) { gone = none_gone }) ∙ f.long;
      same = λ q. ⊎_elim
          (λ z. ap (λ w. forgetting (row_at new w)) z ∙ ap forgetting own
          ∙ ap {A = Bool} {B = Row} (λ l. if l then record (row_at items (n - 2)) { gone = none_gone } else record (row_at items (n - 2)) { gone = none_gone }) lack_node.live
          ∙ sym (ap {A = Bool} {B = Row} (λ l. if l then record (row_at items (n - 2)) { gone = none_gone } else row_at items (n - 2)) lack_node.live)
          ∙ f.same (n - 2) ∙ ap (λ w. forgetting (row_at slots w)) (sym z))
          (λ z. ap forgetting (other q z) ∙ f.same q)
          (cases_eq q (n - 2));
      marked = marked_edit items new homes homes2 (n - 2) f.marked (let w = lack_node.node in omega (arith, w, forget_item.inside)) other
          (eh ∙ ap (λ z. set homes z free) (sym lack_node.node) ∙ ap (λ z. set homes (node_of_slot (n - 2)) (home_of z)) (sym none));
    }

-- both
pub released_some : (from : ℕ) (slots new : List Row) (keys left : ℕ → Option ℕ) → eqb from 0 ≡ false → GivenUp from slots new keys left → Released from slots new keys left
released_some from slots new keys left z g = record {
  long = g.long;
  all = λ q. g.all q ∙ go q (is_given from (row_at slots q)) (row_at slots q).live;
  key = g.key;
}
  where
    go : (q : ℕ) (c l : Bool) → (if c then vacated (row_at slots q) else row_at slots q) ≡ (if c then vacated (row_at slots q) else (if l && eqb from 0 then record (row_at slots q) { gone = none_gone } else row_at slots q))
    go q true l = refl
    go q false false = refl
    go q false true = sym (ap {A = Bool} {B = Row} (λ b. if b then record (row_at slots q) { gone = none_gone } else row_at slots q) z)

pub released_all : (from : ℕ) (slots new new2 : List Row) (keys left : ℕ → Option ℕ) → eqb from 0 ≡ true → GivenUp from slots new keys left → Forgets new new2 → Released from slots new2 keys left
released_all from slots new new2 keys left z g f = record {
  long = f.long ∙ g.long;
  all = λ q. f.all q ∙ ap forgetting (g.all q) ∙ go q (is_given from (row_at slots q)) (row_at slots q).live refl refl;
  key = g.key;
}
  where
    go : (q : ℕ) (c l : Bool) → is_given from (row_at slots q) ≡ c → (row_at slots q).live ≡ l → forgetting (if c then vacated (row_at slots q) else row_at slots q)
        ≡ (if c then vacated (row_at slots q) else (if l && eqb from 0 then record (row_at slots q) { gone = none_gone } else row_at slots q))
    go q true l e h = ap {A = Bool} {B = Row} (λ b. if b then record (vacated (row_at slots q)) { gone = none_gone } else vacated (row_at slots q)) (given_live (row_at slots q).used (row_at slots q).live (not (nat_lt (row_at slots q).head.id from)) e)
      where
        given_live : (u l b : Bool) → (u && (not l && b)) ≡ true → l ≡ false
        given_live true false b e = refl
        given_live true true b e = absurd (false≢true e)
        given_live false l b e = absurd (false≢true e)
    go q false false e h = ap {A = Bool} {B = Row} (λ b. if b then record (row_at slots q) { gone = none_gone } else row_at slots q) h
    go q false true e h = ap {A = Bool} {B = Row} (λ b. if b then record (row_at slots q) { gone = none_gone } else row_at slots q) h
        ∙ sym (ap {A = Bool} {B = Row} (λ b. if b then record (row_at slots q) { gone = none_gone } else row_at slots q) z)
