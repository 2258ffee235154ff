-- The entries of a map from ids after a write.
use Rattle.std.proofs.Common.{Result, Ok, Err, MatchResult, OnOk, OnErr, is_none, append-nil, length-append, Bool, ◌≡◌, ◌⊎◌, inl, inr, ℕ, zero, suc, ◌+◌, ◌<◌, ◌≤◌, true, false, cond, eqb, List, [], ◌∷◌, ◌++◌, length, get_or, set, Option, Some, None, is_some, refl, sym, ap, ◌∙◌, subst, arith, eq-eqb, ne_eqb, Ordering, Less, Equal, Greater, nat_cmp, is_eq}
use Rattle.std.specs.Ordering.{match_ordering, MatchOrdering}
use Rattle.std.specs.Cmp.{ranks, unsigned_tied}
use Rattle.std.specs.BTreeMap.{BTreeMap, is_at, insert_entry}
use Rattle.std.specs.BTreeMap as tree
use Rattle.std.specs.Bool.{OnTrue}
use Rattle.std.specs.declared.alloc.AllocError.{AllocError}
use Rattle.std.specs.Map.{lookup, set_value}
use Rattle.std.proofs.lemmas.Bool.{cases_lt, cases_eq, cond-true, cond-false}
use Rattle.std.proofs.lemmas.List.{get_or-set_same, get_or-set_other, length-set, nil_from_length}
use Rattle.listeners_support.specs.Map.{entries_from, AreAfter}
use Rattle.listeners_support.proofs.Lookups.{less_is, equal_is, greater_is, look, look_here, look_past, From, none_below, from_less, from_entries, found_near, found_far, after_from, after_kept}

module _ {V : Type 0} where
  -- an entry before all others is inserted at the front
  insert_first : (n x : ℕ) (v : V) (es : List (ℕ × V)) → x < n → From n es → insert_entry nat_cmp es x v ≡ (x, v) ∷ es
  insert_first n x v [] l f = refl
  insert_first n x v (e ∷ es) l f =
      let first : n ≤ e.0 = f.0 in
      ap (λ r. match_ordering r ((x, v) ∷ e ∷ es) ((e.0, v) ∷ es) (e ∷ insert_entry nat_cmp es x v)) (less_is x e.0 (omega (arith, l, first)))

  -- an entry after the first stays after it
  insert_after : (x y : ℕ) (v w : V) (es : List (ℕ × V)) → y < x → insert_entry nat_cmp ((y, w) ∷ es) x v ≡ (y, w) ∷ insert_entry nat_cmp es x v
  insert_after x y v w es l = ap (λ r. match_ordering r ((x, v) ∷ (y, w) ∷ es) ((y, v) ∷ es) ((y, w) ∷ insert_entry nat_cmp es x v)) (greater_is x y l)

  pub insert_near : (n i : ℕ) (slots : List (Option V)) (far : List (ℕ × V)) (v : V) → i < length slots → From (n + length slots) far
      → entries_from n (set slots i (Some v)) ++ far ≡ insert_entry nat_cmp (entries_from n slots ++ far) (n + i) v
  insert_near n i [] far v l f = absurd (omega (arith, l))
  insert_near n zero (None ∷ slots) far v l f =
      let rest = entries_from (n + 1) slots ++ far in
      sym (ap (λ x. insert_entry nat_cmp rest x v) (omega arith) ∙ insert_first (n + 1) n v rest (omega arith) (from_entries (n + 1) slots far (from_less (n + 1 + length slots) (n + length (None ∷ slots)) far (omega arith) f)))
  insert_near n zero (Some w ∷ slots) far v l f =
      let rest = entries_from (n + 1) slots ++ far in
      sym (ap (λ x. insert_entry nat_cmp ((n, w) ∷ rest) x v) (omega arith) ∙ ap (λ r. match_ordering r ((n, v) ∷ (n, w) ∷ rest) ((n, v) ∷ rest) ((n, w) ∷ insert_entry nat_cmp rest n v)) (equal_is n))
  insert_near n (suc i) (None ∷ slots) far v l f =
      insert_near (n + 1) i slots far v (omega (arith, l)) (from_less (n + 1 + length slots) (n + length (None ∷ slots)) far (omega arith) f)
      ∙ ap (λ x. insert_entry nat_cmp (entries_from (n + 1) slots ++ far) x v) (omega arith)
  insert_near n (suc i) (Some w ∷ slots) far v l f =
      let rest = entries_from (n + 1) slots ++ far in
      ap (λ es. (n, w) ∷ es) (insert_near (n + 1) i slots far v (omega (arith, l)) (from_less (n + 1 + length slots) (n + length (Some w ∷ slots)) far (omega arith) f)
      ∙ ap (λ x. insert_entry nat_cmp rest x v) (omega arith))
      ∙ sym (insert_after (n + suc i) n v w rest (omega arith))

  pub insert_far : (n x : ℕ) (slots : List (Option V)) (far : List (ℕ × V)) (v : V) → n + length slots ≤ x
      → entries_from n slots ++ insert_entry nat_cmp far x v ≡ insert_entry nat_cmp (entries_from n slots ++ far) x v
  insert_far n x [] far v l = refl
  insert_far n x (None ∷ slots) far v l = insert_far (n + 1) x slots far v (omega (arith, l))
  insert_far n x (Some w ∷ slots) far v l =
      ap (λ es. (n, w) ∷ es) (insert_far (n + 1) x slots far v (omega (arith, l)))
      ∙ sym (insert_after x n v w (entries_from (n + 1) slots ++ far) (omega (arith, l)))

  -- an inserted entry is found, and each other as before
  pub insert_looks : (x : ℕ) (v : V) (es : List (ℕ × V)) (y : ℕ) → look (insert_entry nat_cmp es x v) y ≡ cond (is_at (nat_cmp x) y) (Some v) (look es y)
  insert_looks x v [] y = turned
    where
      turned : look ((x, v) ∷ []) y ≡ cond (is_at (nat_cmp x) y) (Some v) None
      turned = elim (cases_eq y x) [
        | inl e ↦ ap (look ((x, v) ∷ [])) e ∙ look_here x v [] ∙ sym (ap (λ b. cond b (Some v) None) (unsigned_tied x y ∙ eq-eqb x y (sym e)))
        | inr n ↦ look_past y x v [] n ∙ sym (ap (λ b. cond b (Some v) None) (unsigned_tied x y ∙ ne_eqb x y (λ e. n (sym e))))
      ]
  insert_looks x v (e ∷ es) y = go (nat_cmp x e.0) refl (ranks x e.0) (insert_looks x v es y) (cases_eq y x)
    where
      new : List (ℕ × V)
      new = insert_entry nat_cmp es x v

      at : x ≡ y → is_at (nat_cmp x) y ≡ true
      at q = unsigned_tied x y ∙ eq-eqb x y q

      off : (x ≡ y → ⊥) → is_at (nat_cmp x) y ≡ false
      off n = unsigned_tied x y ∙ ne_eqb x y n

      is : (r : Ordering) → nat_cmp x e.0 ≡ r → insert_entry nat_cmp (e ∷ es) x v ≡ match_ordering r ((x, v) ∷ e ∷ es) ((e.0, v) ∷ es) (e ∷ new)
      is r q = ap (λ s. match_ordering s ((x, v) ∷ e ∷ es) ((e.0, v) ∷ es) (e ∷ new)) q

      go : (r : Ordering) → nat_cmp x e.0 ≡ r → MatchOrdering (nat_cmp x e.0) (x < e.0) (x ≡ e.0) (e.0 < x) → look new y ≡ cond (is_at (nat_cmp x) y) (Some v) (look es y) → (y ≡ x) ⊎ (y ≡ x → ⊥)
          → look (insert_entry nat_cmp (e ∷ es) x v) y ≡ cond (is_at (nat_cmp x) y) (Some v) (look (e ∷ es) y)
      go Less q m later (inl s) = ap (λ l. look l y) (is Less q) ∙ ap (look ((x, v) ∷ e ∷ es)) s ∙ look_here x v (e ∷ es) ∙ sym (ap (λ b. cond b (Some v) (look (e ∷ es) y)) (at (sym s)))
      go Less q m later (inr n) = ap (λ l. look l y) (is Less q) ∙ look_past y x v (e ∷ es) n ∙ sym (ap (λ b. cond b (Some v) (look (e ∷ es) y)) (off (λ s. n (sym s))))
      go Equal q m later (inl s) =
          let same : x ≡ e.0 = subst (λ r. MatchOrdering r (x < e.0) (x ≡ e.0) (e.0 < x)) q m in
          ap (λ l. look l y) (is Equal q) ∙ ap (look ((e.0, v) ∷ es)) (s ∙ same) ∙ look_here e.0 v es ∙ sym (ap (λ b. cond b (Some v) (look (e ∷ es) y)) (at (sym s)))
      go Equal q m later (inr n) =
          let same : x ≡ e.0 = subst (λ r. MatchOrdering r (x < e.0) (x ≡ e.0) (e.0 < x)) q m in
          let other : y ≡ e.0 → ⊥ = λ s. n (s ∙ sym same) in
          ap (λ l. look l y) (is Equal q) ∙ look_past y e.0 v es other ∙ sym (look_past y e.0 e.1 es other) ∙ sym (ap (λ b. cond b (Some v) (look (e ∷ es) y)) (off (λ s. n (sym s))))
      go Greater q m later (inl s) =
          let less : e.0 < x = subst (λ r. MatchOrdering r (x < e.0) (x ≡ e.0) (e.0 < x)) q m in
          ap (λ l. look l y) (is Greater q) ∙ look_past y e.0 e.1 new (λ t. omega (arith, t, s, less)) ∙ later ∙ ap (λ b. cond b (Some v) (look es y)) (at (sym s)) ∙ sym (ap (λ b. cond b (Some v) (look (e ∷ es) y)) (at (sym s)))
      go Greater q m later (inr n) =
          ap (λ l. look l y) (is Greater q)
          ∙ ap (λ o. cond (is_at (nat_cmp y) e.0) (Some e.1) o) (later ∙ ap (λ b. cond b (Some v) (look es y)) (off (λ s. n (sym s))))
          ∙ sym (ap (λ b. cond b (Some v) (look (e ∷ es) y)) (off (λ s. n (sym s))))

  -- the value of an id in the list is written in place
  pub set_near : (n i : ℕ) (slots : List (Option V)) (far : List (ℕ × V)) (v w : V) → i < length slots → get_or slots i None ≡ Some v
      → entries_from n (set slots i (Some w)) ++ far ≡ set_value (is_at (nat_cmp (n + i))) (entries_from n slots ++ far) w
  set_near n i [] far v w l h = absurd (omega (arith, l))
  set_near n zero (None ∷ slots) far v w l h = absurd (let bad : None ≡ Some v = h in cc)
  set_near n zero (Some u ∷ slots) far v w l h =
      let rest = entries_from (n + 1) slots ++ far in
      sym (ap (λ b. cond b ((n, w) ∷ rest) ((n, u) ∷ set_value (is_at (nat_cmp (n + 0))) rest w)) (unsigned_tied (n + 0) n ∙ eq-eqb (n + 0) n (omega arith)))
  set_near n (suc i) (None ∷ slots) far v w l h =
      set_near (n + 1) i slots far v w (omega (arith, l)) h
      ∙ ap (λ x. set_value (is_at (nat_cmp x)) (entries_from (n + 1) slots ++ far) w) (omega arith)
  set_near n (suc i) (Some u ∷ slots) far v w l h =
      let rest = entries_from (n + 1) slots ++ far in
      ap (λ es. (n, u) ∷ es) (set_near (n + 1) i slots far v w (omega (arith, l)) h ∙ ap (λ x. set_value (is_at (nat_cmp x)) rest w) (omega arith))
      ∙ sym (ap (λ b. cond b ((n, w) ∷ rest) ((n, u) ∷ set_value (is_at (nat_cmp (n + suc i))) rest w)) (unsigned_tied (n + suc i) n ∙ ne_eqb (n + suc i) n (λ q. omega (arith, q))))

  pub set_far : (n x : ℕ) (slots : List (Option V)) (far : List (ℕ × V)) (w : V) → n + length slots ≤ x
      → entries_from n slots ++ set_value (is_at (nat_cmp x)) far w ≡ set_value (is_at (nat_cmp x)) (entries_from n slots ++ far) w
  set_far n x [] far w l = refl
  set_far n x (None ∷ slots) far w l = set_far (n + 1) x slots far w (omega (arith, l))
  set_far n x (Some u ∷ slots) far w l =
      let rest = entries_from (n + 1) slots ++ far in
      ap (λ es. (n, u) ∷ es) (set_far (n + 1) x slots far w (omega (arith, l)))
      ∙ sym (ap (λ b. cond b ((n, w) ∷ rest) ((n, u) ∷ set_value (is_at (nat_cmp x)) rest w)) (unsigned_tied x n ∙ ne_eqb x n (λ q. omega (arith, q, l))))

  -- a written place of the list
  pub near_updated : (x : ℕ) (o : Option V) (slots : List (Option V)) (far : List (ℕ × V)) → x < length slots → From (length slots) far
      → (y : ℕ) → look (entries_from 0 (set slots x o) ++ far) y ≡ cond (is_at (nat_cmp x) y) o (look (entries_from 0 slots ++ far) y)
  near_updated x o slots far l f y = go (cases_lt y (length slots)) (cases_eq y x)
    where
      new : List (Option V)
      new = set slots x o

      long : length new ≡ length slots
      long = length-set slots x o

      now : y < length slots → look (entries_from 0 new ++ far) y ≡ get_or new y None
      now b = ap (look (entries_from 0 new ++ far)) (omega arith) ∙ found_near 0 y new far (omega (arith, b, long)) (from_less (0 + length new) (length slots) far (omega (arith, long)) f)

      was : y < length slots → look (entries_from 0 slots ++ far) y ≡ get_or slots y None
      was b = ap (look (entries_from 0 slots ++ far)) (omega arith) ∙ found_near 0 y slots far b (from_less (0 + length slots) (length slots) far (omega arith) f)

      go : (y < length slots) ⊎ (length slots ≤ y) → (y ≡ x) ⊎ (y ≡ x → ⊥) → look (entries_from 0 new ++ far) y ≡ cond (is_at (nat_cmp x) y) o (look (entries_from 0 slots ++ far) y)
      go (inl b) (inl e) =
          now b ∙ ap (λ z. get_or new z None) e ∙ get_or-set_same slots x o None l ∙ sym (ap (λ b. cond b o (look (entries_from 0 slots ++ far) y)) (unsigned_tied x y ∙ eq-eqb x y (sym e)))
      go (inl b) (inr n) =
          now b ∙ get_or-set_other slots x y o None n ∙ sym (was b) ∙ sym (ap (λ b. cond b o (look (entries_from 0 slots ++ far) y)) (unsigned_tied x y ∙ ne_eqb x y (λ e. n (sym e))))
      go (inr g) q =
          found_far 0 y new far (omega (arith, g, long))
          ∙ sym (found_far 0 y slots far (omega (arith, g)))
          ∙ sym (ap (λ b. cond b o (look (entries_from 0 slots ++ far) y)) (unsigned_tied x y ∙ ne_eqb x y (λ e. omega (arith, e, g, l))))

  -- a written id past the list
  pub far_updated : (x : ℕ) (o : Option V) (slots : List (Option V)) (far later : List (ℕ × V)) → length slots ≤ x → From (length slots) far
      → ((y : ℕ) → look later y ≡ cond (is_at (nat_cmp x) y) o (look far y)) → From (length slots) later
      → (y : ℕ) → look (entries_from 0 slots ++ later) y ≡ cond (is_at (nat_cmp x) y) o (look (entries_from 0 slots ++ far) y)
  far_updated x o slots far later l f h g y = go (cases_lt y (length slots))
    where
      go : (y < length slots) ⊎ (length slots ≤ y) → look (entries_from 0 slots ++ later) y ≡ cond (is_at (nat_cmp x) y) o (look (entries_from 0 slots ++ far) y)
      go (inl b) =
          ap (look (entries_from 0 slots ++ later)) (omega arith)
          ∙ found_near 0 y slots later b (from_less (0 + length slots) (length slots) later (omega arith) g)
          ∙ sym (found_near 0 y slots far b (from_less (0 + length slots) (length slots) far (omega arith) f))
          ∙ ap (look (entries_from 0 slots ++ far)) (omega arith)
          ∙ sym (ap (λ b. cond b o (look (entries_from 0 slots ++ far) y)) (unsigned_tied x y ∙ ne_eqb x y (λ e. omega (arith, e, b, l))))
      go (inr q) =
          found_far 0 y slots later (omega (arith, q)) ∙ h y ∙ ap (cond (is_at (nat_cmp x) y) o) (sym (found_far 0 y slots far (omega (arith, q))))

module _ {V : Type 0} where
  -- ids without values give no entries
  pub passed : (n : ℕ) (slots : List (Option V)) → entries_from n (slots ++ None ∷ []) ≡ entries_from n slots
  passed n [] = refl
  passed n (None ∷ slots) = passed (n + 1) slots
  passed n (Some v ∷ slots) = ap (λ es. (n, v) ∷ es) (passed (n + 1) slots)

  pub added : (n : ℕ) (slots : List (Option V)) (v : V) → entries_from n (slots ++ Some v ∷ []) ≡ entries_from n slots ++ (n + length slots, v) ∷ []
  added n [] v = ap (λ x. (x, v) ∷ []) (omega arith)
  added n (None ∷ slots) v = added (n + 1) slots v ∙ ap (λ x. entries_from (n + 1) slots ++ (x, v) ∷ []) (omega arith)
  added n (Some w ∷ slots) v = ap (λ es. (n, w) ∷ es) (added (n + 1) slots v ∙ ap (λ x. entries_from (n + 1) slots ++ (x, v) ∷ []) (omega arith))

-- ---- calls that may be refused
module _ {V : Type 0} where
  pub passed_by : (r : Result (Unit {0}) AllocError) (old new : List (Option V)) → MatchResult r (λ _. new ≡ old ++ None ∷ []) (λ _. new ≡ old) → (x : ℕ) → entries_from x new ≡ entries_from x old
  passed_by (Ok u) old new e x = ap (entries_from x) e ∙ passed x old
  passed_by (Err u) old new e x = ap (entries_from x) e

  pub longer_by : (r : Result (Unit {0}) AllocError) (old new : List (Option V)) → MatchResult r (λ _. new ≡ old ++ None ∷ []) (λ _. new ≡ old) → OnOk r (length new ≡ length old + 1)
  longer_by (Ok u) old new e = ap length e ∙ length-append old (None ∷ [])
  longer_by (Err u) old new e = tt

  pub added_by : (r : Result (Unit {0}) AllocError) (old mid new : List (Option V)) (x : ℕ) (v : V) → entries_from 0 mid ≡ entries_from 0 old → length mid ≡ x → MatchResult r (λ _. new ≡ mid ++ Some v ∷ []) (λ _. new ≡ mid)
      → OnOk r (entries_from 0 new ≡ entries_from 0 old ++ (x, v) ∷ [])
  added_by (Ok u) old mid new x v same long e =
      let at : 0 + length mid ≡ x = omega (arith, long) in
      ap (entries_from 0) e ∙ added 0 mid v ∙ (λ i. same i ++ (at i, v) ∷ [])
  added_by (Err u) old mid new x v same long e = tt

  pub refused_by : (r : Result (Unit {0}) AllocError) (old mid new : List (Option V)) (v : V) → entries_from 0 mid ≡ entries_from 0 old → MatchResult r (λ _. new ≡ mid ++ Some v ∷ []) (λ _. new ≡ mid)
      → OnErr r (entries_from 0 new ≡ entries_from 0 old)
  refused_by (Ok u) old mid new v same e = tt
  refused_by (Err u) old mid new v same e = ap (entries_from 0) e ∙ same

  pub near_inserted : (slots : List (Option V)) (far : BTreeMap ℕ V) (x : ℕ) (v : V) → AreAfter (length slots) far → x < length slots
      → entries_from 0 (set slots x (Some v)) ++ far.entries ≡ insert_entry nat_cmp (entries_from 0 slots ++ far.entries) x v
  near_inserted slots far x v b l =
      insert_near 0 x slots far.entries v l (from_less (0 + length slots) (length slots) far.entries (omega arith) (after_from (length slots) far b))
      ∙ ap (λ y. insert_entry nat_cmp (entries_from 0 slots ++ far.entries) y v) (omega arith)

  pub add_inserted : (r : Result (Unit {0}) AllocError) (slots new : List (Option V)) (far : BTreeMap ℕ V) (x : ℕ) (v : V) → length far.entries ≡ 0 → length slots ≤ x → OnOk r (entries_from 0 new ≡ entries_from 0 slots ++ (x, v) ∷ [])
      → OnOk r (entries_from 0 new ++ far.entries ≡ insert_entry nat_cmp (entries_from 0 slots ++ far.entries) x v)
  add_inserted (Ok u) slots new far x v none l e =
      let nothing = nil_from_length far.entries none in
      (λ i. e i ++ nothing i)
      ∙ append-nil (entries_from 0 slots ++ (x, v) ∷ [])
      ∙ insert_far 0 x slots [] v (omega (arith, l))
      ∙ ap (λ fs. insert_entry nat_cmp (entries_from 0 slots ++ fs) x v) (sym nothing)
  add_inserted (Err u) slots new far x v none l e = tt

  pub put_inserted : (r : Result (Unit {0}) AllocError) (slots : List (Option V)) (far new : BTreeMap ℕ V) (x : ℕ) (v : V) → length slots ≤ x → OnOk r (new.entries ≡ insert_entry nat_cmp far.entries x v)
      → OnOk r (entries_from 0 slots ++ new.entries ≡ insert_entry nat_cmp (entries_from 0 slots ++ far.entries) x v)
  put_inserted (Ok u) slots far new x v l e = ap (λ fs. entries_from 0 slots ++ fs) e ∙ insert_far 0 x slots far.entries v (omega (arith, l))
  put_inserted (Err u) slots far new x v l e = tt

  pub looks_by : (r : Result (Unit {0}) AllocError) (old new : List (ℕ × V)) (x : ℕ) (v : V) → OnOk r (new ≡ insert_entry nat_cmp old x v) → OnOk r ((y : ℕ) → look new y ≡ cond (is_at (nat_cmp x) y) (Some v) (look old y))
  looks_by (Ok u) old new x v e = λ y. ap (λ es. look es y) e ∙ insert_looks x v old y
  looks_by (Err u) old new x v e = tt

  pub had_none : (o : Option V) → is_none o ≡ true → false ≡ is_some o
  had_none None e = refl
  had_none (Some v) e = e

  pub had_some : (o : Option V) → is_none o ≡ false → true ≡ is_some o
  had_some None e = e
  had_some (Some v) e = refl

  pub near_written : (slots : List (Option V)) (far : BTreeMap ℕ V) (x : ℕ) (w : V) → x < length slots → true ≡ is_some (get_or slots x None)
      → entries_from 0 (set slots x (Some w)) ++ far.entries ≡ set_value (is_at (nat_cmp x)) (entries_from 0 slots ++ far.entries) w
  near_written slots far x w l s = go (get_or slots x None) refl s
    where
      go : (o : Option V) → get_or slots x None ≡ o → true ≡ is_some o → entries_from 0 (set slots x (Some w)) ++ far.entries ≡ set_value (is_at (nat_cmp x)) (entries_from 0 slots ++ far.entries) w
      go None e t = absurd cc
      go (Some v) e t = set_near 0 x slots far.entries v w l e ∙ ap (λ y. set_value (is_at (nat_cmp y)) (entries_from 0 slots ++ far.entries) w) (omega arith)

  pub far_written : (b : Bool) (slots : List (Option V)) (far new : BTreeMap ℕ V) (x : ℕ) (w : V) → length slots ≤ x → OnTrue b (new.entries ≡ set_value (is_at (nat_cmp x)) far.entries w)
      → OnTrue b (entries_from 0 slots ++ new.entries ≡ set_value (is_at (nat_cmp x)) (entries_from 0 slots ++ far.entries) w)
  far_written true slots far new x w l e = ap (λ fs. entries_from 0 slots ++ fs) e ∙ set_far 0 x slots far.entries w (omega (arith, l))
  far_written false slots far new x w l e = tt

  pub far_looks : (b : Bool) (slots : List (Option V)) (far new : BTreeMap ℕ V) (x : ℕ) (w : V) → AreAfter (length slots) far → length slots ≤ x → OnTrue b (tree.Updates nat_cmp far new x (Some w))
      → OnTrue b ((y : ℕ) → look (entries_from 0 slots ++ new.entries) y ≡ cond (is_at (nat_cmp x) y) (Some w) (look (entries_from 0 slots ++ far.entries) y))
  far_looks true slots far new x w b l u =
      far_updated x (Some w) slots far.entries new.entries l (after_from (length slots) far b) u.0 (after_from (length slots) new (after_kept (length slots) x (Some w) far new l b u.0))
  far_looks false slots far new x w b l u = tt

  pub add_absent : (r : Result (Unit {0}) AllocError) (slots : List (Option V)) (far : BTreeMap ℕ V) (x : ℕ) → length far.entries ≡ 0 → length slots ≤ x → OnErr r (look (entries_from 0 slots ++ far.entries) x ≡ None)
  add_absent (Ok u) slots far x none l = tt
  add_absent (Err u) slots far x none l = found_far 0 x slots far.entries (omega (arith, l)) ∙ ap (λ es. look es x) (nil_from_length far.entries none)

  pub put_absent : (r : Result (Unit {0}) AllocError) (slots : List (Option V)) (far : BTreeMap ℕ V) (x : ℕ) → length slots ≤ x → OnErr r (look far.entries x ≡ None) → OnErr r (look (entries_from 0 slots ++ far.entries) x ≡ None)
  put_absent (Ok u) slots far x l e = tt
  put_absent (Err u) slots far x l e = found_far 0 x slots far.entries (omega (arith, l)) ∙ e
