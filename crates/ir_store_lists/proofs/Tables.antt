-- The effect of a write to a table on the map that it represents.
use Rattle.std.proofs.Common.{◌≡◌, ℕ, ◌+◌, ◌<◌, ◌≤◌, List, [], ◌∷◌, ◌++◌, set, get_or, refl, sym, ap, ◌∙◌, length, true, false, eqb, cond, nat_lt, ⊎_elim, arith, Option, Some, None, Result, Ok, Err, MatchResult, OnOk, OnErr}
use Rattle.std.specs.Ordering.{nat_cmp, eq_by_cmp}
use Rattle.std.specs.Cmp.{nat_cmp_total}
use Rattle.std.specs.FinMap as map
use Rattle.std.proofs.Math.ListN.{replicate}
use Rattle.std.proofs.Math.Seq.{get_or-append_seam}
use Rattle.std.proofs.lemmas.Bool.{cases_eq, cases_lt, eq-eqb, ne_eqb, cond-true, cond-false, lt-ltb, le-ltb}
use Rattle.std.proofs.lemmas.Bool.Decides.{nat_tests}
use Rattle.std.proofs.lemmas.List.{get_or_past, get_or-set_same, get_or-set_other, length-set, length-append, get_or_append_left, get_or-replicate, length-replicate}
use Rattle.std.specs.declared.alloc.AllocError.{AllocError}
use Rattle.ir_store_lists.specs.Slots.{no_slot, slot_of, slot_in, MapOf, map_is}

pub eq_nat : (a b : ℕ) → eq_by_cmp nat_cmp a b ≡ eqb a b
eq_nat a b = grind (arith, nat_tests)

-- the entry of id k in a function, changed
abbrev pub changed : ℕ → Option ℕ → (ℕ → Option ℕ) → ℕ → Option ℕ
changed k o f x = cond (eqb x k) o (f x)

-- a write to the list
pub near_changed : (near : List ℕ) (far : ℕ → Option ℕ) (k n : ℕ) → k < length near → (x : ℕ) → slot_in (set near k n) far x ≡ changed k (slot_of n) (slot_in near far) x
near_changed near far k n l x = ⊎_elim
    (λ e.
    let here : nat_lt x (length (set near k n)) ≡ true = lt-ltb x (length (set near k n)) (omega (arith, l, e, length-set near k n)) in
    cond-true _ (slot_of (get_or (set near k n) x no_slot)) (far x) here
    ∙ ap (λ z. slot_of (get_or (set near k n) z no_slot)) e
    ∙ ap slot_of (get_or-set_same near k n no_slot l)
    ∙ sym (cond-true (eqb x k) (slot_of n) (slot_in near far x) (eq-eqb x k e)))
    (λ n'.
    (λ i. cond (nat_lt x (length-set near k n i)) (slot_of (get_or-set_other near k x n no_slot n' i)) (far x))
    ∙ sym (cond-false (eqb x k) (slot_of n) (slot_in near far x) (ne_eqb x k n')))
    (cases_eq x k)

-- an entry appended to the list
pub near_grown : (near : List ℕ) (far : ℕ → Option ℕ) (k n : ℕ) → k ≡ length near → (x : ℕ) → slot_in (near ++ n ∷ []) far x ≡ changed k (slot_of n) (slot_in near far) x
near_grown near far k n l x = ⊎_elim
    (λ e.
    cond-true _ (slot_of (get_or (near ++ n ∷ []) x no_slot)) (far x) (lt-ltb x (length (near ++ n ∷ [])) (omega (arith, l, e, long)))
    ∙ ap (λ z. slot_of (get_or (near ++ n ∷ []) z no_slot)) (e ∙ l)
    ∙ ap slot_of (get_or-append_seam near n [] no_slot)
    ∙ sym (cond-true (eqb x k) (slot_of n) (slot_in near far x) (eq-eqb x k e)))
    (λ ne. ⊎_elim
    (λ b.
    cond-true _ (slot_of (get_or (near ++ n ∷ []) x no_slot)) (far x) (lt-ltb x (length (near ++ n ∷ [])) (omega (arith, b, long)))
    ∙ ap slot_of (get_or_append_left near (n ∷ []) no_slot x b)
    ∙ sym (cond-true _ (slot_of (get_or near x no_slot)) (far x) (lt-ltb x (length near) b))
    ∙ sym (cond-false (eqb x k) (slot_of n) (slot_in near far x) (ne_eqb x k ne)))
    (λ g.
    cond-false _ (slot_of (get_or (near ++ n ∷ []) x no_slot)) (far x) (le-ltb x (length (near ++ n ∷ [])) (above g ne))
    ∙ sym (cond-false _ (slot_of (get_or near x no_slot)) (far x) (le-ltb x (length near) g))
    ∙ sym (cond-false (eqb x k) (slot_of n) (slot_in near far x) (ne_eqb x k ne)))
    (cases_lt x (length near)))
    (cases_eq x k)
  where
    long : length (near ++ n ∷ []) ≡ length near + 1
    long = length-append near (n ∷ [])

    above : length near ≤ x → (x ≡ k → ⊥) → length (near ++ n ∷ []) ≤ x
    above g ne = ⊎_elim (λ b. omega (arith, b, long)) (λ h. absurd (ne (omega (arith, g, h, l)))) (cases_lt (length near) x)

-- a write to the map of the other ids
pub far_changed : (near : List ℕ) (far far' : ℕ → Option ℕ) (k : ℕ) (o : Option ℕ) → length near ≤ k → ((x : ℕ) → far' x ≡ cond (eqb x k) o (far x)) → (x : ℕ) → slot_in near far' x ≡ changed k o (slot_in near far) x
far_changed near far far' k o l w x = ⊎_elim
    (λ b.
    cond-true _ (slot_of (get_or near x no_slot)) (far' x) (lt-ltb x (length near) b)
    ∙ sym (cond-true _ (slot_of (get_or near x no_slot)) (far x) (lt-ltb x (length near) b))
    ∙ sym (cond-false (eqb x k) o (slot_in near far x) (ne_eqb x k (λ e. omega arith))))
    (λ g.
    cond-false _ (slot_of (get_or near x no_slot)) (far' x) (le-ltb x (length near) g)
    ∙ w x
    ∙ ap (cond (eqb x k) o) (sym (cond-false _ (slot_of (get_or near x no_slot)) (far x) (le-ltb x (length near) g))))
    (cases_lt x (length near))

module _ (f g : ℕ → Option ℕ) (k : ℕ) (m : MapOf f) where
  -- the map with one more entry, and with one fewer
  pub inserted : (n : ℕ) → ((x : ℕ) → g x ≡ changed k (Some n) f x) → (x : ℕ) → map.get (map.insert m.0 k n) x ≡ g x
  inserted n w x = map.get-insert nat_cmp_total m.0 k n x ∙ (λ i. cond (eq_nat x k i) (Some n) (m.1 x i)) ∙ sym (w x)

  pub removed : ((x : ℕ) → g x ≡ changed k None f x) → (x : ℕ) → map.get (map.remove m.0 k) x ≡ g x
  removed w x = map.get-remove nat_cmp_total m.0 k x ∙ (λ i. cond (eq_nat x k i) None (m.1 x i)) ∙ sym (w x)

pub some_slot : (n : ℕ) → n < no_slot → slot_of n ≡ Some n
some_slot n l = cond-false (eqb n no_slot) None (Some n) (ne_eqb n no_slot (λ e. omega arith))

-- an empty table
pub none_in : (near : List ℕ) (far : ℕ → Option ℕ) (n : ℕ) → near ≡ replicate n no_slot → ((x : ℕ) → far x ≡ None) → (x : ℕ) → map.get (map.empty {X = ℕ} {R = nat_cmp}) x ≡ slot_in near far x
none_in near far n e w x = map.get-empty {X = ℕ} nat_cmp x ∙ sym (⊎_elim
    (λ b.
    cond-true _ (slot_of (get_or near x no_slot)) (far x) (lt-ltb x (length near) b)
    ∙ ap slot_of (ap (λ z. get_or z x no_slot) e ∙ nothing n x)
    ∙ cond-true (eqb no_slot no_slot) None (Some no_slot) (eq-eqb no_slot no_slot refl))
    (λ g. cond-false _ (slot_of (get_or near x no_slot)) (far x) (le-ltb x (length near) g) ∙ w x)
    (cases_lt x (length near)))
  where
    nothing : (n x : ℕ) → get_or (replicate n no_slot) x no_slot ≡ no_slot
    nothing n x = ⊎_elim (λ b. get_or-replicate n x no_slot no_slot b) (λ g. get_or_past (replicate n no_slot) x no_slot (omega (arith, length-replicate n no_slot))) (cases_lt x n)

pub far_same : (near : List ℕ) (far far' : ℕ → Option ℕ) → ((x : ℕ) → far' x ≡ far x) → (x : ℕ) → slot_in near far' x ≡ slot_in near far x
far_same near far far' w x = ap (cond (nat_lt x (length near)) (slot_of (get_or near x no_slot))) (w x)

-- a write that may have been refused
abbrev pub Put : (far far' : ℕ → Option ℕ) (k n : ℕ) → Result (Unit {0}) AllocError → Type 0
Put far far' k n r = MatchResult r (λ _. (x : ℕ) → far' x ≡ cond (eqb x k) (Some n) (far x)) (λ _. (x : ℕ) → far' x ≡ far x)

module _ (near : List ℕ) (far far' : ℕ → Option ℕ) (k n : ℕ) (l : length near ≤ k) (m : MapOf (slot_in near far)) where
  pub put_known : (r : Result (Unit {0}) AllocError) → Put far far' k n r → MapOf (slot_in near far')
  put_known (Ok u) w = (map.insert m.0 k n, inserted (slot_in near far) (slot_in near far') k m n (far_changed near far far' k (Some n) l w))
  put_known (Err u) w = (m.0, λ x. m.1 x ∙ sym (far_same near far far' w x))

  pub put_inserted : (v : map.FinMap nat_cmp ℕ) → m.0 ≡ v → (y : MapOf (slot_in near far')) (r : Result (Unit {0}) AllocError) → Put far far' k n r → OnOk r (y.0 ≡ map.insert v k n)
  put_inserted v e y (Ok u) w = map_is (slot_in near far') y (map.insert m.0 k n) (inserted (slot_in near far) (slot_in near far') k m n (far_changed near far far' k (Some n) l w)) ∙ ap (λ z. map.insert z k n) e
  put_inserted v e y (Err u) w = tt

  pub put_refused : (v : map.FinMap nat_cmp ℕ) → m.0 ≡ v → (y : MapOf (slot_in near far')) (r : Result (Unit {0}) AllocError) → Put far far' k n r → OnErr r (y.0 ≡ v)
  put_refused v e y (Ok u) w = tt
  put_refused v e y (Err u) w = map_is (slot_in near far') y m.0 (λ x. m.1 x ∙ sym (far_same near far far' w x)) ∙ e

-- an entry appended to the list that may have been refused
abbrev pub Add : (near near' : List ℕ) (n : ℕ) → Result (Unit {0}) AllocError → Type 0
Add near near' n r = MatchResult r (λ _. near' ≡ near ++ n ∷ []) (λ _. near' ≡ near)

module _ (near near' : List ℕ) (far : ℕ → Option ℕ) (k n : ℕ) (l : k ≡ length near) (slot : n < no_slot) (m : MapOf (slot_in near far)) where
  grown : near' ≡ near ++ n ∷ [] → (x : ℕ) → map.get (map.insert m.0 k n) x ≡ slot_in near' far x
  grown e = inserted (slot_in near far) (slot_in near' far) k m n
      (λ x. ap (λ z. slot_in z far x) e ∙ near_grown near far k n l x ∙ ap (λ o. changed k o (slot_in near far) x) (some_slot n slot))

  pub add_known : (r : Result (Unit {0}) AllocError) → Add near near' n r → MapOf (slot_in near' far)
  add_known (Ok u) w = (map.insert m.0 k n, grown w)
  add_known (Err u) w = (m.0, λ x. m.1 x ∙ ap (λ z. slot_in z far x) (sym w))

  pub add_inserted : (v : map.FinMap nat_cmp ℕ) → m.0 ≡ v → (y : MapOf (slot_in near' far)) (r : Result (Unit {0}) AllocError) → Add near near' n r → OnOk r (y.0 ≡ map.insert v k n)
  add_inserted v e y (Ok u) w = map_is (slot_in near' far) y (map.insert m.0 k n) (grown w) ∙ ap (λ z. map.insert z k n) e
  add_inserted v e y (Err u) w = tt

  pub add_refused : (v : map.FinMap nat_cmp ℕ) → m.0 ≡ v → (y : MapOf (slot_in near' far)) (r : Result (Unit {0}) AllocError) → Add near near' n r → OnErr r (y.0 ≡ v)
  add_refused v e y (Ok u) w = tt
  add_refused v e y (Err u) w = map_is (slot_in near' far) y m.0 (λ x. m.1 x ∙ ap (λ z. slot_in z far x) (sym w)) ∙ e
