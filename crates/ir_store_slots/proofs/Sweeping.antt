-- Slots are freed one by one.
use Rattle.std.proofs.Common.{◌≡◌, ℕ, ◌<◌, ◌≤◌, List, refl, sym, ap, ◌∙◌, length, Bool, true, false, not, ◌&&◌, arith, eqb, cond, Option, Some, None, ⊎_elim, set}
use Rattle.std.specs.Prelude.{if◌then◌else◌, nat_lt}
use Rattle.std.specs.Ordering.{nat_cmp}
use Rattle.std.specs.Cmp.{nat_cmp_total}
use Rattle.std.specs.FinMap as finmap
use Rattle.std.proofs.lemmas.Bool.{cases_eq, eq-eqb, ne_eqb, cond-true, cond-false, false≢true}
use Rattle.std.proofs.lemmas.Bool.Decides.{nat_tests}
use Rattle.std.proofs.lemmas.List.{length-set}
use Rattle.ir_store_slots.specs.Releases.{is_given, given_up, key_left, key_so_far, IsKeyed, ReleasesSlot, ReleasesSome, GivenUp}
use Rattle.ir_store_slots.specs.Rows.{Row, row_at}
use Rattle.ir_store_arena.specs.Rows.{vacated}
use Rattle.ir_store_slots.specs.Right.{Used}
use Rattle.ir_store_slots.proofs.Items.{other_row, own_row}
use Rattle.ir_store_slots.proofs.Items.{some_same}
use Rattle.ir_store_slots.proofs.Items.{eq_nat}

-- one slot, in the form of a call's contract
pub slot_given : (from k : ℕ) (slots new : List Row) → k < length slots → is_given from (row_at slots k) ≡ true → new ≡ set slots k (vacated (row_at slots k))
    → (keys left : finmap.FinMap nat_cmp ℕ) → left ≡ finmap.remove keys (row_at slots k).head.id → ReleasesSlot from k slots new keys left
slot_given from k slots new l g e keys left el = record {
  long = ap length e ∙ length-set slots k (vacated (row_at slots k));
  own = ap (λ z. row_at z k) e ∙ own_row slots k (vacated (row_at slots k)) l ∙ sym (ap {A = Bool} {B = Row} (λ b. if b then vacated (row_at slots k) else row_at slots k) g);
  others = λ q ne. ap (λ z. row_at z q) e ∙ other_row slots k (vacated (row_at slots k)) q ne;
  key = el ∙ sym (ap (λ b. if b then finmap.remove keys (row_at slots k).head.id else keys) g);
}

pub slot_stays : (from k : ℕ) (slots : List Row) → is_given from (row_at slots k) ≡ false → (keys : finmap.FinMap nat_cmp ℕ) → ReleasesSlot from k slots slots keys keys
slot_stays from k slots g keys = record {
  long = refl;
  own = sym (ap {A = Bool} {B = Row} (λ b. if b then vacated (row_at slots k) else row_at slots k) g);
  others = λ q ne. refl;
  key = sym (ap (λ b. if b then finmap.remove keys (row_at slots k).head.id else keys) g);
}

used_given : (u b : Bool) → (u && b) ≡ true → u ≡ true
used_given true b e = refl
used_given false b e = absurd (false≢true e)

given_at : (u l b : Bool) → (u && (not l && b)) ≡ true → b ≡ true
given_at true false b e = e
given_at true true b e = absurd (false≢true e)
given_at false l b e = absurd (false≢true e)

-- a released slot holds an operation, with an id from there on
pub given_used : (from : ℕ) (slots : List Row) (q : ℕ) → is_given from (row_at slots q) ≡ true → Used slots q
given_used from slots q g = record { used = used_given (row_at slots q).used _ g }

pub given_from : (from : ℕ) (slots : List Row) (q : ℕ) → is_given from (row_at slots q) ≡ true → from ≤ (row_at slots q).head.id
given_from from slots q g =
    let e = given_at (row_at slots q).used (row_at slots q).live (not (nat_lt (row_at slots q).head.id from)) g in
    grind (arith, nat_tests, e)

module _ (from : ℕ) (slots : List Row) (keys : ℕ → Option ℕ) (kd : IsKeyed slots keys) where
  pub sweep_start : (seen : ℕ → Bool) → ((q : ℕ) → seen q ≡ true → is_given from (row_at slots q) ≡ false) → ReleasesSome from seen slots slots keys keys
  sweep_start seen spared = record {
    long = refl;
    past = λ q e. sym (ap {A = Bool} {B = Row} (λ b. if b then vacated (row_at slots q) else row_at slots q) (spared q e));
    ahead = λ q e. refl;
    key = λ y. go (keys y);
  }
    where
      test : (k : ℕ) (b c : Bool) → (b ≡ true → c ≡ false) → Some k ≡ (if b && c then None else Some k)
      test k true true e = absurd (false≢true (sym (e refl)))
      test k true false e = refl
      test k false c e = refl

      go : (o : Option ℕ) → o ≡ key_so_far from seen slots o
      go None = refl
      go (Some k) = test k (seen k) (is_given from (row_at slots k)) (spared k)

  pub sweep_all : (seen : ℕ → Bool) (new : List Row) (left : ℕ → Option ℕ) → ((q : ℕ) → seen q ≡ true) → ReleasesSome from seen slots new keys left → GivenUp from slots new keys left
  sweep_all seen new left all s = record {
    long = s.long;
    all = λ q. s.past q (all q);
    key = λ y. s.key y ∙ go (keys y);
  }
    where
      go : (o : Option ℕ) → key_so_far from seen slots o ≡ key_left from slots o
      go None = refl
      go (Some k) = ap {A = Bool} {B = Option ℕ} (λ b. if b && is_given from (row_at slots k) then None else Some k) (all k)

  -- the test may change on slots that aren't released
  pub sweep_wider : (seen more : ℕ → Bool) (new : List Row) (left : ℕ → Option ℕ) → ((q : ℕ) → is_given from (row_at slots q) ≡ true → more q ≡ seen q) → ReleasesSome from seen slots new keys left → ReleasesSome from more slots new keys left
  sweep_wider seen more new left alike s = record {
    long = s.long;
    past = λ q e. by_test q (λ b. row_at new q ≡ given_up from (row_at slots q)) (λ g. s.past q (sym (alike q g) ∙ e)) (λ g. same q g ∙ sym (stays q g));
    ahead = λ q e. by_test q (λ b. row_at new q ≡ row_at slots q) (λ g. s.ahead q (sym (alike q g) ∙ e)) (λ g. same q g);
    key = λ y. s.key y ∙ go (keys y);
  }
    where
      by_test : (q : ℕ) (P : Bool → Type 0) → (is_given from (row_at slots q) ≡ true → P true) → (is_given from (row_at slots q) ≡ false → P true) → P true
      by_test q P yes' no' = pick (is_given from (row_at slots q)) yes' no'
        where
          pick : (b : Bool) → (b ≡ true → P true) → (b ≡ false → P true) → P true
          pick true f g = f refl
          pick false f g = g refl

      stays : (q : ℕ) → is_given from (row_at slots q) ≡ false → given_up from (row_at slots q) ≡ row_at slots q
      stays q g = ap {A = Bool} {B = Row} (λ b. if b then vacated (row_at slots q) else row_at slots q) g

      same : (q : ℕ) → is_given from (row_at slots q) ≡ false → row_at new q ≡ row_at slots q
      same q g = seen_or (seen q) (λ e. s.past q e ∙ stays q g) (s.ahead q)
        where
          seen_or : (b : Bool) → (b ≡ true → row_at new q ≡ row_at slots q) → (b ≡ false → row_at new q ≡ row_at slots q) → row_at new q ≡ row_at slots q
          seen_or true f g = f refl
          seen_or false f g = g refl

      tests : (k : ℕ) (a b c : Bool) → (c ≡ true → b ≡ a) → ◌≡◌ {A = Option ℕ} (if a && c then None else Some k) (if b && c then None else Some k)
      tests k a b true f = ap {A = Bool} {B = Option ℕ} (λ z. if z && true then None else Some k) (sym (f refl))
      tests k true true false f = refl
      tests k true false false f = refl
      tests k false true false f = refl
      tests k false false false f = refl

      go : (o : Option ℕ) → key_so_far from seen slots o ≡ key_so_far from more slots o
      go None = refl
      go (Some k) = tests k (seen k) (more k) (is_given from (row_at slots k)) (alike k)

  module _ (seen : ℕ → Bool) (new : List Row) (left : finmap.FinMap nat_cmp ℕ) (s : ReleasesSome from seen slots new keys (finmap.get left))
      (k : ℕ) (unseen : seen k ≡ false) (new2 : List Row) (left2 : finmap.FinMap nat_cmp ℕ) (r : ReleasesSlot from k new new2 left left2)
      (more : ℕ → Bool) (now : more k ≡ true) (before : (q : ℕ) → (q ≡ k → ⊥) → more q ≡ seen q) where
    was : row_at new k ≡ row_at slots k
    was = s.ahead k unseen

    key_at : (o : Option ℕ) (b : Bool) → (ℕ → Bool) → Option ℕ
    key_at None b p = None
    key_at (Some j) b p = if p j && b then None else Some j

    key_step : (b : Bool) → is_given from (row_at slots k) ≡ b → left2 ≡ (if b then finmap.remove left (row_at slots k).head.id else left) → (y : ℕ) → finmap.get left2 y ≡ key_so_far from more slots (keys y)
    key_step false g e y = ap (λ m. finmap.get m y) e ∙ s.key y ∙ go (keys y)
      where
        go : (o : Option ℕ) → key_so_far from seen slots o ≡ key_so_far from more slots o
        go None = refl
        go (Some j) = ⊎_elim
            (λ z. let n : is_given from (row_at slots j) ≡ false = ap (λ w. is_given from (row_at slots w)) z ∙ g in
            ap {A = Bool} {B = Option ℕ} (λ b. if seen j && b then None else Some j) n ∙ both (seen j) (more j) ∙ sym (ap {A = Bool} {B = Option ℕ} (λ b. if more j && b then None else Some j) n))
            (λ z. ap {A = Bool} {B = Option ℕ} (λ b. if b && is_given from (row_at slots j) then None else Some j) (sym (before j z)))
            (cases_eq j k)
          where
            both : (a b : Bool) → (if a && false then None else Some j) ≡ (if b && false then None else Some j)
            both true true = refl
            both true false = refl
            both false true = refl
            both false false = refl
    key_step true g e y =
        ap (λ m. finmap.get m y) e ∙ finmap.get-remove nat_cmp_total left (row_at slots k).head.id y ∙ ap (λ b. cond b None (finmap.get left y)) (eq_nat y (row_at slots k).head.id)
        ∙ ap (cond (eqb y (row_at slots k).head.id) None) (s.key y) ∙ go (keys y) refl
      where
        here : keys (row_at slots k).head.id ≡ Some k
        here = kd.keyed k (record { used = used_given (row_at slots k).used _ g })

        go : (o : Option ℕ) → keys y ≡ o → cond (eqb y (row_at slots k).head.id) None (key_so_far from seen slots o) ≡ key_so_far from more slots o
        go None f = none (eqb y (row_at slots k).head.id)
          where
            none : (b : Bool) → ◌≡◌ {A = Option ℕ} (cond b None None) None
            none true = refl
            none false = refl
        go (Some j) f = ⊎_elim
            (λ z.
            let id : y ≡ (row_at slots k).head.id = sym (kd.known y j f).id ∙ ap (λ w. (row_at slots w).head.id) z in
            cond-true (eqb y (row_at slots k).head.id) None (key_so_far from seen slots (Some j)) (eq-eqb y (row_at slots k).head.id id)
            ∙ sym (ap {A = Bool} {B = Option ℕ} (λ b. if b && is_given from (row_at slots j) then None else Some j) (ap more z ∙ now)
            ∙ ap {A = Bool} {B = Option ℕ} (λ b. if b then None else Some j) (ap (λ w. is_given from (row_at slots w)) z ∙ g)))
            (λ z.
            let ne : y ≡ (row_at slots k).head.id → ⊥ = λ w. z (some_same j k (sym f ∙ ap keys w ∙ here)) in
            cond-false (eqb y (row_at slots k).head.id) None (key_so_far from seen slots (Some j)) (ne_eqb y (row_at slots k).head.id ne)
            ∙ ap {A = Bool} {B = Option ℕ} (λ b. if b && is_given from (row_at slots j) then None else Some j) (sym (before j z)))
            (cases_eq j k)

    pub sweep_step : ReleasesSome from more slots new2 keys (finmap.get left2)
    sweep_step = record {
      long = r.long ∙ s.long;
      past = λ q e. ⊎_elim
          (λ z. ap (row_at new2) z ∙ r.own ∙ ap (given_up from) (was ∙ ap (row_at slots) (sym z)))
          (λ z. r.others q z ∙ s.past q (sym (before q z) ∙ e))
          (cases_eq q k);
      ahead = λ q e.
          let ne : q ≡ k → ⊥ = λ z. false≢true (sym e ∙ ap more z ∙ now) in
          r.others q ne ∙ s.ahead q (sym (before q ne) ∙ e);
      key = key_step (is_given from (row_at slots k)) refl (r.key ∙ ap (λ z. if is_given from z then finmap.remove left z.head.id else left) was);
    }
