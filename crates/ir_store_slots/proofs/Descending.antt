-- Slots are freed by id, in descending order.
use Rattle.std.proofs.Common.{◌≡◌, ℕ, suc, ◌<◌, ◌≤◌, List, refl, sym, ap, ◌∙◌, subst, Bool, true, false, not, ◌&&◌, ◌||◌, eqb, arith, Option, Some, None, ⊎_elim}
use Rattle.std.specs.Prelude.{if◌then◌else◌, nat_lt}
use Rattle.std.specs.Ordering.{nat_cmp}
use Rattle.std.specs.FinMap as finmap
use Rattle.std.proofs.lemmas.Bool.{cases_eq, cases_lt, eq-eqb, ne_eqb}
use Rattle.std.proofs.lemmas.Bool.Decides.{nat_tests}
use Rattle.ir_store_slots.specs.Releases.{is_given, key_so_far, IsKeyed, ReleasesId, ReleasesSlot, ReleasesSome, GivenUp}
use Rattle.ir_store_slots.specs.Rows.{Row, row_at}
use Rattle.ir_store_slots.specs.Marks.{Marked}
use Rattle.ir_store_slots.proofs.Items.{some_same}
use Rattle.ir_store_slots.proofs.Sweeping.{sweep_start, sweep_all, sweep_step, sweep_wider, given_used, given_from}

-- the slots of ids from a number on were visited
pub record Descends (from end : ℕ) (slots new : List Row) (keys left : ℕ → Option ℕ) (homes : List ℕ) : Type 0 where
  pub few : end ≤ 4294967296
  pub marked : Marked new homes
  pub some : ReleasesSome from (λ q. not (nat_lt (row_at slots q).head.id end)) slots new keys left

at_least : (a b : ℕ) → not (nat_lt a b) ≡ true → b ≤ a
at_least a b e = grind (arith, nat_tests, e)

not_less : (a b : ℕ) → b ≤ a → not (nat_lt a b) ≡ true
not_less a b l = grind (arith, nat_tests, l)

less_other : (a b : ℕ) → (a ≡ b → ⊥) → nat_lt a b ≡ nat_lt a (suc b)
less_other a b ne = ⊎_elim
    (λ l. less a b l ∙ sym (less a (suc b) (omega (arith, l))))
    (λ g. more a b g ∙ sym (more a (suc b) (⊎_elim (λ l. l) (λ h. absurd (ne (omega (arith, g, h)))) (cases_lt b a))))
    (cases_lt a b)
  where
    less : (x y : ℕ) → x < y → nat_lt x y ≡ true
    less x y l = grind (arith, nat_tests, l)

    more : (x y : ℕ) → y ≤ x → nat_lt x y ≡ false
    more x y l = grind (arith, nat_tests, l)

less_next : (b : ℕ) → nat_lt b (suc b) ≡ true
less_next b = grind (arith, nat_tests)

module _ (from : ℕ) (slots : List Row) (keys : ℕ → Option ℕ) (kd : IsKeyed slots keys) where
  -- a released slot has an id in the table
  keyed : (q : ℕ) → is_given from (row_at slots q) ≡ true → keys (row_at slots q).head.id ≡ Some q
  keyed q g = kd.keyed q (given_used from slots q g)

  pub descends_start : (end : ℕ) → end ≤ 4294967296 → ((x : ℕ) → end ≤ x → keys x ≡ None) → (homes : List ℕ) → Marked slots homes → Descends from end slots slots keys keys homes
  descends_start end few none homes m = record {
    few = few;
    marked = m;
    some = sweep_start from slots keys kd (λ q. not (nat_lt (row_at slots q).head.id end)) (λ q e. spared q e (is_given from (row_at slots q)) refl);
  }
    where
      spared : (q : ℕ) → not (nat_lt (row_at slots q).head.id end) ≡ true → (b : Bool) → is_given from (row_at slots q) ≡ b → is_given from (row_at slots q) ≡ false
      spared q e false g = g
      spared q e true g =
          let bad : ◌≡◌ {A = Option ℕ} (Some q) None = sym (keyed q g) ∙ none (row_at slots q).head.id (at_least (row_at slots q).head.id end e) in
          absurd cc

  pub descends_end : (end : ℕ) → end ≤ from → (new : List Row) (left : ℕ → Option ℕ) (homes : List ℕ) → Descends from end slots new keys left homes → GivenUp from slots new keys left
  descends_end end l new left homes d = sweep_all from slots keys kd (λ q. true) new left (λ q. refl)
      (sweep_wider from slots keys kd (λ q. not (nat_lt (row_at slots q).head.id end)) (λ q. true) new left
      (λ q g. let f = given_from from slots q g in sym (not_less (row_at slots q).head.id end (omega (arith, l, f)))) d.some)

  module _ (id : ℕ) (new : List Row) (left : finmap.FinMap nat_cmp ℕ) (homes : List ℕ) (d : Descends from (suc id) slots new keys (finmap.get left) homes) where
    abbrev before : ℕ → Bool
    before q = not (nat_lt (row_at slots q).head.id (suc id))

    abbrev trailing : ℕ → Bool
    trailing q = not (nat_lt (row_at slots q).head.id id)

    -- the earlier slots, and one more
    abbrev more : ℕ → ℕ → Bool
    more k q = before q || eqb q k

    -- other ids are unchanged
    apart : (q : ℕ) → ((row_at slots q).head.id ≡ id → ⊥) → trailing q ≡ before q
    apart q ne = ap not (less_other (row_at slots q).head.id id ne)

    unseen : (k : ℕ) → keys id ≡ Some k → before k ≡ false
    unseen k e = ap (λ z. not (nat_lt z (suc id))) (kd.known id k e).id ∙ ap not (less_next id)

    module _ (new2 : List Row) (left2 : finmap.FinMap nat_cmp ℕ) (homes2 : List ℕ) (m : Marked new2 homes2) where
      abbrev Goes : Type 0
      Goes = Descends from id slots new2 keys (finmap.get left2) homes2

      goes : ReleasesSome from trailing slots new2 keys (finmap.get left2) → Goes
      goes s = record { few = let f = d.few in omega (arith, f); marked = m; some = s }

      -- the id has no slot
      without : finmap.get left id ≡ None → new2 ≡ new → left2 ≡ left → Goes
      without e en el = goes (subst (λ z. ReleasesSome from trailing slots z keys (finmap.get left2)) (sym en)
          (subst (λ z. ReleasesSome from trailing slots new keys (finmap.get z)) (sym el)
          (sweep_wider from slots keys kd before trailing new (finmap.get left) (λ q g. apart q (other q g)) d.some)))
        where
          other : (q : ℕ) → is_given from (row_at slots q) ≡ true → (row_at slots q).head.id ≡ id → ⊥
          other q g i =
              let here : keys id ≡ Some q = ap keys (sym i) ∙ keyed q g in
              let bad : ◌≡◌ {A = Option ℕ} None (Some q) = sym e ∙ d.some.key id ∙ ap (key_so_far from before slots) here
              ∙ ap {A = Bool} {B = Option ℕ} (λ b. if b && is_given from (row_at slots q) then None else Some q) (unseen q here) in
              absurd cc

      -- the id has a slot
      with_slot : (k : ℕ) → keys id ≡ Some k → ReleasesSlot from k new new2 left left2 → Goes
      with_slot k here r = goes (sweep_wider from slots keys kd (more k) trailing new2 (finmap.get left2) alike
          (sweep_step from slots keys kd before new left d.some k (unseen k here) new2 left2 r (more k)
          (ap (λ b. before k || b) (eq-eqb k k refl) ∙ or_true (before k))
          (λ q ne. ap (λ b. before q || b) (ne_eqb q k ne) ∙ or_none (before q))))
        where
          or_true : (b : Bool) → (b || true) ≡ true
          or_true true = refl
          or_true false = refl

          or_none : (b : Bool) → (b || false) ≡ b
          or_none true = refl
          or_none false = refl

          alike : (q : ℕ) → is_given from (row_at slots q) ≡ true → trailing q ≡ more k q
          alike q g = ⊎_elim
              (λ z.
              let i : (row_at slots q).head.id ≡ id = ap (λ w. (row_at slots w).head.id) z ∙ (kd.known id k here).id in
              not_less (row_at slots q).head.id id (omega (arith, i)) ∙ sym (ap (λ b. before q || b) (eq-eqb q k z) ∙ or_true (before q)))
              (λ z. apart q (λ i. z (some_same q k (sym (keyed q g) ∙ ap keys i ∙ here))) ∙ sym (ap (λ b. before q || b) (ne_eqb q k z) ∙ or_none (before q)))
              (cases_eq q k)

      slot_is : (k : ℕ) → finmap.get left id ≡ Some k → (o : Option ℕ) → keys id ≡ o → keys id ≡ Some k
      slot_is k e None f =
          let bad : ◌≡◌ {A = Option ℕ} (Some k) None = sym e ∙ d.some.key id ∙ ap (key_so_far from before slots) f in
          absurd cc
      slot_is k e (Some j) f = f ∙ sym (sym e ∙ d.some.key id ∙ ap (key_so_far from before slots) f
          ∙ ap {A = Bool} {B = Option ℕ} (λ b. if b && is_given from (row_at slots j) then None else Some j) (unseen j f))

      pub descends_on : (o : Option ℕ) → finmap.get left id ≡ o → ReleasesId from o new new2 left left2 → Goes
      descends_on None e r = without e r.0 r.1
      descends_on (Some k) e r = with_slot k (slot_is k e (keys id) refl) r
