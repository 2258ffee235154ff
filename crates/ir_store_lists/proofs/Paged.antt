-- The slots of pages stay correct after a slot is written.
use Rattle.std.proofs.Common.{◌≡◌, ℕ, ◌+◌, ◌≤◌, ◌<◌, ◌%◌, List, [], length, sym, ap, subst, ◌∙◌, eqb, ⊎_elim, arith, Option, Some, None, Result, Ok, Err, MatchResult}
use Rattle.std.specs.declared.alloc.AllocError.{AllocError}
use Rattle.std.proofs.lemmas.Bool.{cases_eq, eq-eqb, ne_eqb, cond-true, cond-false, le-ltb}
use Rattle.std.specs.Ordering.{nat_cmp}
use Rattle.std.specs.FinMap as finmap
use Rattle.ir_store_lists.specs.Slots.{no_slot, slot_in, EndsBy}
use Rattle.ir_store_lists.specs.declared.pages.IdPage.{IdPage}
use Rattle.ir_store_lists.specs.Pages.{no_page, trailing, slot_by, Forgotten, Learnt, AreSlots}
use Rattle.ir_store_lists.proofs.Tables.{changed, near_grown, far_changed, some_slot, far_same, Put, Add}

-- if there are no pages
pub no_pages : (pages : List IdPage) (f : ℕ → Option ℕ) → pages ≡ [] → AreSlots pages f
no_pages pages f e x n h =
    let none : slot_by [] x ≡ None = cond-false _ (Some (x + trailing no_page (x % 64))) None (le-ltb (x % 64) 0 (omega arith)) in
    let bad : ◌≡◌ {A = Option ℕ} (Some n) None = sym h ∙ ap (λ z. slot_by z x) e ∙ none in
    absurd cc

module _ (before after : List IdPage) (f g : ℕ → Option ℕ) (k : ℕ) (old : AreSlots before f) (but : Forgotten k before after) where
  pub others_paged : (o : Option ℕ) → ((x : ℕ) → g x ≡ changed k o f x) → AreSlots after g
  others_paged o w x n h = w x ∙ cond-false (eqb x k) o (f x) (ne_eqb x k (but x n h).1) ∙ old x n (but x n h).0

  pub same_paged : ((x : ℕ) → g x ≡ f x) → AreSlots after g
  same_paged w x n h = w x ∙ old x n (but x n h).0

  pub put_paged : (pages : List IdPage) (m : ℕ) → Learnt k m after pages → ((x : ℕ) → g x ≡ changed k (Some m) f x) → AreSlots pages g
  put_paged pages m more w x n h = ⊎_elim
      (λ a. others_paged (Some m) w x n a)
      (λ b. w x ∙ cond-true (eqb x k) (Some m) (f x) (eq-eqb x k b.0) ∙ ap Some b.1)
      (more x n h)

-- an entry, appended to the list or among the others, that may have been refused
module _ (near near' : List ℕ) (far : ℕ → Option ℕ) (k n : ℕ) (l : k ≡ length near) (slot : n < no_slot) (before after pages : List IdPage) (old : AreSlots before (slot_in near far)) (but : Forgotten k before after) where
  pub add_paged : (r : Result (Unit {0}) AllocError) → Add near near' n r → MatchResult r (λ _. Learnt k n after pages) (λ _. pages ≡ after) → AreSlots pages (slot_in near' far)
  add_paged (Ok u) w more = put_paged before after (slot_in near far) (slot_in near' far) k old but pages n more
      (λ x. ap (λ z. slot_in z far x) w ∙ near_grown near far k n l x ∙ ap (λ o. changed k o (slot_in near far) x) (some_slot n slot))
  add_paged (Err u) w same = subst (λ z. AreSlots z (slot_in near' far)) (sym same) (same_paged before after (slot_in near far) (slot_in near' far) k old but (λ x. ap (λ z. slot_in z far x) w))

module _ (near : List ℕ) (far far' : ℕ → Option ℕ) (k n : ℕ) (l : length near ≤ k) (before after : List IdPage) (old : AreSlots before (slot_in near far)) (but : Forgotten k before after) where
  pub far_paged : (r : Result (Unit {0}) AllocError) → Put far far' k n r → AreSlots after (slot_in near far')
  far_paged (Ok u) w = others_paged before after (slot_in near far) (slot_in near far') k old but (Some n) (far_changed near far far' k (Some n) l w)
  far_paged (Err u) w = same_paged before after (slot_in near far) (slot_in near far') k old but (far_same near far far' w)

-- a bound of the ids with a slot, after one is written
module _ (end more : ℕ) (f g : ℕ → Option ℕ) (k : ℕ) (old : EndsBy end f) where
  pub raised_ends : ((x : ℕ) → more ≤ x → (end ≤ x) × (k < x)) → (o : Option ℕ) → ((x : ℕ) → g x ≡ changed k o f x) → EndsBy more g
  raised_ends up o w x l = w x ∙ cond-false (eqb x k) o (f x) (ne_eqb x k (λ e. let a = (up x l).1 in omega (arith, a, e))) ∙ old x (up x l).0

  pub same_ends : ((x : ℕ) → more ≤ x → (end ≤ x) × (k < x)) → ((x : ℕ) → g x ≡ f x) → EndsBy more g
  same_ends up w x l = w x ∙ old x (up x l).0

  pub lowered_ends : ((x : ℕ) → more ≤ x → (x ≡ k → ⊥) → end ≤ x) → ((x : ℕ) → g x ≡ changed k None f x) → EndsBy more g
  lowered_ends down w x l = ⊎_elim
      (λ e. w x ∙ cond-true (eqb x k) None (f x) (eq-eqb x k e))
      (λ ne. w x ∙ cond-false (eqb x k) None (f x) (ne_eqb x k ne) ∙ old x (down x l ne))
      (cases_eq x k)

module _ (near near' : List ℕ) (far : ℕ → Option ℕ) (k n : ℕ) (l : k ≡ length near) (slot : n < no_slot) (end more : ℕ) (old : EndsBy end (slot_in near far)) (up : (x : ℕ) → more ≤ x → (end ≤ x) × (k < x)) where
  pub add_ends : (r : Result (Unit {0}) AllocError) → Add near near' n r → EndsBy more (slot_in near' far)
  add_ends (Ok u) w = raised_ends end more (slot_in near far) (slot_in near' far) k old up (Some n)
      (λ x. ap (λ z. slot_in z far x) w ∙ near_grown near far k n l x ∙ ap (λ o. changed k o (slot_in near far) x) (some_slot n slot))
  add_ends (Err u) w = same_ends end more (slot_in near far) (slot_in near' far) k old up (λ x. ap (λ z. slot_in z far x) w)

module _ (near : List ℕ) (far far' : ℕ → Option ℕ) (k n : ℕ) (l : length near ≤ k) (end more : ℕ) (old : EndsBy end (slot_in near far)) (up : (x : ℕ) → more ≤ x → (end ≤ x) × (k < x)) where
  pub far_ends : (r : Result (Unit {0}) AllocError) → Put far far' k n r → EndsBy more (slot_in near far')
  far_ends (Ok u) w = raised_ends end more (slot_in near far) (slot_in near far') k old up (Some n) (far_changed near far far' k (Some n) l w)
  far_ends (Err u) w = same_ends end more (slot_in near far) (slot_in near far') k old up (far_same near far far' w)

-- a table without ids
pub none_ends : (f : ℕ → Option ℕ) (m : finmap.FinMap nat_cmp ℕ) → m ≡ finmap.empty → ((x : ℕ) → finmap.get m x ≡ f x) → EndsBy 0 f
none_ends f m e w x l = sym (w x) ∙ ap (λ z. finmap.get z x) e ∙ finmap.get-empty {X = ℕ} nat_cmp x
