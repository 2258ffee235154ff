-- Operations that events reach up to an operation: of the later ones, only what is over them is listed.
use Rattle.std.proofs.Common.{◌≡◌, refl, ap, sym, ◌∙◌, subst, ℕ, Bool, true, false, true≢false, ◌||◌, eqb, eq-eqb, eqb-true, List, Some, None, inl, inr}
use Rattle.std.specs.Prelude.{option_map}
use Rattle.ir_event.specs.trees.declared.place.Place.{Place}
use Rattle.ir_event.specs.trees.Tree.{Op}
use Rattle.ir_event.specs.trees.Ids.{HasDistinctIds}
use Rattle.ir_event.specs.trees.Places.{place_of}
use Rattle.ir_event.specs.tree_laws.Reads.{precedes}
use Rattle.ir_event.specs.declared.event.Event.{Event}
use Rattle.ir_event.specs.declared.event.Event.TheVariants.{Put, Shift}
use Rattle.std.proofs.lemmas.Option.{none-some, same_Some}
use Rattle.greedy.specs.Reached.{at_end, ends, is_end}
use Rattle.greedy.specs.Adding.{Adds}
use Rattle.greedy.specs.Parts.{IsHanded, IsOrAtEnd, IsOrEnds, IsOver, IsReached, IsReachedUpTo, UpTo, leaves}
use Rattle.greedy.proofs.Adding.{adds_as}
use Rattle.greedy.proofs.Beyond.{then_after}
use Rattle.greedy.proofs.BlockEnds.{ending_place}
use Rattle.greedy.proofs.Following.{parent_precedes}
use Rattle.greedy.proofs.Reached.{around_is, around_none, around_not, is_or_ends}

module _ (t : Op) (d : HasDistinctIds t) where
  -- ---- what is over an operation is its parent
  handed_is : (y : ℕ) (place : Place) → Some place ≡ place_of y t → (x : ℕ) → IsHanded t y x → x ≡ place.parent
  handed_is y place e x h = sym h.2 ∙ ap (λ (p : Place). p.parent) (same_Some h.0 place (sym (e ∙ h.1)))

  pub over_is : (y : ℕ) (place : Place) → Some place ≡ place_of y t → (x : ℕ) → IsOver t y x → x ≡ place.parent
  over_is y place e x (inl k) = (around_is t d y place e x k).0
  over_is y place e x (inr h) = handed_is y place e x h

  pub over_none : (y : ℕ) → None ≡ place_of y t → (x : ℕ) → IsOver t y x → ⊥
  over_none y e x (inl k) = around_none t d y e x k
  over_none y e x (inr h) = none-some h.0 (e ∙ h.1)

  pub over_handed : (y : ℕ) (place : Place) (b : ℕ) → Some place ≡ place_of y t → place.before ≡ Some b → (x : ℕ) → IsOver t y x → IsHanded t y x
  over_handed y place b e f x (inl k) = absurd (around_not t d y place b e f x k)
  over_handed y place b e f x (inr h) = h

  -- the last operation of a block of p comes after p, and p is over it
  over_last : (p y x : ℕ) → ends p y t ≡ true → IsOver t y x → x ≡ p
  over_last p y x e o = (let w = ending_place t d p y e in over_is y (record { parent = p; region = w.0; before = None }) (sym w.1) x o)

  last_later : (passed p y : ℕ) → ends p y t ≡ true → precedes passed p t ≡ true → precedes passed y t ≡ true
  last_later passed p y e h = (let w = ending_place t d p y e in then_after t d passed p y h (parent_precedes t d y p (ap (option_map (λ (k : Place). k.parent)) w.1)))

  -- ---- an inserted operation
  pub inserted_later : (passed op : ℕ) (b : Bool) → b ≡ precedes passed op t → b ≡ true → (x : ℕ) → UpTo t passed (λ y. y ≡ op) x → IsOver t op x
  inserted_later passed op b e h x (n, inl k) = absurd (true≢false (sym (sym e ∙ h) ∙ ap (λ z. precedes passed z t) (sym k) ∙ n))
  inserted_later passed op b e h x (n, inr (y, k, p, o)) = subst (λ z. IsOver t z x) k o

  pub inserted_earlier : (passed op : ℕ) (b : Bool) → b ≡ precedes passed op t → b ≡ false → (x : ℕ) → UpTo t passed (λ y. y ≡ op) x → x ≡ op
  inserted_earlier passed op b e h x (n, inl k) = k
  inserted_earlier passed op b e h x (n, inr (y, k, p, o)) = absurd (true≢false (sym p ∙ ap (λ z. precedes passed z t) k ∙ sym e ∙ h))

  -- ---- a changed operation
  pub changed_later : (passed op : ℕ) (b : Bool) → b ≡ precedes passed op t → b ≡ true → (x : ℕ) → UpTo t passed (IsOrEnds op t) x → IsOver t op x
  changed_later passed op b e h x (n, inl k) = elim (is_or_ends op t x k) [
    | inl i ↦ absurd (true≢false (sym (sym e ∙ h) ∙ ap (λ z. precedes passed z t) (sym i) ∙ n))
    | inr f ↦ absurd (true≢false (sym (last_later passed op x f (sym e ∙ h)) ∙ n))
  ]
  changed_later passed op b e h x (n, inr (y, k, p, o)) = elim (is_or_ends op t y k) [
    | inl i ↦ subst (λ z. IsOver t z x) i o
    | inr f ↦ absurd (true≢false (sym (sym e ∙ h) ∙ ap (λ z. precedes passed z t) (sym (over_last op y x f o)) ∙ n))
  ]

  pub changed_earlier : (passed op : ℕ) (b : Bool) → b ≡ precedes passed op t → b ≡ false → (x : ℕ) → UpTo t passed (IsOrEnds op t) x → IsOrEnds op t x
  changed_earlier passed op b e h x (n, inl k) = k
  changed_earlier passed op b e h x (n, inr (y, k, p, o)) = elim (is_or_ends op t y k) [
    | inl i ↦ absurd (true≢false (sym p ∙ ap (λ z. precedes passed z t) i ∙ sym e ∙ h))
    | inr f ↦ ap (λ b. b || ends op x t) (eq-eqb op x (sym (over_last op y x f o)))
  ]

-- ---- by event
without_end : (a b : Bool) → b ≡ false → (a || b) ≡ true → a ≡ true
without_end true b e h = refl
without_end false b e h = absurd (true≢false (sym h ∙ e))

module _ (t : Op) (passed : ℕ) (xs ys : List ℕ) where
  -- a weaker property up to `passed`
  weaker : (P Q : ℕ → Type 0) → ((x : ℕ) → P x → Q x) → (x : ℕ) → UpTo t passed P x → UpTo t passed Q x
  weaker P Q f x (n, inl k) = (n, inl (f x k))
  weaker P Q f x (n, inr (y, k, p, o)) = (n, inr (y, f y k, p, o))

  pub staying : (e : Event) (P : ℕ → Type 0) → leaves e ≡ false → ((x : ℕ) → IsReached t e x → P x) → Adds (UpTo t passed P) xs ys → Adds (IsReachedUpTo t passed e) xs ys
  staying e P l f a = adds_as (IsReachedUpTo t passed e) (UpTo t passed P) xs ys (λ x k. elim k [
    | inl h ↦ absurd (true≢false (sym h.0 ∙ l))
    | inr h ↦ weaker (IsReached t e) P f x h.1
  ]) a

  pub leaving : (e : Event) (P : ℕ → Type 0) → leaves e ≡ true → ((x : ℕ) → IsReached t e x → P x) → Adds P xs ys → Adds (IsReachedUpTo t passed e) xs ys
  leaving e P l f a = adds_as (IsReachedUpTo t passed e) P xs ys (λ x k. elim k [
    | inl h ↦ f x h.1
    | inr h ↦ absurd (true≢false (sym l ∙ h.0))
  ]) a

-- what is reached by an event that inserts or removes an operation
pub put_reached : (t : Op) (op : ℕ) (place : Place) (fresh : Bool) (x : ℕ) → IsReached t (Put op place fresh) x → x ≡ op
put_reached t op place fresh x k = sym (eqb-true op x (without_end (eqb op x) (is_end place) k.0 k.1))

pub shift_reached : (t : Op) (op : ℕ) (old new : Place) (x : ℕ) → IsReached t (Shift op old new) x → IsOrAtEnd op old t x
shift_reached t op old new x k = without_middle (eqb op x) (is_end new) (at_end old x t) k.0 k.1
  where
    without_middle : (a b c : Bool) → b ≡ false → (a || (b || c)) ≡ true → (a || c) ≡ true
    without_middle true b c e h = refl
    without_middle false true c e h = absurd (true≢false e)
    without_middle false false c e h = h
