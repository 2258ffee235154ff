-- A rule doesn't apply if a value isn't the result of a constant.
use Rattle.std.proofs.Common.{◌≡◌, refl, ap, sym, ◌∙◌, ℕ, ◌<◌, List, [], ◌∷◌, length, eqb, Bool, true, false, Option, Some, None, inl, inr, ◌⊎◌, arith}
use Rattle.ir_event.specs.types.Things.{ContextModel}
use Rattle.ir_event.specs.trees.declared.value.Value.{Value}
use Rattle.ir_event.specs.trees.declared.place.Place.{Place}
use Rattle.ir_event.specs.trees.Tree.{Op, head}
use Rattle.ir_event.specs.trees.Ids.{HasDistinctIds, find}
use Rattle.ir_event.specs.trees.Meaning.{Operation, meaning}
use Rattle.ir_event.specs.tree_laws.Reads.{last_at}
use Rattle.patterns_plans.specs.Folds.{Known}
use Rattle.patterns_plans.specs.reads.Keeps.{given}
use Rattle.patterns_plans.specs.reads.Looks.{Ended, Header, body, is_verified, is_number, known, passes, when}
use Rattle.patterns_plans.specs.reads.Reads.{head_at}
use Rattle.patterns_plans.specs.reads.rules.Opening.{by_bounds, by_condition, by_end, loop_from, open_branch, open_loop, opened, stop_loop}
use Rattle.patterns_regions.specs.Blocks.{before_at, body_at}
use Rattle.patterns_regions.specs.RegionRules.{stop_loop_at}
use Rattle.patterns_regions.proofs.Bodies.{body_whole}

fails : {X : Type 0} (d : Bool) (r : Option X) → r ≡ None → when d r ≡ None
fails true r e = e
fails false r e = refl

fails_then : {X Y : Type 0} (r : Option X) (f : X → Option Y) → ((x : X) → f x ≡ None) → given r f ≡ None
fails_then None f e = refl
fails_then (Some x) f e = e x

no_given : {X Y : Type 0} (r : Option X) (f : X → Option Y) → None ≡ r → given r f ≡ None
no_given r f e = ap (λ z. given z f) (sym e)

no_number : (m : Operation) (v : Value) → None ≡ known m v → is_number m 0 v ≡ false
no_number m v k = ap (passes (λ (k : Known). eqb k.1 0)) (sym k)

-- `open-branch`
pub no_open_branch_shape : (m : Operation) (insertion : Place) (o : Operation) → (length (head o).operands ≡ 1 → ⊥) → open_branch m insertion o ≡ None
no_open_branch_shape m insertion o h = fails _ _ (go (head o).operands h)
  where
    go : (l : List Value) → (length l ≡ 1 → ⊥) → by_condition m insertion o l ≡ None
    go [] h = refl
    go (v ∷ []) h = absurd (h refl)
    go (v ∷ w ∷ l) h = refl

pub no_open_branch : (m : Operation) (insertion : Place) (o : Operation) (v : Value) → (head o).operands ≡ v ∷ [] → None ≡ known m v → open_branch m insertion o ≡ None
no_open_branch m insertion o v e k = fails _ _ (ap (by_condition m insertion o) e ∙ no_given (known m v) _ k)

-- `open-loop`
pub no_open_loop_shape : (m : Operation) (insertion : Place) (o : Operation) → length (head o).operands < 2 → open_loop m insertion o ≡ None
no_open_loop_shape m insertion o h = fails _ _ (go (head o).operands h)
  where
    go : (l : List Value) → length l < 2 → given (loop_from l) (by_bounds m insertion o) ≡ None
    go [] h = refl
    go (v ∷ []) h = refl
    go (v ∷ w ∷ l) h = absurd (omega (arith, h))

by_loop : (m : Operation) (insertion : Place) (o : Operation) (v w : Value) (l : List Value) → (None ≡ known m v) ⊎ (None ≡ known m w) → given (loop_from (v ∷ w ∷ l)) (by_bounds m insertion o) ≡ None
by_loop m insertion o v w [] e = refl
by_loop m insertion o v w (u ∷ l) (inl k) = no_given (known m v) _ k
by_loop m insertion o v w (u ∷ l) (inr k) = fails_then (known m v) _ (λ low. no_given (known m w) _ k)

pub no_open_loop : (m : Operation) (insertion : Place) (o : Operation) (v w : Value) (l : List Value) → (head o).operands ≡ v ∷ w ∷ l → (None ≡ known m v) ⊎ (None ≡ known m w) → open_loop m insertion o ≡ None
no_open_loop m insertion o v w l e k = fails _ _ (ap (λ l. given (loop_from l) (by_bounds m insertion o)) e ∙ by_loop m insertion o v w l k)

-- `stop-loop`
module _ (x : ℕ) (m : Operation) (insertion : Place) where
  by_body : (e : Option Ended) → e ≡ body_at x 0 m → ((o : Operation) → given e (λ e. by_end m insertion o e e.last.operands) ≡ None) → stop_loop_at x m insertion ≡ None
  by_body e k f = go (find x m) refl
    where
      go : (z : Option Operation) → find x m ≡ z → given z (λ o. stop_loop m insertion o) ≡ None
      go None i = refl
      go (Some o) i = fails _ _ (ap (λ b. given b (λ e. by_end m insertion o e e.last.operands)) (sym (k ∙ ap (λ z. given z (λ o. body m o 0)) i)) ∙ f o)

  pub no_stop_loop_body : None ≡ body_at x 0 m → stop_loop_at x m insertion ≡ None
  no_stop_loop_body e = by_body None e (λ o. refl)

module _ (c : ContextModel) (x : ℕ) (t : Op) (insertion : Place) (d : HasDistinctIds t) (y : ℕ) (last : Some y ≡ last_at x 0 t) (h : Header) (shown : Some h ≡ head_at y (meaning c t)) where
  abbrev m : Operation
  m = meaning c t

  by_last : ((o : Operation) (e : Ended) → by_end (meaning c t) insertion o e h.operands ≡ None) → stop_loop_at x (meaning c t) insertion ≡ None
  by_last f =
      by_body x m insertion (when (is_verified m (record h { id = y })) (Some (record { before = before_at x 0 t; last = record h { id = y } }))) (sym (body_whole c x 0 t d y last h shown))
      (λ o. go o (is_verified m (record h { id = y })))
    where
      go : (o : Operation) (b : Bool) → given (when b (Some (record { before = before_at x 0 t; last = record h { id = y } }))) (λ e. by_end (meaning c t) insertion o e e.last.operands) ≡ None
      go o true = f o (record { before = before_at x 0 t; last = record h { id = y } })
      go o false = refl

  pub no_stop_loop_shape : length h.operands < 1 → stop_loop_at x (meaning c t) insertion ≡ None
  no_stop_loop_shape k = by_last (λ o e. go o e h.operands k)
    where
      go : (o : Operation) (e : Ended) (l : List Value) → length l < 1 → by_end (meaning c t) insertion o e l ≡ None
      go o e [] k = refl
      go o e (v ∷ l) k = absurd (omega (arith, k))

  pub no_stop_loop : (v : Value) (l : List Value) → h.operands ≡ v ∷ l → None ≡ known (meaning c t) v → stop_loop_at x (meaning c t) insertion ≡ None
  no_stop_loop v l e k = by_last (λ o f. ap (by_end (meaning c t) insertion o f) e ∙ ap (λ b. when b (Some (opened (meaning c t) insertion o f (head o).operands l))) (no_number (meaning c t) v k))
