-- When an operation is erased, only the defining operations of its operands can lose their last use.
use Rattle.std.proofs.Common.{◌≡◌, refl, ap, sym, ◌∙◌, subst, ℕ, Bool, true, false, true≢false, cond, not, ◌&&◌, ◌||◌, eqb, eqb-true, List, [], ◌∷◌, map, Some, inl, inr}
use Rattle.std.specs.List.{list_all}
use Rattle.ir_event.specs.trees.declared.value.Value.{Value}
use Rattle.ir_event.specs.trees.declared.value.Value.TheVariants.{Result, Arg}
use Rattle.ir_event.specs.trees.Tree.{HeadOf, OpOf, op, no_regions, region, head, regions}
use Rattle.ir_event.specs.trees.Ids.{HasDistinctIds, find}
use Rattle.ir_event.specs.trees.Edits.{each_head, put_value, put_values, with_value_replaced}
use Rattle.ir_event.specs.trees.Places.{without}
use Rattle.ir_event.specs.tree_laws.Members.{In}
use Rattle.ir_event.specs.tree_laws.Stands.{StepOf, OpWithPathOf, stands, gone_in, is_gone, dropping, edit_step, edit_stand, left_stand}
use Rattle.ir_event.proofs.of_tree_laws.Around.{Within, gone_within}
use Rattle.ir_event.proofs.of_tree_laws.Heads.{each_stands}
use Rattle.ir_event.proofs.of_tree_laws.Listed.{bool_cases, all_each, in_map}
use Rattle.ir_event.proofs.of_tree_laws.Members.{stand, stand_found}
use Rattle.ir_event.proofs.of_tree_laws.Readings.{stands_every}
use Rattle.ir_event.proofs.of_tree_laws.Without.{left_member, same_head}
use Rattle.effects.specs.Dead.{is_result_of, is_unused}
use Rattle.conversion.specs.DefiningOps.{defining_ops_of}
use Rattle.std.proofs.lemmas.Bool.{not-false}

-- an element of a list that fails a test
some_fails : {X : Type 0} (p : X → Bool) (xs : List X) → list_all p xs ≡ false → (x : X) × In x xs × (p x ≡ false)
some_fails p [] e = absurd (true≢false e)
some_fails {X} p (x ∷ xs) e = go (p x) refl e (some_fails p xs)
  where
    go : (b : Bool) → p x ≡ b → (b && list_all p xs) ≡ false → (list_all p xs ≡ false → (y : X) × In y xs × (p y ≡ false)) → (y : X) × In y (x ∷ xs) × (p y ≡ false)
    go true i k rest = let w = rest k in (w.0, inr w.1, w.2)
    go false i k rest = (x, inl refl, i)

-- a used result has its defining operation in the list
given_among : (z : ℕ) (v : Value) (vs : List Value) → is_result_of z v ≡ true → In v vs → In z (defining_ops_of vs)
given_among z v [] e h = absurd h
given_among z (Result y k) (u ∷ vs) e (inl i) = subst (λ w. In z (defining_ops_of (w ∷ vs))) i (inl (sym (eqb-true y z e)))
given_among z (Arg y r k) (u ∷ vs) e (inl i) = absurd (true≢false (sym e))
given_among z v (Result y k ∷ vs) e (inr h) = inr (given_among z v vs e h)
given_among z v (Arg y r k ∷ vs) e (inr h) = given_among z v vs e h

module _ {N T A : Type 0} where
  -- a user of the operation
  pub record User (z : ℕ) (t : OpOf N T A) : Type 0 where
    pub at : OpWithPathOf N T A
    pub there : In at (stands [] t)
    pub value : Value
    pub among : In value (head at.here).operands
    pub of : is_result_of z value ≡ true

  pub user : (z : ℕ) (t : OpOf N T A) → is_unused z t ≡ false → User z t
  user z t e =
      let p = λ (v : Value). not (is_result_of z v) in
      let s = some_fails (λ (s : OpWithPathOf N T A). list_all p (head s.here).operands) (stands [] t) (stands_every (λ o. list_all p (head o).operands) [] t ∙ e) in
      let v = some_fails p (head s.0.here).operands s.2 in
      record { at = s.0; there = s.1; value = v.0; among = v.1; of = not-false (is_result_of z v.0) v.2 }

  none_of : (z : ℕ) (t : OpOf N T A) → is_unused z t ≡ true → (s : OpWithPathOf N T A) → In s (stands [] t) → (v : Value) → In v (head s.here).operands → is_result_of z v ≡ true → ⊥
  none_of z t e s h v k i =
      let p = λ (v : Value). not (is_result_of z v) in
      let all = all_each (λ (s : OpWithPathOf N T A). list_all p (head s.here).operands) (stands [] t) (stands_every (λ o. list_all p (head o).operands) [] t ∙ e) s h in
      true≢false (sym (all_each p (head s.here).operands all v k) ∙ ap not i)

  -- if no operation uses it any more, its user was erased
  gone_left : (x z : ℕ) (t : OpOf N T A) → is_unused z (without x t) ≡ true → (s : OpWithPathOf N T A) → In s (stands [] t) → (v : Value) → In v (head s.here).operands → is_result_of z v ≡ true → is_gone x s ≡ true
  gone_left x z t e s h v k i = elim (bool_cases (is_gone x s)) [
    | inl g ↦ g
    | inr g ↦ absurd (none_of z (without x t) e (left_stand x s) (left_member x t s h g) v (subst (λ (w : HeadOf N T A). In v w.operands) (sym (same_head x (dropping x) s.here)) k) i)
  ]

  -- a user with nothing inside is the erased operation itself
  bare_gone : (x : ℕ) (t o : OpOf N T A) → HasDistinctIds t → find x t ≡ Some o → regions o ≡ no_regions → (s : OpWithPathOf N T A) → In s (stands [] t) → is_gone x s ≡ true → s.here ≡ o
  bare_gone x t o d f bare s h g = go w.here (w.step_in ∷ w.path) (ap (λ (z : OpOf N T A). regions z) same ∙ bare) w.inner ∙ same
    where
      w : Within x t s
      w = gone_within x t s.path s.here h g

      same : w.here ≡ o
      same = (let two : Some w.here ≡ Some o = sym (stand_found t d (stand w.here (w.step_in ∷ w.path)) w.there) ∙ ap (λ z. find z t) w.id ∙ f in cc)

      go : (p : OpOf N T A) (path : List (StepOf N T A)) → regions p ≡ no_regions → In s (stands path p) → s.here ≡ p
      go (op k no_regions) path e (inl i) = ap (λ (z : OpWithPathOf N T A). z.here) i
      go (op k no_regions) path e (inr i) = absurd i
      go (op k (region g rs)) path e i = absurd cc

  module _ (x : ℕ) (t o : OpOf N T A) (d : HasDistinctIds t) (f : find x t ≡ Some o) (bare : regions o ≡ no_regions) where
    pub freed_erased : (z : ℕ) → is_unused z t ≡ false → is_unused z (without x t) ≡ true → In z (defining_ops_of (head o).operands)
    freed_erased z e k =
        let u = user z t e in
        let same = bare_gone x t o d f bare u.at u.there (gone_left x z t k u.at u.there u.value u.among u.of) in
        given_among z u.value (head o).operands u.of (subst (λ (p : OpOf N T A). In u.value (head p).operands) same u.among)

    -- the same after its result was replaced
    module _ (v : Value) where
      abbrev g : HeadOf N T A → HeadOf N T A
      g = put_values (Result x 0) v

      edited_gone : (p : OpOf N T A) (path : List (StepOf N T A)) → gone_in x (each_head g p) (map (edit_step g) path) ≡ gone_in x p path
      edited_gone p [] = refl
      edited_gone (op h rs) (a ∷ path) = ap (λ b. eqb h.id x || b) (edited_gone a.parent path)

      edited_operands : (p : OpOf N T A) → (head (each_head g p)).operands ≡ map (put_value (Result x 0) v) (head p).operands
      edited_operands (op h rs) = refl

      kept_use : (z : ℕ) (w : Value) → eqb x z ≡ false → is_result_of z w ≡ true → put_value (Result x 0) v w ≡ w
      kept_use z (Result y k) n e = ap (λ b. cond (b && eqb 0 k) v (Result y k)) (ap (eqb x) (eqb-true y z e) ∙ n)
      kept_use z (Arg y r k) n e = absurd (true≢false (sym e))

      pub freed_replaced : (z : ℕ) → eqb x z ≡ false → is_unused z t ≡ false → is_unused z (without x (with_value_replaced (Result x 0) v t)) ≡ true → In z (defining_ops_of (head o).operands)
      freed_replaced z n e k =
          let u = user z t e in
          let s = edit_stand g u.at in
          let h : In s (stands [] (each_head g t)) = subst (λ l. In s l) (sym (each_stands g [] t)) (in_map (edit_stand g) u.at (stands [] t) u.there) in
          let w : In u.value (head (each_head g u.at.here)).operands =
          subst (λ l. In u.value l) (sym (edited_operands u.at.here)) (subst (λ y. In y (map (put_value (Result x 0) v) (head u.at.here).operands)) (kept_use z u.value n u.of) (in_map (put_value (Result x 0) v) u.value (head u.at.here).operands u.among)) in
          let gone = sym (edited_gone u.at.here u.at.path) ∙ gone_left x z (each_head g t) k s h u.value w u.of in
          let same = bare_gone x t o d f bare u.at u.there gone in
          given_among z u.value (head o).operands u.of (subst (λ (p : OpOf N T A). In u.value (head p).operands) same u.among)
