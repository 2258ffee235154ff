-- Values defined inside an operation don't dominate operations outside it, except its results.
use Rattle.std.proofs.Common.{◌≡◌, ap, sym, ◌∙◌, ℕ, Bool, true, false, true≢false, not, eqb, eq-eqb, eqb-true, List, [], ◌∷◌, length, inl, inr, ◌⊎◌}
use Rattle.std.specs.List.{list_any}
use Rattle.ir_tree.specs.declared.value.Value.{Value}
use Rattle.ir_tree.specs.declared.value.Value.TheVariants.{Result, Arg}
use Rattle.ir_tree.specs.Tree.{OpOf, head}
use Rattle.ir_tree.specs.Ids.{HasDistinctIds}
use Rattle.ir_tree.specs.Frames.{owner_of}
use Rattle.ir_tree.specs.Sites.{arguments, shows, results_of}
use Rattle.ir_tree_laws.specs.Stands.{StepOf, OpWithPathOf, op_with_path_id, stands, dominated_by, gone_in, is_gone}
use Rattle.ir_tree_laws.specs.Members.{In}
use Rattle.ir_tree_laws.proofs.Listed.{bool_cases, one_any, both, either, or_left, or_right}
use Rattle.ir_tree_laws.proofs.Members.{stand, has_around, same_stand}
use Rattle.ir_tree_laws.proofs.Around.{around_there}
use Rattle.patterns_base.proofs.Preceding.{stands_before}

module _ {N T A : Type 0} (isolated : N → Bool) (x : ℕ) (t : OpOf N T A) (d : HasDistinctIds t) (root : eqb (head t).id x ≡ false) where
  -- the value is a result of x
  abbrev pub IsResult : Value → Type 0
  IsResult v = (k : ℕ) × (v ≡ Result x k)

  -- taking out operation x takes out everything inside it
  inside_goes : (o p : OpOf N T A) (q : List (StepOf N T A)) → In (stand p q) (stands [] t) → (head p).id ≡ x ⊎ gone_in x p q ≡ true → gone_in x p q ≡ true
  inside_goes o p q h (inr e) = e
  inside_goes o p [] h (inl e) = absurd (true≢false (sym (eq-eqb (head t).id x (outermost h ∙ e)) ∙ root))
    where
      outermost : In (stand p []) (stands [] t) → (head t).id ≡ (head p).id
      outermost h = elim (has_around [] t (stand p []) h) [
        | inl k ↦ ap (λ (z : OpWithPathOf N T A). op_with_path_id z) (sym k)
        | inr w ↦ (let bad : [] ≡ w.0 ∷ w.1 = w.2 in absurd cc)
      ]
  inside_goes o p (a ∷ q) h (inl e) = or_left (eqb (head p).id x) (gone_in x a.parent q) (eq-eqb (head p).id x e)

  -- a value of x, or of an operation inside x, that dominates an operation outside is a result of x
  pub seen_outside : (o : OpOf N T A) (path : List (StepOf N T A)) → In (stand o path) (stands [] t) → gone_in x o path ≡ false → (v : Value) → dominated_by isolated path v ≡ true
      → (u : OpWithPathOf N T A) → In u (stands [] t) → (owner_of v).0 ≡ op_with_path_id u → is_gone x u ≡ true → IsResult v
  seen_outside o [] h g v e u m id gone = absurd (true≢false (sym e))
  seen_outside o (a ∷ q) h g v e u m id gone =
      elim (either (list_any (λ f. shows v (results_of f)) a.preceding) _ e) [
        | inl k ↦ (let w = one_any (λ f. shows v (results_of f)) a.preceding k in insertion w.0 w.1 v w.2 id)
        | inr k ↦ elim (either (shows v (arguments (head a.parent).id a.region (length a.args))) _ k) [
          | inl l ↦ absurd (true≢false (sym (or_right (eqb (head o).id x) (gone_in x a.parent q) (args v l id)) ∙ g))
          | inr l ↦ (let b = both (not (isolated (head a.parent).name)) (dominated_by isolated q v) l in
              elim (bool_cases (gone_in x a.parent q)) [
                | inl i ↦ absurd (true≢false (sym (or_right (eqb (head o).id x) (gone_in x a.parent q) i) ∙ g))
                | inr i ↦ seen_outside a.parent q (around_there t o a q h).1 i v b.1 u m id gone
              ])
        ]
      ]
    where
      insertion : (f : OpOf N T A) → In f a.preceding → (v : Value) → shows v (results_of f) ≡ true → (owner_of v).0 ≡ op_with_path_id u → IsResult v
      insertion f i (Arg y r k) e id = absurd (true≢false (sym e))
      insertion f i (Result y k) e id =
          let b = stands_before t o f a q h i in
          let own = eqb-true y (head f).id (both (eqb y (head f).id) _ e).0 in
          let same = same_stand t d u (stand f (b.step_in ∷ q)) m b.there (sym id ∙ own) in
          let goes : is_gone x (stand f (b.step_in ∷ q)) ≡ true = ap (is_gone x) (sym same) ∙ gone in
          elim (either (eqb (head f).id x) (gone_in x b.step_in.parent q) goes) [
            | inl j ↦ (k, ap (λ z. Result z k) (own ∙ eqb-true (head f).id x j))
            | inr j ↦ absurd (true≢false (sym (or_right (eqb (head o).id x) (gone_in x a.parent q) (ap (λ z. gone_in x z q) (sym b.parent) ∙ j)) ∙ g))
          ]

      args : (v : Value) → shows v (arguments (head a.parent).id a.region (length a.args)) ≡ true → (owner_of v).0 ≡ op_with_path_id u → gone_in x a.parent q ≡ true
      args (Result y k) e id = absurd (true≢false (sym e))
      args (Arg y r k) e id =
          let up = (around_there t o a q h).1 in
          let own = eqb-true y (head a.parent).id (both (eqb y (head a.parent).id) _ e).0 in
          let same = same_stand t d u (stand a.parent q) m up (sym id ∙ own) in
          ap (is_gone x) (sym same) ∙ gone
