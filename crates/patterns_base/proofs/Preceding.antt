-- Dominance after an operation.
use Rattle.std.proofs.Common.{◌≡◌, refl, ap, sym, ◌∙◌, subst, ℕ, Bool, true, true≢false, not, ◌&&◌, ◌||◌, eqb, eqb-true, List, [], ◌∷◌, ◌++◌, length, inl, inr}
use Rattle.std.specs.List.{list_any}
use Rattle.ir_tree.specs.declared.value.Value.{Value}
use Rattle.ir_tree.specs.declared.value.Value.TheVariants.{Result}
use Rattle.ir_tree.specs.Tree.{OpOf, OpsOf, next, head}
use Rattle.ir_tree.specs.Ids.{HasDistinctIds}
use Rattle.ir_tree.specs.Sites.{arguments, shows, results_of}
use Rattle.ir_tree_laws.specs.Stands.{StepOf, OpWithPathOf, stands, ops_stands, dominated_by}
use Rattle.ir_tree_laws.specs.Members.{In}
use Rattle.ir_tree_laws.proofs.Listed.{one_any, any_one, in_left, both, both_hold, either, or_left, or_right}
use Rattle.ir_tree_laws.proofs.Readings.{step}
use Rattle.ir_tree_laws.proofs.Members.{stand, within, joined_ops, ops_child, same_stand}
use Rattle.ir_tree_laws.proofs.Around.{around_there}
use Rattle.ir_tree_laws.proofs.Put.{child}
use Rattle.ir_tree_laws.proofs.Values.{shaped_as}

-- a list is split at one of its entries
pub cut_at : {X : Type 0} (x : X) (xs : List X) → In x xs → (us vs : List X) × (xs ≡ us ++ x ∷ vs)
cut_at x [] h = absurd h
cut_at x (y ∷ ys) (inl e) = ([], ys, ap (λ z. z ∷ ys) (sym e))
cut_at x (y ∷ ys) (inr h) = let r = cut_at x ys h in (y ∷ r.0, r.1, ap (λ l. y ∷ l) r.2)

module _ {N T A : Type 0} where
  pub joined_cut : (us vs : List (OpOf N T A)) (f : OpOf N T A) (os : OpsOf N T A) → joined_ops (us ++ f ∷ vs) os ≡ joined_ops us (next f (joined_ops vs os))
  joined_cut [] vs f os = refl
  joined_cut (u ∷ us) vs f os = ap (next u) (joined_cut us vs f os)

  -- an earlier operation of a block is in that block, before the other
  pub record Before (t f : OpOf N T A) (a : StepOf N T A) (q : List (StepOf N T A)) : Type 0 where
    pub step_in : StepOf N T A
    pub there : In (stand f (step_in ∷ q)) (stands [] t)
    pub parent : step_in.parent ≡ a.parent
    pub region : step_in.region ≡ a.region
    pub args : step_in.args ≡ a.args
    pub intermediate : List (OpOf N T A)
    pub preceding : a.preceding ≡ step_in.preceding ++ f ∷ intermediate

  pub stands_before : (t o f : OpOf N T A) (a : StepOf N T A) (q : List (StepOf N T A)) → In (stand o (a ∷ q)) (stands [] t) → In f a.preceding → Before t f a q
  stands_before t o f a q h m =
      let c = cut_at f a.preceding m in
      let b = step a.parent a.region a.args c.0 (joined_ops c.1 (next o a.rest)) in
      let list : joined_ops a.preceding (next o a.rest) ≡ joined_ops c.0 (next f (joined_ops c.1 (next o a.rest))) = ap (λ l. joined_ops l (next o a.rest)) c.2 ∙ joined_cut c.0 c.1 f (next o a.rest) in
      record {
        step_in = b;
        there = within a.parent q (stand f (b ∷ q)) (child a.parent q a.region a.args (joined_ops a.preceding (next o a.rest)) (stand f (b ∷ q)) (shaped_as t o a q h)
            (subst (λ l. In (stand f (b ∷ q)) (ops_stands a.parent q a.region a.args [] l)) (sym list) (ops_child a.parent q a.region a.args [] c.0 f (joined_ops c.1 (next o a.rest))))) [] t (around_there t o a q h).1;
        parent = refl;
        region = refl;
        args = refl;
        intermediate = c.1;
        preceding = c.2;
      }

  module _ (isolated : N → Bool) (t : OpOf N T A) (d : HasDistinctIds t) (o : OpOf N T A) (p : List (StepOf N T A)) (there : In (stand o p) (stands [] t)) where
    -- the values that dominate an operation dominate the users of its results
    pub after_dominated_by : (u : OpOf N T A) (q : List (StepOf N T A)) → In (stand u q) (stands [] t) → (k : ℕ) → dominated_by isolated q (Result (head o).id k) ≡ true → (v : Value) → dominated_by isolated p v ≡ true → dominated_by isolated q v ≡ true
    after_dominated_by u [] h k e v s = absurd (true≢false (sym e))
    after_dominated_by u (a ∷ q) h k e v s =
        elim (either (list_any (λ f. shows (Result (head o).id k) (results_of f)) a.preceding) _ e) [
          | inl m ↦ (let w = one_any (λ f. shows (Result (head o).id k) (results_of f)) a.preceding m in
              let b = stands_before t u w.0 a q h w.1 in
              let id = eqb-true (head o).id (head w.0).id (both (eqb (head o).id (head w.0).id) _ w.2).0 in
              let same = same_stand t d (stand w.0 (b.step_in ∷ q)) (stand o p) b.there there (sym id) in
              let path : b.step_in ∷ q ≡ p = ap (λ (z : OpWithPathOf N T A). z.path) same in
              nearer a b.step_in q b.intermediate w.0 b.parent b.region b.args b.preceding (subst (λ l. dominated_by isolated l v ≡ true) (sym path) s))
          | inr m ↦ or_right (list_any (λ f. shows v (results_of f)) a.preceding) _ (or_right (shows v (arguments (head a.parent).id a.region (length a.args))) _
              (let c = both (not (isolated (head a.parent).name)) (dominated_by isolated q (Result (head o).id k)) m in
              both_hold (not (isolated (head a.parent).name)) (dominated_by isolated q v) c.0 (after_dominated_by a.parent q (around_there t u a q h).1 k c.1 v s)))
        ]
      where
        more : (us vs : List (OpOf N T A)) (f : OpOf N T A) → list_any (λ f. shows v (results_of f)) us ≡ true → list_any (λ f. shows v (results_of f)) (us ++ f ∷ vs) ≡ true
        more us vs f e = let w = one_any (λ f. shows v (results_of f)) us e in any_one (λ f. shows v (results_of f)) (us ++ f ∷ vs) w.0 (in_left w.0 us (f ∷ vs) w.1) w.2

        nearer : (a b : StepOf N T A) (q : List (StepOf N T A)) (vs : List (OpOf N T A)) (f : OpOf N T A) → b.parent ≡ a.parent → b.region ≡ a.region → b.args ≡ a.args → a.preceding ≡ b.preceding ++ f ∷ vs → dominated_by isolated (b ∷ q) v ≡ true → dominated_by isolated (a ∷ q) v ≡ true
        nearer a b q vs f x y z l e =
            elim (either (list_any (λ f. shows v (results_of f)) b.preceding) _ e) [
              | inl m ↦ or_left _ _ (ap (list_any (λ f. shows v (results_of f))) l ∙ more b.preceding vs f m)
              | inr m ↦ or_right (list_any (λ f. shows v (results_of f)) a.preceding) _ ((λ i. shows v (arguments (head (sym x i)).id (sym y i) (length (sym z i))) || (not (isolated (head (sym x i)).name) && dominated_by isolated q v)) ∙ m)
            ]
