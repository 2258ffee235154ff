-- An operand is a use. Two lists that are equal at each item are equal.
use Rattle.std.proofs.Common.{◌≡◌, refl, ap, sym, ◌∙◌, ℕ, ◌+◌, Bool, true, false, cond, eq-eqb, List, [], ◌∷◌, ◌++◌, map, inl, inr}
use Rattle.ir_event.specs.trees.declared.value.Value.{Value}
use Rattle.ir_event.specs.trees.declared.value.Value.TheVariants.{Result, Arg}
use Rattle.ir_event.specs.trees.Tree.{OpOf, head}
use Rattle.ir_event.specs.trees.Uses.{same_value, operand_uses, uses_of}
use Rattle.ir_event.specs.tree_laws.Stands.{OpWithPathOf, op_with_path_id, stands, gather}
use Rattle.ir_event.specs.tree_laws.Members.{In}
use Rattle.ir_event.proofs.of_tree_laws.Readings.{stands_uses}
use Rattle.ir_event.proofs.of_types.Truths.{nil_parts}
use Rattle.ir_event.proofs.of_trees.Replaced.{same_value_refl}

-- functions that agree at each item give the same list
pub same_map : {X Y : Type 0} (f g : X → Y) (xs : List X) → ((x : X) → In x xs → f x ≡ g x) → map f xs ≡ map g xs
same_map f g [] h = refl
same_map f g (x ∷ xs) h = λ i. h x (inl refl) i ∷ same_map f g xs (λ y k. h y (inr k)) i

no_operand : (v : Value) (x k : ℕ) (ws : List Value) → operand_uses v x k ws ≡ [] → In v ws → ⊥
no_operand v x k [] e h = h
no_operand v x k (w ∷ ws) e (inl i) =
    let is : same_value v w ≡ true = ap (same_value v) (sym i) ∙ same_value_refl v in
    let no : (x, k) ∷ operand_uses v x (k + 1) ws ≡ [] = sym (ap (λ b. cond b ((x, k) ∷ operand_uses v x (k + 1) ws) (operand_uses v x (k + 1) ws)) is) ∙ e in
    absurd cc
no_operand v x k (w ∷ ws) e (inr h) = go (λ f. no_operand v x (k + 1) ws f h) (same_value v w) e
  where
    go : (operand_uses v x (k + 1) ws ≡ [] → ⊥) → (b : Bool) → cond b ((x, k) ∷ operand_uses v x (k + 1) ws) (operand_uses v x (k + 1) ws) ≡ [] → ⊥
    go f true e = absurd cc
    go f false e = f e

-- if nothing is gathered, f gives nothing at each item
none_gathered : {X Y : Type 0} (f : X → List Y) (xs : List X) → gather f xs ≡ [] → (x : X) → In x xs → f x ≡ []
none_gathered f [] e x h = absurd h
none_gathered f (y ∷ ys) e x (inl i) = ap f i ∙ (nil_parts (f y) (gather f ys) e).0
none_gathered f (y ∷ ys) e x (inr h) = none_gathered f ys ((nil_parts (f y) (gather f ys) e).1) x h

-- a value without uses isn't an operand
pub not_used : {N T A : Type 0} (v : Value) (s : OpWithPathOf N T A) (t : OpOf N T A) → uses_of v t ≡ [] → In s (stands [] t) → In v (head s.here).operands → ⊥
not_used {N} {T} {A} v s t e h i =
    no_operand v (op_with_path_id s) 0 (head s.here).operands
    (none_gathered (λ (u : OpWithPathOf N T A). operand_uses v (op_with_path_id u) 0 (head u.here).operands) (stands [] t) (stands_uses v [] t ∙ e) s h) i
