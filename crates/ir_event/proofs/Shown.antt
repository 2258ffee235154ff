-- The operations that a store knows, and their nodes.
use Rattle.std.proofs.Common.{◌≡◌, refl, ap, sym, ◌∙◌, ℕ, Bool, true, false, true≢false, cond, ◌||◌, eqb, List, [], ◌∷◌, Option, Some, None}
use Rattle.std.specs.Prelude.{option_map}
use Rattle.std.specs.List.{list_any}
use Rattle.std.specs.FinMap as finmap
use Rattle.ir_store.specs.trees.Tree.{Op, OpOf}
use Rattle.ir_store.specs.trees.Ids.{has_id, find, first_of}
use Rattle.ir_store.specs.tree_laws.Stands.{OpWithPathOf, op_with_path_id, find_op_with_path, stands}
use Rattle.ir_store.proofs.of_tree_laws.Around.{any_ids}
use Rattle.ir_store.proofs.of_tree_laws.Readings.{stands_find, stands_ids}
use Rattle.ir_store.specs.Stored.{Stored, known}

module _ {N T A : Type 0} where
  -- if no operation with an id is found, the tree doesn't have the id
  none_stands : (x : ℕ) (ss : List (OpWithPathOf N T A)) → option_map (λ (s : OpWithPathOf N T A). s.here) (find_op_with_path x ss) ≡ None → list_any (λ s. eqb (op_with_path_id s) x) ss ≡ false
  none_stands x [] e = refl
  none_stands x (s ∷ ss) e = go (eqb (op_with_path_id s) x) refl (none_stands x ss)
    where
      go : (b : Bool) → eqb (op_with_path_id s) x ≡ b → (option_map (λ (s : OpWithPathOf N T A). s.here) (find_op_with_path x ss) ≡ None → list_any (λ s. eqb (op_with_path_id s) x) ss ≡ false)
          → list_any (λ s. eqb (op_with_path_id s) x) (s ∷ ss) ≡ false
      go true is later = (let bad : Some s.here ≡ None = sym (ap (λ b. option_map (λ (s : OpWithPathOf N T A). s.here) (cond b (Some s) (find_op_with_path x ss))) is) ∙ e in absurd cc)
      go false is later = ap (λ b. b || list_any (λ s. eqb (op_with_path_id s) x) ss) is ∙ later (sym (ap (λ b. option_map (λ (s : OpWithPathOf N T A). s.here) (cond b (Some s) (find_op_with_path x ss))) is) ∙ e)

  pub none_found : (x : ℕ) (t : OpOf N T A) → find x t ≡ None → has_id x t ≡ false
  none_found x t e = sym (ap (list_any (λ y. eqb y x)) (stands_ids [] t)) ∙ any_ids op_with_path_id x (stands [] t) ∙ none_stands x (stands [] t) (stands_find x [] t ∙ e)

-- an operation of the module is known unchanged
pub known_there : (x : ℕ) (s : Stored) → has_id x s.module_of.tree ≡ true → known x s ≡ find x s.module_of.tree
known_there x s h = go (find x s.module_of.tree) refl
  where
    go : (o : Option Op) → find x s.module_of.tree ≡ o → first_of o (finmap.get s.held x) ≡ o
    go None e = absurd (true≢false (sym h ∙ none_found x s.module_of.tree e))
    go (Some o) e = refl
