-- The note on a tree of term numbers is the note on the tree that the numbers denote.
use Rattle.std.proofs.Common.{◌≡◌, ℕ, zero, suc, List, [], ◌∷◌, Bool, eqb, not, ◌&&◌, ◌||◌, refl, ap, ◌∙◌, length, map, Option, Some, None, option_map}
use Rattle.std.specs.Prelude.{if◌then◌else◌}
use Rattle.std.specs.List.{filter, list_any}
use Rattle.std.proofs.lemmas.List.Elements.{filter_agree}
use Rattle.ir_event.specs.trees.Frames.{owner_of}
use Rattle.ir_event.specs.trees.Ids.{find, ids, op_count}
use Rattle.ir_event.specs.trees.Meaning.{isolated_in, meaning}
use Rattle.ir_event.specs.trees.Tree.{Op, head}
use Rattle.ir_event.specs.trees.Uses.{same_value}
use Rattle.ir_event.specs.trees.declared.value.Value.{Value}
use Rattle.ir_event.specs.tree_laws.Reads.{parent_of}
use Rattle.ir_event.specs.tree_laws.Values.{type_of_value}
use Rattle.ir_event.specs.types.Terms.{attr_term, name_term, type_term}
use Rattle.ir_event.specs.types.Things.{ContextModel}
use Rattle.ir_event.specs.types.Words.{is_isolated}
use Rattle.ir_event.proofs.of_trees.Mapped.{map_find, map_ids, map_place, map_visible}
use Rattle.ir_event.proofs.of_tree_laws.Contents.{map_has_id, map_has_value, map_type_of_value, same_operands}
use Rattle.ir_event.proofs.of_tree_laws.DominatedBy.{any_same}
use Rattle.rewriter_machine.specs.Commands.{Command, Erase, Replace, SetOperand}
use Rattle.mlir_work_notes.specs.Notes.{Held, Operation, missing_op, missing_value, unseen, users_left}
use Rattle.mlir_work_notes.specs.Standing.{blind_users, comes_from, has_such, is_blind, is_inside, outside_users, is_within_ancestors, takes, takes_from, uses_from_outside}

has_alike : (p q : ℕ → Bool) → ((x : ℕ) → p x ≡ q x) → (o : Option ℕ) → has_such p o ≡ has_such q o
has_alike p q f None = refl
has_alike p q f (Some x) = f x

module _ (c : ContextModel) (t : Op) where
  pub missing_op_meant : (x : Option ℕ) → missing_op (meaning c t) x ≡ missing_op t x
  missing_op_meant None = refl
  missing_op_meant (Some x) = ap (λ (b : Bool). if b then [] else Operation x ∷ []) (map_has_id (name_term c) (type_term c) (attr_term c) x t)

  pub missing_value_meant : (v : Option Value) → missing_value (meaning c t) v ≡ missing_value t v
  missing_value_meant None = refl
  missing_value_meant (Some v) = ap (λ (b : Bool). if b then [] else Held v ∷ []) (map_has_value (name_term c) (type_term c) (attr_term c) v t)

  pub type_meant : (v : Value) → type_of_value v (meaning c t) ≡ option_map (type_term c) (type_of_value v t)
  type_meant v = map_type_of_value (name_term c) (type_term c) (attr_term c) v t

  stands_meant : (n x y : ℕ) → is_within_ancestors n x (meaning c t) y ≡ is_within_ancestors n x t y
  stands_meant zero x y = refl
  stands_meant (suc n) x y =
      ap (λ (o : Option ℕ). eqb y x || has_such (is_within_ancestors n x (meaning c t)) o) (ap (option_map (λ p. p.parent)) (map_place (name_term c) (type_term c) (attr_term c) y t))
      ∙ ap (λ (b : Bool). eqb y x || b) (has_alike (is_within_ancestors n x (meaning c t)) (is_within_ancestors n x t) (λ z. stands_meant n x z) (parent_of y t))

  inside_meant : (x y : ℕ) → is_inside x (meaning c t) y ≡ is_inside x t y
  inside_meant x y =
      ap (λ (zs : List ℕ). is_within_ancestors (length zs) x (meaning c t) y) (map_ids (name_term c) (type_term c) (attr_term c) t)
      ∙ stands_meant (op_count t) x y

  takes_from_meant : (x : ℕ) (o : Option Op) → takes_from x (meaning c t) (option_map (meaning c) o) ≡ takes_from x t o
  takes_from_meant x None = refl
  takes_from_meant x (Some o) =
      ap (list_any (comes_from x (meaning c t))) (same_operands (name_term c) (type_term c) (attr_term c) o)
      ∙ any_same (comes_from x (meaning c t)) (comes_from x t) (λ v. inside_meant x (owner_of v).0) (head o).operands

  uses_meant : (x y : ℕ) → uses_from_outside x (meaning c t) y ≡ uses_from_outside x t y
  uses_meant x y = λ i. (ap (takes_from x (meaning c t)) (map_find (name_term c) (type_term c) (attr_term c) y t) ∙ takes_from_meant x (find y t)) i && not (inside_meant x y i)

  pub outside_meant : (x : ℕ) → outside_users x (meaning c t) ≡ outside_users x t
  outside_meant x =
      ap (filter (uses_from_outside x (meaning c t))) (map_ids (name_term c) (type_term c) (attr_term c) t)
      ∙ filter_agree (uses_from_outside x (meaning c t)) (uses_from_outside x t) (uses_meant x) (ids t)

  takes_meant : (v : Value) (o : Option Op) → takes v (option_map (meaning c) o) ≡ takes v o
  takes_meant v None = refl
  takes_meant v (Some o) = ap (list_any (same_value v)) (same_operands (name_term c) (type_term c) (attr_term c) o)

  blind_meant : (old new : Value) (y : ℕ) → is_blind is_isolated old new (meaning c t) y ≡ is_blind (isolated_in c) old new t y
  blind_meant old new y = λ i. (ap (takes old) (map_find (name_term c) (type_term c) (attr_term c) y t) ∙ takes_meant old (find y t)) i && not (map_visible (name_term c) (type_term c) (attr_term c) is_isolated t y new i)

  pub blind_users_meant : (old new : Value) → blind_users is_isolated old new (meaning c t) ≡ blind_users (isolated_in c) old new t
  blind_users_meant old new =
      ap (filter (is_blind is_isolated old new (meaning c t))) (map_ids (name_term c) (type_term c) (attr_term c) t)
      ∙ filter_agree (is_blind is_isolated old new (meaning c t)) (is_blind (isolated_in c) old new t) (blind_meant old new) (ids t)

  pub users_left_meant : (command : Command) → users_left (meaning c t) command ≡ users_left t command
  users_left_meant (Erase x) = ap (map Operation) (outside_meant x)
  users_left_meant _ = refl

  pub unseen_meant : (command : Command) → unseen is_isolated (meaning c t) command ≡ unseen (isolated_in c) t command
  unseen_meant (SetOperand x k v) = refl
  unseen_meant (Replace old new) = ap (λ zs. Held new ∷ map Operation zs) (blind_users_meant old new)
  unseen_meant _ = refl
