-- An edit with ids of a context, and its meaning: they have the same effect on a module, and the same reasons.
use Rattle.std.proofs.Common.{◌≡◌, refl, ap, ◌∙◌, ℕ, ◌+◌, Bool, cond, not, ◌&&◌, ◌||◌, eqb, List, [], ◌∷◌, length, Option, Some, None, option_map}
use Rattle.std.specs.Prelude.{nat_le, is_some}
use Rattle.std.specs.List.{list_all}
use Rattle.std.specs.Option.{option_eq}
use Rattle.ir_event.specs.types.Things.{ContextModel}
use Rattle.ir_event.specs.types.Terms.{name_term, type_term, attr_term}
use Rattle.ir_event.specs.types.Words.{is_isolated, is_table, is_inherent}
use Rattle.ir_event.specs.types.declared.refusal.Refusal.TheVariants.{NoSuchOp, NoSuchValue, HasUses, NotVisible, TypeDiffers, NoSuchIndex, IsRoot, Full, IdsExhausted, TooDeepHere}
use Rattle.ir_event.specs.trees.declared.value.Value.{Value}
use Rattle.ir_event.specs.trees.declared.place.Place.{Place}
use Rattle.ir_event.specs.trees.declared.place.Part.TheVariants.{Props, Attrs}
use Rattle.ir_event.specs.trees.Tree.{op, Op, head}
use Rattle.ir_event.specs.trees.Ids.{find, op_count}
use Rattle.ir_event.specs.trees.Sites.{visible, operands_visible}
use Rattle.ir_event.specs.trees.Frames.{owner_of}
use Rattle.ir_event.specs.trees.Uses.{uses_of}
use Rattle.ir_event.specs.trees.Limits.{every, most_ops, most_next, op_fits}
use Rattle.ir_event.specs.trees.Edits.{entry_at, with_entry}
use Rattle.ir_event.specs.trees.Meaning.{isolated_in, key_before, key_before_in, meaning}
use Rattle.ir_event.specs.trees.Places.{put, without}
use Rattle.ir_event.specs.trees.WellFormed.{Module as Numbered}
use Rattle.ir_event.proofs.of_trees.Mapped.{map_ids, map_find, map_every, map_depth, map_uses, map_visible, map_operands_visible}
use Rattle.ir_event.proofs.of_trees.MappedEdits.{map_put, map_shifted, map_without, map_with_operand, map_with_value_replaced, map_with_entry}
use Rattle.ir_event.specs.tree_laws.Values.{type_of_value}
use Rattle.ir_event.specs.tree_laws.Reads.{is_within}
use Rattle.ir_event.specs.tree_laws.Reasons.{unless, fits_around, with_id, set_entry_reason, leaves_within, unused_outside, is_visible_to_users}
use Rattle.ir_event.proofs.of_tree_laws.Contents.{same_id, map_has_id, map_has_place, map_has_value, map_type_of_value, map_around, map_op_fits, map_with_id, map_entry_at, map_set_entry_reason, map_set_operand_reason, map_put_reason, map_shift_reason, all_alike, some_map}
use Rattle.ir_event.specs.Modules.{module_meaning}
use Rattle.ir_event.specs.types.SameTypes.{same_type}
use Rattle.rewriter_machine.specs.Edits.{Insert, Make, Erase, Move, SetOperand, Replace, SetAttr, DropAttr, part_in, part_for, tree_edited, next_edited, edited_by, insert_reason, erase_reason, replace_reason, tree_reason, reason_by}
use Rattle.rewriter_machine.specs.Contents.{tests, tests_in, NumberedEdit, edit_meaning, edited, edit_reason}
use Rattle.ir_event.proofs.of_tree_laws.Facts.{count_meaning}

module _ (c : ContextModel) where
  -- the dictionary of a key
  part_kept : (x k : ℕ) (t : Op) → part_for tests x (name_term c k) (meaning c t) ≡ part_for (tests_in c) x k t
  part_kept x k t = ap (part_in tests (name_term c k)) (map_find (name_term c) (type_term c) (attr_term c) x t) ∙ go (find x t)
    where
      go : (o : Option Op) → part_in tests (name_term c k) (option_map (meaning c) o) ≡ part_in (tests_in c) k o
      go None = refl
      go (Some (op h rs)) =
          ap (λ b. cond (is_inherent (name_term c h.name) (name_term c k) || b) Props Attrs)
          (ap is_some (map_entry_at (name_term c) (type_term c) (attr_term c) key_before k h.properties) ∙ some_map (attr_term c) (entry_at (key_before_in c) k h.properties))

  entry_kept : (x k : ℕ) (a : Option ℕ) (t : Op) →
      with_entry key_before x (part_for tests x (name_term c k) (meaning c t)) (name_term c k) (option_map (attr_term c) a) (meaning c t) ≡ meaning c (with_entry (key_before_in c) x (part_for (tests_in c) x k t) k a t)
  entry_kept x k a t =
      ap (λ part. with_entry key_before x part (name_term c k) (option_map (attr_term c) a) (meaning c t)) (part_kept x k t)
      ∙ map_with_entry (name_term c) (type_term c) (attr_term c) key_before x (part_for (tests_in c) x k t) k a t

  tree_kept : (e : NumberedEdit) (free : ℕ) (t : Op) → tree_edited tests (edit_meaning c e) free (meaning c t) ≡ meaning c (tree_edited (tests_in c) e free t)
  tree_kept (Insert place o) free t = map_put (name_term c) (type_term c) (attr_term c) place o t
  tree_kept (Make place o) free t =
      ap (λ u. put place u (meaning c t)) (map_with_id (name_term c) (type_term c) (attr_term c) free o)
      ∙ map_put (name_term c) (type_term c) (attr_term c) place (with_id free o) t
  tree_kept (Erase x) free t = map_without (name_term c) (type_term c) (attr_term c) x t
  tree_kept (Move x place) free t = map_shifted (name_term c) (type_term c) (attr_term c) x place t
  tree_kept (SetOperand x k v) free t = map_with_operand (name_term c) (type_term c) (attr_term c) x k v t
  tree_kept (Replace old new) free t = map_with_value_replaced (name_term c) (type_term c) (attr_term c) old new t
  tree_kept (SetAttr x k a) free t = entry_kept x k (Some a) t
  tree_kept (DropAttr x k) free t = entry_kept x k None t

  next_kept : (e : NumberedEdit) (n : ℕ) → next_edited (edit_meaning c e) n ≡ next_edited e n
  next_kept (Insert place o) n = ap (λ k. n + k) ((count_meaning c) o)
  next_kept (Make place o) n = refl
  next_kept (Erase x) n = refl
  next_kept (Move x place) n = refl
  next_kept (SetOperand x k v) n = refl
  next_kept (Replace old new) n = refl
  next_kept (SetAttr x k a) n = refl
  next_kept (DropAttr x k) n = refl

  pub edited_meaning : (e : NumberedEdit) (m : Numbered) → edited (edit_meaning c e) (module_meaning c m) ≡ module_meaning c (edited_by (tests_in c) e m)
  edited_meaning e m = λ i. record { tree = tree_kept e m.next m.tree i; next = next_kept e m.next i }

  -- ---- reasons

  insert_kept : (place : Place) (o : Op) (free : ℕ) (t : Op) → insert_reason is_isolated place (meaning c o) free (meaning c t) ≡ insert_reason (isolated_in c) place o free t
  insert_kept place o free t = λ i.
      unless (map_has_id (name_term c) (type_term c) (attr_term c) place.parent t i) NoSuchOp
      (unless (map_has_place (name_term c) (type_term c) (attr_term c) place t i) NoSuchIndex
      (unless (nat_le ((count_meaning c) t i + (count_meaning c) o i) most_ops) Full
      (unless (fits i) Full
      (unless (nat_le (free + (count_meaning c) o i) most_next) IdsExhausted
      (unless (fits_around (map_depth (name_term c) (type_term c) (attr_term c) o i) (map_around (name_term c) (type_term c) (attr_term c) place.parent t i)) TooDeepHere
      (unless (sights i) NotVisible None))))))
    where
      fits : every op_fits (meaning c o) ≡ every op_fits o
      fits = map_every (name_term c) (type_term c) (attr_term c) op_fits op_fits (map_op_fits (name_term c) (type_term c) (attr_term c)) o

      sights : operands_visible is_isolated (put place (meaning c o) (meaning c t)) ≡ operands_visible (isolated_in c) (put place o t)
      sights = ap (operands_visible is_isolated) (map_put (name_term c) (type_term c) (attr_term c) place o t) ∙ map_operands_visible (name_term c) (type_term c) (attr_term c) is_isolated (put place o t)

  within_kept : (x y : ℕ) (t : Op) → is_within y (find x (meaning c t)) ≡ is_within y (find x t)
  within_kept x y t = ap (is_within y) (map_find (name_term c) (type_term c) (attr_term c) x t) ∙ go (find x t)
    where
      go : (o : Option Op) → is_within y (option_map (meaning c) o) ≡ is_within y o
      go None = refl
      go (Some o) = map_has_id (name_term c) (type_term c) (attr_term c) y o

  unused_kept : (x : ℕ) (t : Op) → unused_outside x (meaning c t) ≡ unused_outside x t
  unused_kept x t =
      ap (every (λ o. leaves_within (find x (meaning c t)) (head o))) (map_without (name_term c) (type_term c) (attr_term c) x t)
      ∙ map_every (name_term c) (type_term c) (attr_term c) (λ o. leaves_within (find x t) (head o)) (λ o. leaves_within (find x (meaning c t)) (head o)) own (without x t)
    where
      own : (o : Op) → leaves_within (find x (meaning c t)) (head (meaning c o)) ≡ leaves_within (find x t) (head o)
      own (op h rs) = all_alike (λ v. not (is_within (owner_of v).0 (find x (meaning c t)))) (λ v. not (is_within (owner_of v).0 (find x t))) (λ v. ap not (within_kept x (owner_of v).0 t)) h.operands

  erase_kept : (x : ℕ) (t : Op) → erase_reason x (meaning c t) ≡ erase_reason x t
  erase_kept x t = λ i.
      unless (map_has_id (name_term c) (type_term c) (attr_term c) x t i) NoSuchOp
      (unless (not (eqb (same_id (name_term c) (type_term c) (attr_term c) t i) x)) IsRoot
      (unless (unused_kept x t i) HasUses None))

  types_kept : (a b : Option ℕ) → option_eq same_type (option_map (type_term c) a) (option_map (type_term c) b) ≡ option_eq (λ s t. same_type (type_term c s) (type_term c t)) a b
  types_kept None None = refl
  types_kept None (Some b) = refl
  types_kept (Some a) None = refl
  types_kept (Some a) (Some b) = refl

  users_kept : (old new : Value) (t : Op) → is_visible_to_users is_isolated old new (meaning c t) ≡ is_visible_to_users (isolated_in c) old new t
  users_kept old new t =
      ap (list_all (λ u. visible is_isolated (meaning c t) u.0 new)) (map_uses (name_term c) (type_term c) (attr_term c) old t)
      ∙ all_alike (λ u. visible is_isolated (meaning c t) u.0 new) (λ u. visible (isolated_in c) t u.0 new) (λ u. map_visible (name_term c) (type_term c) (attr_term c) is_isolated t u.0 new) (uses_of old t)

  replace_kept : (old new : Value) (t : Op) → replace_reason tests old new (meaning c t) ≡ replace_reason (tests_in c) old new t
  replace_kept old new t = λ i.
      unless (map_has_value (name_term c) (type_term c) (attr_term c) old t i) NoSuchValue
      (unless (map_has_value (name_term c) (type_term c) (attr_term c) new t i) NoSuchValue
      (unless (one i) TypeDiffers
      (unless (users_kept old new t i) NotVisible None)))
    where
      one : option_eq same_type (type_of_value old (meaning c t)) (type_of_value new (meaning c t)) ≡ option_eq (λ s u. same_type (type_term c s) (type_term c u)) (type_of_value old t) (type_of_value new t)
      one =
          (λ i. option_eq same_type (map_type_of_value (name_term c) (type_term c) (attr_term c) old t i) (map_type_of_value (name_term c) (type_term c) (attr_term c) new t i))
          ∙ types_kept (type_of_value old t) (type_of_value new t)

  entry_reason_kept : (x k : ℕ) (a : Option ℕ) (t : Op) →
      set_entry_reason key_before x (part_for tests x (name_term c k) (meaning c t)) (name_term c k) (option_map (attr_term c) a) (meaning c t) ≡ set_entry_reason (key_before_in c) x (part_for (tests_in c) x k t) k a t
  entry_reason_kept x k a t =
      ap (λ part. set_entry_reason key_before x part (name_term c k) (option_map (attr_term c) a) (meaning c t)) (part_kept x k t)
      ∙ map_set_entry_reason (name_term c) (type_term c) (attr_term c) key_before x (part_for (tests_in c) x k t) k a t

  reason_kept : (e : NumberedEdit) (free : ℕ) (t : Op) → tree_reason tests (edit_meaning c e) free (meaning c t) ≡ tree_reason (tests_in c) e free t
  reason_kept (Insert place o) free t = insert_kept place o free t
  reason_kept (Make place o) free t = map_put_reason (name_term c) (type_term c) (attr_term c) is_isolated place o free t
  reason_kept (Erase x) free t = erase_kept x t
  reason_kept (Move x place) free t = map_shift_reason (name_term c) (type_term c) (attr_term c) is_isolated is_table x place t
  reason_kept (SetOperand x k v) free t = map_set_operand_reason (name_term c) (type_term c) (attr_term c) is_isolated x k v t
  reason_kept (Replace old new) free t = replace_kept old new t
  reason_kept (SetAttr x k a) free t = entry_reason_kept x k (Some a) t
  reason_kept (DropAttr x k) free t = entry_reason_kept x k None t

  pub reason_meaning : (e : NumberedEdit) (m : Numbered) → edit_reason (edit_meaning c e) (module_meaning c m) ≡ reason_by (tests_in c) e m
  reason_meaning e m = reason_kept e m.next m.tree
