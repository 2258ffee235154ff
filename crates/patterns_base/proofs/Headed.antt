-- Edits of heads keep the position of the planned operation and the values that dominate it.
use Rattle.std.proofs.Common.{◌≡◌, refl, ap, sym, ◌∙◌, subst, ℕ, Bool, true, false, cond, ◌&&◌, ◌||◌, eqb, eqb-true, List, [], ◌∷◌, length, map, Some, None, inl, inr}
use Rattle.std.specs.List.{list_any}
use Rattle.std.specs.Prelude.{nat_lt}
use Rattle.ir_types.specs.declared.refusal.Refusal.{Refusal}
use Rattle.ir_tree.specs.declared.value.Value.{Value}
use Rattle.ir_tree.specs.declared.value.Value.TheVariants.{Result}
use Rattle.ir_tree.specs.declared.place.Place.{Place}
use Rattle.ir_tree.specs.Tree.{HeadOf, OpOf, op, head}
use Rattle.ir_tree.specs.Ids.{find}
use Rattle.ir_tree.specs.Uses.{same_value}
use Rattle.ir_tree.specs.Frames.{owner_of}
use Rattle.ir_tree.specs.Sites.{visible}
use Rattle.ir_tree.specs.Edits.{each_head, at, put_operand, put_values, with_operand, with_value_replaced}
use Rattle.ir_tree.specs.WellFormed.{ModuleOf, IsWellFormed}
use Rattle.ir_tree.proofs.Replaced.{same_value_true}
use Rattle.ir_tree_laws.specs.Stands.{OpWithPathOf, op_with_path_id, stands, dominated_by, edit_step, edit_stand}
use Rattle.ir_tree_laws.specs.Members.{In}
use Rattle.ir_tree_laws.specs.Reasons.{value_reason, operand_reason, set_operand_reason}
use Rattle.ir_tree_laws.proofs.Listed.{bool_cases, in_map}
use Rattle.ir_tree_laws.proofs.Members.{stand, stand_found, same_stand, itself}
use Rattle.ir_tree_laws.proofs.Heads.{Alike, each_stands, each_id, each_dominated_by}
use Rattle.ir_tree_laws.proofs.HeadForm.{alike_at, operand_keeps, replaced_keeps}
use Rattle.ir_tree_laws.proofs.DominatedBy.{stands_visible}
use Rattle.ir_tree_laws.proofs.Values.{not_own}
use Rattle.patterns_base.proofs.Given.{seer, seen_is, users_see_it}
use Rattle.patterns_base.proofs.Made.{Located}
use Rattle.patterns_base.proofs.Placed.{before_it}
use Rattle.ir_tree.proofs.Facts.{head_each}

module _ {N T A : Type 0} (isolated : N → Bool) where
  module _ (f : HeadOf N T A → HeadOf N T A) (alike : (h : HeadOf N T A) → Alike (f h) h) where
    pub dominated_by_headed : (t : OpOf N T A) (x : ℕ) (v : Value) → visible isolated (each_head f t) x v ≡ visible isolated t x v
    dominated_by_headed t x v = stands_visible isolated (each_head f t) x v ∙ ap (list_any (λ (s : OpWithPathOf N T A). eqb (op_with_path_id s) x && dominated_by isolated s.path v)) (each_stands f [] t) ∙ go (stands [] t) ∙ sym (stands_visible isolated t x v)
      where
        go : (ss : List (OpWithPathOf N T A)) → list_any (λ (s : OpWithPathOf N T A). eqb (op_with_path_id s) x && dominated_by isolated s.path v) (map (edit_stand f) ss) ≡ list_any (λ (s : OpWithPathOf N T A). eqb (op_with_path_id s) x && dominated_by isolated s.path v) ss
        go [] = refl
        go (s ∷ ss) = λ i. (eqb (each_id f alike s.here i) x && each_dominated_by f alike isolated s.path v i) || go ss i

    abbrev pub located_headed : (x : ℕ) (insertion : Place) (m : ModuleOf N T A) → Located isolated x insertion m → IsWellFormed isolated (record m { tree = each_head f m.tree }) → Located isolated x insertion (record m { tree = each_head f m.tree })
    located_headed x insertion m s w = record {
      wellformed = w;
      at = record {
        here = each_head f s.at.here;
        step_in = edit_step f s.at.step_in;
        path = map (edit_step f) s.at.path;
        there = subst (In (edit_stand f (stand s.at.here (s.at.step_in ∷ s.at.path)))) (sym (each_stands f [] m.tree)) (in_map (edit_stand f) (stand s.at.here (s.at.step_in ∷ s.at.path)) (stands [] m.tree) s.at.there);
        id = each_id f alike s.at.here ∙ s.at.id;
        place = s.at.place ∙ λ i. before_it (sym (each_id f alike s.at.step_in.parent) i) s.at.step_in.region x;
      };
    }

  -- the position of the operation
  pub found_there : (x : ℕ) (insertion : Place) (m : ModuleOf N T A) (s : Located isolated x insertion m) → find x m.tree ≡ Some s.at.here
  found_there x insertion m s = ap (λ z. find z m.tree) (sym s.at.id) ∙ stand_found m.tree s.wellformed.distinct (stand s.at.here (s.at.step_in ∷ s.at.path)) s.at.there

  pub not_root : (x : ℕ) (insertion : Place) (m : ModuleOf N T A) (s : Located isolated x insertion m) → eqb (head m.tree).id x ≡ false
  not_root x insertion m s = elim (bool_cases (eqb (head m.tree).id x)) [
    | inr k ↦ k
    | inl k ↦ (let same = same_stand m.tree s.wellformed.distinct (stand m.tree []) (stand s.at.here (s.at.step_in ∷ s.at.path)) (itself [] m.tree) s.at.there (eqb-true (head m.tree).id x k ∙ sym s.at.id) in
        let bad : [] ≡ s.at.step_in ∷ s.at.path = ap (λ (z : OpWithPathOf N T A). z.path) same in
        absurd cc)
  ]

  module _ (x : ℕ) (insertion : Place) (m : ModuleOf N T A) (s : Located isolated x insertion m) (v : Value) (seen : visible isolated m.tree x v ≡ true) where
    -- the value is set as an operand
    module _ (k : ℕ) (has : nat_lt k (length (head s.at.here).operands) ≡ true) where
      pub set_free : set_operand_reason isolated x k v m.tree ≡ None
      set_free =
          ap (operand_reason k (value_reason isolated x v m.tree)) (found_there x insertion m s)
          ∙ (λ i. cond (has i) (cond (seen_is isolated m.tree s.wellformed.distinct x v seen i) (cond (seen i) None (Some Refusal.NotVisible)) (Some Refusal.NoSuchValue)) (Some Refusal.NoSuchIndex))

      abbrev set_alike : (h : HeadOf N T A) → Alike (at x (put_operand k v) h) h
      set_alike = alike_at x (put_operand k v) (λ h. record { id = refl; name = refl; results = refl })

      abbrev pub set_located : Located isolated x insertion (record m { tree = with_operand x k v m.tree })
      set_located = located_headed (at x (put_operand k v)) set_alike x insertion m s (operand_keeps isolated x k v m s.wellformed seen)

      pub set_dominated_by : (w : Value) → visible isolated (with_operand x k v m.tree) x w ≡ visible isolated m.tree x w
      set_dominated_by w = dominated_by_headed (at x (put_operand k v)) set_alike m.tree x w

    -- the value isn't a result of x
    pub differs : (k : ℕ) → same_value (Result x k) v ≡ false
    differs k = elim (bool_cases (same_value (Result x k) v)) [
      | inr e ↦ e
      | inl e ↦ (let w = seer isolated m.tree s.wellformed.distinct x v seen in
          absurd (not_own isolated m.tree s.wellformed.distinct w.0 w.1 v w.3 (ap (λ z. (owner_of z).0) (sym (same_value_true (Result x k) v e)) ∙ sym w.2)))
    ]

    -- the value replaces one of the results of x
    module _ (k : ℕ) where
      abbrev pub replaced_located : Located isolated x insertion (record m { tree = with_value_replaced (Result x k) v m.tree })
      replaced_located = located_headed (put_values (Result x k) v) (λ h. record { id = refl; name = refl; results = refl }) x insertion m s
          (replaced_keeps isolated (Result x k) v m s.wellformed (users_see_it isolated m.tree s.wellformed.distinct s.wellformed.wellformed.visible x k v seen))

      pub replaced_dominated_by : (w : Value) → visible isolated (with_value_replaced (Result x k) v m.tree) x w ≡ visible isolated m.tree x w
      replaced_dominated_by w = dominated_by_headed (put_values (Result x k) v) (λ h. record { id = refl; name = refl; results = refl }) m.tree x w
