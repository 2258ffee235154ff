-- Each operand can be set during the replacement of a value.
use Rattle.std.proofs.Common.{◌≡◌, refl, ap, sym, ◌∙◌, subst, ℕ, ◌+◌, ◌<◌, Bool, true, false, cond, eqb, List, [], ◌∷◌, ◌++◌, length, None, Some, option_map, inl, inr, arith}
use Rattle.std.specs.Prelude.{nat_lt}
use Rattle.std.specs.Option.{option_eq}
use Rattle.std.proofs.lemmas.Bool.{lt-ltb}
use Rattle.std.proofs.lemmas.List.{length-set}
use Rattle.ir_event.specs.types.declared.refusal.Refusal.TheVariants.{NoSuchValue, NotVisible, NoSuchIndex, TypeDiffers}
use Rattle.ir_event.specs.trees.declared.value.Value.{Value}
use Rattle.ir_event.specs.trees.Tree.{HeadOf, OpOf, head}
use Rattle.ir_event.specs.trees.Ids.{HasDistinctIds, find}
use Rattle.ir_event.specs.trees.Uses.{same_value, operand_uses, uses_of}
use Rattle.ir_event.specs.trees.Sites.{visible}
use Rattle.ir_event.specs.trees.Edits.{each_head, at, put_operand, with_operand}
use Rattle.ir_event.specs.trees.WellFormed.{ModuleOf, IsWellFormed}
use Rattle.ir_event.proofs.of_trees.Heads.{head_find, head_visible, alike_operand}
use Rattle.ir_event.specs.tree_laws.Members.{In}
use Rattle.ir_event.specs.tree_laws.Stands.{OpWithPathOf, op_with_path_id, stands, dominated_by}
use Rattle.ir_event.specs.tree_laws.Values.{has_value, type_of_value}
use Rattle.ir_event.specs.tree_laws.Reasons.{value_reason, operand_reason, set_operand_reason, is_visible_to_users}
use Rattle.ir_event.proofs.of_tree_laws.Listed.{all_each, in_left}
use Rattle.ir_event.proofs.of_tree_laws.Readings.{stands_uses}
use Rattle.ir_event.proofs.of_tree_laws.Members.{found_stands, stand_found}
use Rattle.ir_event.proofs.of_tree_laws.DominatedBy.{visible_there}
use Rattle.ir_event.proofs.of_tree_laws.Values.{seen_by}
use Rattle.ir_event.proofs.of_tree_laws.Reasoned.{no_unless}
use Rattle.ir_event.proofs.of_tree_laws.HeadForm.{operand_keeps}
use Rattle.rewriter_machine.specs.Edits.{TestsOf, Replace, reason_by}
use Rattle.rewriter_machine.specs.Replacing.{all_set}
use Rattle.rewriter_machine.proofs.Left.{of_gather, user}
use Rattle.rewriter_machine.proofs.Parts.{in_middle}
use Rattle.ir_event.proofs.of_trees.Facts.{head_each}

-- the place of a use
below : (v : Value) (x k : ℕ) (ws : List Value) (u : ℕ × ℕ) → In u (operand_uses v x k ws) → u.1 < k + length ws
below v x k [] u h = absurd h
below v x k (w ∷ ws) u h = go (same_value v w) h (below v x (k + 1) ws u)
  where
    go : (b : Bool) → In u (cond b ((x, k) ∷ operand_uses v x (k + 1) ws) (operand_uses v x (k + 1) ws)) → (In u (operand_uses v x (k + 1) ws) → u.1 < k + 1 + length ws) → u.1 < k + length (w ∷ ws)
    go true (inl m) f = let e = ap (λ z. z.1) m in omega (arith, e)
    go true (inr m) f = let n = f m in omega (arith, n)
    go false m f = let n = f m in omega (arith, n)

module _ {N T A : Type 0} (isolated : N → Bool) (new : Value) where
  -- an operation has the operand, and the value is visible at it
  pub record Takes (u : ℕ × ℕ) (t : OpOf N T A) : Type 0 where
    pub here : OpOf N T A
    pub found : find u.0 t ≡ Some here
    pub place : nat_lt u.1 (length (head here).operands) ≡ true
    pub dominated_by_it : visible isolated t u.0 new ≡ true

  pub may_set : (u : ℕ × ℕ) (t : OpOf N T A) → HasDistinctIds t → Takes u t → set_operand_reason isolated u.0 u.1 new t ≡ None
  may_set u t d a =
      let z = found_stands u.0 t a.here a.found in
      let there : dominated_by isolated z.0.path new ≡ true = sym (visible_there isolated t d z.0 z.1 new) ∙ ap (λ y. visible isolated t y new) z.2 ∙ a.dominated_by_it in
      ap (operand_reason u.1 (value_reason isolated u.0 new t)) a.found
      ∙ ap (λ e. cond e (value_reason isolated u.0 new t) (Some NoSuchIndex)) a.place
      ∙ ap (λ e. cond e (cond (visible isolated t u.0 new) None (Some NotVisible)) (Some NoSuchValue)) (seen_by isolated t d z.0 z.1 new there).is
      ∙ ap (λ e. cond e None (Some NotVisible)) a.dominated_by_it

  as_many : (u : ℕ × ℕ) (h : HeadOf N T A) → length (at u.0 (put_operand u.1 new) h).operands ≡ length h.operands
  as_many u h = elim (eqb h.id u.0) as (λ b. length (cond b (put_operand u.1 new h) h).operands ≡ length h.operands) [ true ↦ length-set h.operands u.1 new | false ↦ refl ]

  -- the same after another operand is set
  still : (u z : ℕ × ℕ) (t : OpOf N T A) → Takes z t → Takes z (with_operand u.0 u.1 new t)
  still u z t a = record {
    here = each_head (at u.0 (put_operand u.1 new)) a.here;
    found = head_find (at u.0 (put_operand u.1 new)) (alike_operand u.0 u.1 new) z.0 t ∙ ap (option_map (each_head (at u.0 (put_operand u.1 new)))) a.found;
    place = ap (λ (h : HeadOf N T A). nat_lt z.1 (length h.operands)) (head_each (at u.0 (put_operand u.1 new)) a.here) ∙ ap (nat_lt z.1) (as_many u (head a.here)) ∙ a.place;
    dominated_by_it = head_visible (at u.0 (put_operand u.1 new)) (alike_operand u.0 u.1 new) isolated t z.0 new ∙ a.dominated_by_it;
  }

  all_wellformed : (us : List (ℕ × ℕ)) (m : ModuleOf N T A) → IsWellFormed isolated m → ((z : ℕ × ℕ) → In z us → Takes z m.tree) → IsWellFormed isolated (record m { tree = all_set new us m.tree })
  all_wellformed [] m w f = w
  all_wellformed (u ∷ us) m w f =
      all_wellformed us (record m { tree = with_operand u.0 u.1 new m.tree }) (operand_keeps isolated u.0 u.1 new m w (f u (inl refl)).dominated_by_it) (λ z h. still u z m.tree (f z (inr h)))

  all_still : (us : List (ℕ × ℕ)) (z : ℕ × ℕ) (t : OpOf N T A) → Takes z t → Takes z (all_set new us t)
  all_still [] z t a = a
  all_still (u ∷ us) z t a = all_still us z (with_operand u.0 u.1 new t) (still u z t a)

module _ {N T A : Type 0} (w : TestsOf N T) (old new : Value) (m : ModuleOf N T A) (f : IsWellFormed w.isolated m) (e : reason_by w (Replace old new) m ≡ None) where
  pub uses_see : is_visible_to_users w.isolated old new m.tree ≡ true
  uses_see =
      let a = no_unless (has_value old m.tree) NoSuchValue _ e in
      let b = no_unless (has_value new m.tree) NoSuchValue _ a.1 in
      let d = no_unless (option_eq w.same_type (type_of_value old m.tree) (type_of_value new m.tree)) TypeDiffers _ b.1 in
      (no_unless (is_visible_to_users w.isolated old new m.tree) NotVisible None d.1).0

  pub each_takes : (z : ℕ × ℕ) → In z (uses_of old m.tree) → Takes w.isolated new z m.tree
  each_takes z h =
      let g = of_gather (λ (s : OpWithPathOf N T A). operand_uses old (op_with_path_id s) 0 (head s.here).operands) z (stands [] m.tree) (subst (In z) (sym (stands_uses old [] m.tree)) h) in
      record {
        here = g.0.here;
        found = ap (λ y. find y m.tree) (user old (op_with_path_id g.0) 0 (head g.0.here).operands z g.2) ∙ stand_found m.tree f.distinct g.0 g.1;
        place = lt-ltb z.1 (length (head g.0.here).operands) (let n = below old (op_with_path_id g.0) 0 (head g.0.here).operands z g.2 in omega (arith, n));
        dominated_by_it = all_each (λ u. visible w.isolated m.tree u.0 new) (uses_of old m.tree) uses_see z h;
      }

  pub set_wellformed : (us vs : List (ℕ × ℕ)) → us ++ vs ≡ uses_of old m.tree → IsWellFormed w.isolated (record m { tree = all_set new us m.tree })
  set_wellformed us vs is = all_wellformed w.isolated new us m f (λ z h. each_takes z (subst (In z) is (in_left z us vs h)))

  pub set_allowed : (us vs : List (ℕ × ℕ)) (u : ℕ × ℕ) → us ++ u ∷ vs ≡ uses_of old m.tree → set_operand_reason w.isolated u.0 u.1 new (all_set new us m.tree) ≡ None
  set_allowed us vs u is =
      may_set w.isolated new u (all_set new us m.tree) (set_wellformed us (u ∷ vs) is).distinct (all_still w.isolated new us u m.tree (each_takes u (subst (In u) is (in_middle us vs u))))
