-- A value replaces the one result of an operation, and the operation is erased.
use Rattle.std.proofs.Common.{◌≡◌, refl, ap, sym, ◌∙◌, subst, ℕ, ◌<◌, Bool, true, [], ◌∷◌, length, arith}
use Rattle.ir_tree.specs.declared.value.Value.{Value}
use Rattle.ir_tree.specs.declared.value.Value.TheVariants.{Result}
use Rattle.ir_tree.specs.declared.place.Place.{Place}
use Rattle.ir_tree.specs.Tree.{HeadOf, OpOf, op, head}
use Rattle.ir_tree.specs.Ids.{has_id}
use Rattle.ir_tree.specs.Uses.{uses_of}
use Rattle.ir_tree.specs.Sites.{visible}
use Rattle.ir_tree.specs.Edits.{each_head, put_values, with_value_replaced}
use Rattle.ir_tree.specs.WellFormed.{ModuleOf}
use Rattle.ir_tree.proofs.Replaced.{old_unused}
use Rattle.ir_tree_laws.specs.Reasons.{unused_outside, is_visible_to_users}
use Rattle.ir_tree_laws.specs.Values.{has_value}
use Rattle.ir_tree_laws.proofs.Around.{stand_present}
use Rattle.ir_tree_laws.proofs.Members.{stand}
use Rattle.patterns_base.proofs.Given.{seen_is, users_see_it}
use Rattle.patterns_base.proofs.Made.{Located}
use Rattle.patterns_base.proofs.Headed.{found_there, not_root, differs, replaced_located}
use Rattle.patterns_base.proofs.Erasing.{nobody_uses}

module _ {N T A : Type 0} (isolated : N → Bool) where
  one_result : (f : HeadOf N T A → HeadOf N T A) (o : OpOf N T A) → ((h : HeadOf N T A) → (f h).results ≡ h.results) → (head (each_head f o)).results ≡ (head o).results
  one_result f (op h rs) e = e h

  pub there_is : (x : ℕ) (insertion : Place) (m : ModuleOf N T A) (s : Located isolated x insertion m) → has_id x m.tree ≡ true
  there_is x insertion m s = ap (λ z. has_id z m.tree) (sym s.at.id) ∙ stand_present [] m.tree (stand s.at.here (s.at.step_in ∷ s.at.path)) s.at.there

  -- the operation may be erased if none of its results is used
  pub may_erase : (x : ℕ) (insertion : Place) (m : ModuleOf N T A) (s : Located isolated x insertion m) → ((k : ℕ) → k < length (head s.at.here).results → uses_of (Result x k) m.tree ≡ []) → unused_outside x m.tree ≡ true
  may_erase x insertion m s unused = nobody_uses isolated x m.tree s.at.here s.wellformed.distinct (not_root isolated x insertion m s) (found_there isolated x insertion m s) s.wellformed.wellformed.visible unused

  module _ (x : ℕ) (insertion : Place) (m : ModuleOf N T A) (s : Located isolated x insertion m) (v : Value) (seen : visible isolated m.tree x v ≡ true) (ty : T) (one : (head s.at.here).results ≡ ty ∷ []) where
    -- after the replacement
    abbrev pub replaced : ModuleOf N T A
    replaced = record m { tree = with_value_replaced (Result x 0) v m.tree }

    abbrev pub given_located : Located isolated x insertion (record m { tree = with_value_replaced (Result x 0) v m.tree })
    given_located = replaced_located isolated x insertion m s v seen 0

    -- it may be erased
    pub given_spared : unused_outside x (with_value_replaced (Result x 0) v m.tree) ≡ true
    given_spared = may_erase x insertion replaced given_located (λ k l. first k (let e = ap length (one_result (put_values (Result x 0) v) s.at.here (λ h. refl) ∙ one) in omega (arith, l, e)))
      where
        first : (k : ℕ) → k < 1 → uses_of (Result x k) (with_value_replaced (Result x 0) v m.tree) ≡ []
        first k l = subst (λ j. uses_of (Result x j) (with_value_replaced (Result x 0) v m.tree) ≡ []) (let e : 0 ≡ k = omega (arith, l) in e) (old_unused (Result x 0) v (differs isolated x insertion m s v seen 0) m.tree)

    pub given_users : is_visible_to_users isolated (Result x 0) v m.tree ≡ true
    given_users = users_see_it isolated m.tree s.wellformed.distinct s.wellformed.wellformed.visible x 0 v seen

    pub given_is : has_value v m.tree ≡ true
    given_is = seen_is isolated m.tree s.wellformed.distinct x v seen
