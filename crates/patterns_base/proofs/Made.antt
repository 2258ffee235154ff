-- An operation is inserted before another.
use Rattle.std.proofs.Common.{◌≡◌, refl, ap, sym, ◌∙◌, ℕ, ◌+◌, Bool, true, false, true≢false, ◌∷◌, length, Option, Some, None, option_map, arith, le-leb}
use Rattle.std.specs.List.{list_all}
use Rattle.std.specs.Prelude.{nat_lt}
use Rattle.ir_types.specs.declared.refusal.Refusal.{Refusal}
use Rattle.ir_tree.specs.declared.value.Value.{Value}
use Rattle.ir_tree.specs.declared.value.Value.TheVariants.{Result}
use Rattle.ir_tree.specs.declared.place.Place.{Place}
use Rattle.ir_tree.specs.Tree.{OpOf, op, head, regions}
use Rattle.ir_tree.specs.Ids.{find, has_id, op_count}
use Rattle.ir_tree.specs.Limits.{most_ops, most_next, most_around, op_fits}
use Rattle.ir_tree.specs.Sites.{visible}
use Rattle.ir_tree.specs.Places.{put, place_of}
use Rattle.ir_tree.specs.WellFormed.{ModuleOf, IsWellFormed}
use Rattle.ir_tree_laws.specs.Values.{has_value}
use Rattle.ir_tree_laws.specs.Reads.{around}
use Rattle.ir_tree_laws.specs.Reasons.{unless, has_place, fits_around, with_id, put_reason, hold_none}
use Rattle.ir_tree_laws.specs.Restores.{MayPut}
use Rattle.ir_tree_laws.proofs.Listed.{all_each, each_all, both_hold}
use Rattle.ir_tree_laws.proofs.Members.{stand}
use Rattle.ir_tree_laws.proofs.PutForm as put_form
use Rattle.ir_tree_laws.proofs.Wellformed.{from_wellformed}
use Rattle.ir_tree_laws.proofs.WellKept.{may_put_leaf, put_keeps}
use Rattle.patterns_base.proofs.Given.{seen_is}
use Rattle.patterns_base.proofs.Placed as placed
use Rattle.patterns_base.proofs.Placed.{Following, before_it, after_of}
use Rattle.ir_tree_laws.proofs.Facts.{new_id, new_operands, new_results}
use Rattle.ir_tree_laws.proofs.Reverted.{passed}

module _ {N T A : Type 0} (isolated : N → Bool) where
  -- operation x of a well-formed module comes after a place
  pub record Located (x : ℕ) (insertion : Place) (m : ModuleOf N T A) : Type 0 where
    pub wellformed : IsWellFormed isolated m
    pub at : Following x insertion m.tree

  pub located : (x : ℕ) (place : Place) (m : ModuleOf N T A) → IsWellFormed isolated m → place_of x m.tree ≡ Some place → Located x (record place { before = Some x }) m
  located x place m w e = record { wellformed = w; at = after_of x place m.tree e }

  module _ (x : ℕ) (insertion : Place) (m : ModuleOf N T A) (s : Located x insertion m) where
    pub point : has_place insertion m.tree ≡ true
    point = placed.point x insertion m.tree s.wellformed.distinct s.at

    levels : fits_around 0 (around insertion.parent m.tree) ≡ true
    levels =
        ap (fits_around 0) (placed.around_is x insertion m.tree s.wellformed.distinct s.at)
        ∙ (let n = (from_wellformed isolated m.tree s.wellformed.wellformed).shallow (stand s.at.here (s.at.step_in ∷ s.at.path)) s.at.there in le-leb (length s.at.path + 1 + 0) most_around (omega (arith, n)))

    -- an operation with nothing inside, whose operands dominate x, is inserted before x
    module _ (o : OpOf N T A) (leaf : hold_none (regions o) ≡ true) where
      abbrev pub new : OpOf N T A
      new = with_id m.next o

      pub may : MayPut insertion (with_id m.next o) m.tree
      may = may_put_leaf isolated insertion o m s.wellformed leaf point

      -- the values that dominated x still do
      pub dominated_by_still : (v : Value) → visible isolated m.tree x v ≡ true → visible isolated (put insertion (with_id m.next o) m.tree) x v ≡ true
      dominated_by_still = placed.dominated_by_still x insertion m.tree s.wellformed.distinct s.at new may isolated

      -- the values that dominate x dominate the new operation
      pub new_dominated_by : (v : Value) → visible isolated m.tree x v ≡ true → visible isolated (put insertion (with_id m.next o) m.tree) m.next v ≡ true
      new_dominated_by v e = ap (λ z. visible isolated (put insertion new m.tree) z v) (sym (new_id m.next o)) ∙ placed.new_dominated_by x insertion m.tree s.wellformed.distinct s.at new may isolated v e

      -- the results of the new operation dominate x
      pub dominated_by_new : (k : ℕ) → nat_lt k (length (head o).results) ≡ true → visible isolated (put insertion (with_id m.next o) m.tree) x (Result m.next k) ≡ true
      dominated_by_new k l = ap (λ z. visible isolated (put insertion new m.tree) x (Result z k)) (sym (new_id m.next o)) ∙ placed.dominated_by_new x insertion m.tree s.wellformed.distinct s.at new may isolated k (ap (λ z. nat_lt k (length z)) (new_results m.next o) ∙ l)

      -- the other operations keep their heads
      pub heads_stay : (y : ℕ) → has_id y m.tree ≡ true → option_map head (find y (put insertion (with_id m.next o) m.tree)) ≡ option_map head (find y m.tree)
      heads_stay = placed.heads_stay x insertion m.tree s.wellformed.distinct s.at new may

      pub new_found : find m.next (put insertion (with_id m.next o) m.tree) ≡ Some (with_id m.next o)
      new_found = ap (λ z. find z (put insertion new m.tree)) (sym (new_id m.next o)) ∙ put_form.put_found insertion new m.tree may

      module _ (seen : list_all (visible isolated m.tree x) (head o).operands ≡ true) (fits : op_fits o ≡ true) (headroom : nat_lt (op_count m.tree) most_ops ≡ true) (more : nat_lt m.next most_next ≡ true) where
        -- the insertion isn't refused
        pub make_free : put_reason isolated insertion o m.next m.tree ≡ None
        make_free =
            passed _ _ _ (placed.parent_is x insertion m.tree s.wellformed.distinct s.at)
            (passed _ _ _ point
            (passed _ _ _ (both_hold _ _ headroom fits)
            (passed _ _ _ more
            (passed _ _ _ levels
            (passed _ _ _ (each_all (λ v. has_value v m.tree) (head o).operands (λ v i. seen_is isolated m.tree s.wellformed.distinct x v (all_each (visible isolated m.tree x) (head o).operands seen v i)))
            (passed _ _ _ (each_all (visible isolated (put insertion new m.tree) m.next) (head o).operands (λ v i. new_dominated_by v (all_each (visible isolated m.tree x) (head o).operands seen v i))) refl))))))

        -- x still comes after the place
        abbrev pub make_located : Located x insertion (record { tree = put insertion (with_id m.next o) m.tree; next = m.next + 1 })
        make_located = record {
          wellformed = put_keeps isolated insertion o m s.wellformed leaf make_free;
          at = placed.after_still x insertion m.tree s.wellformed.distinct s.at new may;
        }
