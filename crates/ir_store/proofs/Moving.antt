-- The reasons against shifting an operation, with the check of dominance last.
use Rattle.std.proofs.Common.{◌≡◌, refl, ap, sym, ◌∙◌, subst, ℕ, ◌≤◌, Bool, true, false, true≢false, not, ◌&&◌, eqb, length, Option, Some, None, arith}
use Rattle.std.specs.Prelude.{nat_lt, is_some}
use Rattle.std.proofs.lemmas.Bool.{leb-true}
use Rattle.std.proofs.lemmas.Bool.Decides.{nat_tests}
use Rattle.ir_store_reads.specs.types.declared.refusal.Refusal.{Refusal}
use Rattle.ir_store_reads.specs.types.declared.refusal.Refusal.TheVariants.{NoSuchOp, NoSuchIndex, NotVisible, IsRoot, IntoItself, OtherTable, TooDeepHere}
use Rattle.ir_store_reads.specs.types.Reasons.{first_reason}
use Rattle.ir_store_reads.specs.trees.declared.place.Place.{Place}
use Rattle.ir_store_reads.specs.trees.Tree.{Op, OpOf, op, head}
use Rattle.ir_store_reads.specs.trees.Ids.{find, has_id}
use Rattle.ir_store_reads.specs.trees.Limits.{items_fit, most_around, most_items, op_fits}
use Rattle.ir_store_reads.specs.trees.Places.{shifted}
use Rattle.ir_store_reads.specs.trees.Sites.{operands_visible}
use Rattle.ir_store_reads.specs.trees.WellFormed.{IsWellFormed, Module}
use Rattle.ir_store_reads.specs.tree_laws.Reads.{around}
use Rattle.ir_store_reads.specs.tree_laws.Tables.{table_of}
use Rattle.ir_store_reads.specs.tree_laws.Reasons.{unless, has_place, leads_inside, same_table, fits_around, levels_in, shift_reason}
use Rattle.ir_store_reads.proofs.of_tree_laws.Listed.{both}
use Rattle.ir_store_reads.proofs.of_tree_laws.Wellformed.{from_wellformed}
use Rattle.ir_store_reads.proofs.of_tree_laws.Members.{found_stands}
use Rattle.ir_store_reads.proofs.of_tree_laws.Reasoned.{no_unless}
use Rattle.ir_store.specs.Shifting.{CanRelink, relink_reason, unseen_reason}
use Rattle.ir_store.specs.Looks.{CanLook, is_dominated, results_in}
use Rattle.ir_store.proofs.Relinked.{can_relink, parent_there}
use Rattle.ir_store.proofs.Rising.{around_some, the_op}
use Rattle.ir_store.proofs.Back.{after_found}
use Rattle.ir_store.proofs.Seen.{seen_is}
use Rattle.ir_store.proofs.Tabled.{found_there}
use Rattle.ir_store_reads.proofs.of_trees.of_types.AcceptedCalls.{neither}

-- the check of dominance is last
in_order : (a b c d e f : Bool) (rest : Option Refusal)
    → unless a NoSuchOp (unless b IsRoot (unless c NoSuchIndex (unless d IntoItself (unless e OtherTable (unless f TooDeepHere rest)))))
    ≡ first_reason (first_reason (unless a NoSuchOp (unless b IsRoot (unless c NoSuchIndex (unless d IntoItself None)))) (unless e OtherTable (unless f TooDeepHere None))) rest
in_order false b c d e f rest = refl
in_order true false c d e f rest = refl
in_order true true false d e f rest = refl
in_order true true true false e f rest = refl
in_order true true true true false f rest = refl
in_order true true true true true false rest = refl
in_order true true true true true true rest = refl

module _ {N T A : Type 0} (isolated is_table : N → Bool) (x : ℕ) (place : Place) (t : OpOf N T A) where
  pub shift_reason_is : shift_reason isolated is_table x place t ≡ first_reason (unseen_reason is_table x place t) (unless (operands_visible isolated (shifted x place t)) NotVisible None)
  shift_reason_is = in_order (has_id x t && has_id place.parent t) (not (eqb (head t).id x)) (has_place place t) (not (leads_inside place (find x t)))
      (same_table (table_of is_table x t) (table_of is_table x (shifted x place t))) (fits_around (levels_in (find x t)) (around place.parent t)) _

  pub refused_before : (e : Refusal) → unseen_reason is_table x place t ≡ Some e → shift_reason isolated is_table x place t ≡ Some e
  refused_before e h = shift_reason_is ∙ ap (λ r. first_reason r (unless (operands_visible isolated (shifted x place t)) NotVisible None)) h

  pub by_dominance : unseen_reason is_table x place t ≡ None → shift_reason isolated is_table x place t ≡ unless (operands_visible isolated (shifted x place t)) NotVisible None
  by_dominance h = shift_reason_is ∙ ap (λ r. first_reason r (unless (operands_visible isolated (shifted x place t)) NotVisible None)) h

leaves_headroom : (n : ℕ) (o : Option ℕ) → is_some o ≡ true → fits_around n o ≡ true → nat_lt n most_around ≡ true
leaves_headroom n None e f = absurd (true≢false (sym e))
leaves_headroom n (Some m) e f = grind (arith, nat_tests, f)

few_results : {N T A : Type 0} (o : OpOf N T A) → op_fits o ≡ true → length (head o).results ≤ most_items
few_results (op h rs) e =
    let a = both (items_fit h.operands) _ (both _ _ e).0 in
    let b = both (items_fit h.results) _ a.1 in
    leb-true (length h.results) most_items b.0

module _ (isolated is_table : ℕ → Bool) (x : ℕ) (place : Place) (m : Module) (w : IsWellFormed isolated m) (e : unseen_reason is_table x place m.tree ≡ None) where
  abbrev t : Op
  t = m.tree

  parts : (relink_reason x place t ≡ None) × (unless (same_table (table_of is_table x t) (table_of is_table x (shifted x place t))) OtherTable (unless (fits_around (levels_in (find x t)) (around place.parent t)) TooDeepHere None) ≡ None)
  parts = neither (relink_reason x place t) _ e

  pub may_relink : CanRelink x place m.tree
  may_relink = can_relink x place t parts.0

  levels : fits_around (levels_in (find x t)) (around place.parent t) ≡ true
  levels = (no_unless _ TooDeepHere None (no_unless _ OtherTable _ parts.1).1).0

  own : (o : Op) × (find x t ≡ Some o)
  own = the_op t w.distinct x may_relink.there

  out : leads_inside place (Some own.0) ≡ false
  out = ap (leads_inside place) (sym own.1) ∙ may_relink.outside

  after : find x (shifted x place t) ≡ Some own.0
  after = after_found x place t own.0 w.distinct own.1 may_relink.inner may_relink.point out

  own_fits : op_fits own.0 ≡ true
  own_fits =
      let g = from_wellformed isolated t w.wellformed in
      let s = found_stands x t own.0 own.1 in
      ap op_fits (sym s.3) ∙ g.fits s.0 s.1

  -- the precondition of the check, after the move
  pub may_look : CanLook x (shifted x place m.tree)
  may_look = record {
    there = found_there x (shifted x place t) own.0 after;
    levels = leaves_headroom (levels_in (find x (shifted x place t))) (around place.parent t) (around_some t w.distinct place.parent (parent_there x place t parts.0)) (ap (λ z. fits_around (levels_in z) (around place.parent t)) (after ∙ sym own.1) ∙ levels);
    results = subst (λ z. results_in z ≤ most_items) (sym after) (few_results own.0 own_fits);
  }

  dominance : is_dominated isolated x (shifted x place t) ≡ operands_visible isolated (shifted x place t)
  dominance = seen_is x place t own.0 w.distinct own.1 may_relink.inner may_relink.point out isolated (w.wellformed.visible)

  pub seen_reason : is_dominated isolated x (shifted x place m.tree) ≡ true → shift_reason isolated is_table x place m.tree ≡ None
  seen_reason k = by_dominance isolated is_table x place t e ∙ ap (λ b. unless b NotVisible None) (sym dominance ∙ k)

  pub unseen_refused : is_dominated isolated x (shifted x place m.tree) ≡ false → shift_reason isolated is_table x place m.tree ≡ Some NotVisible
  unseen_refused k = by_dominance isolated is_table x place t e ∙ ap (λ b. unless b NotVisible None) (sym dominance ∙ k)
