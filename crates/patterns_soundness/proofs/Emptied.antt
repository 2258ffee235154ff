-- All operations of a block but the last are inserted before the operation around it: the values that dominate the
-- last one.
use Rattle.std.proofs.Common.{◌≡◌, refl, ap, sym, ◌∙◌, subst, ℕ, true, false, ◌&&◌, not, eqb, eqb-true, List, [], ◌∷◌, ◌++◌, length, map, Option, Some, None, option_map, inl, inr, arith, append_assoc}
use Rattle.std.specs.Option.{option_eq}
use Rattle.ir_event.specs.types.Words.{is_isolated, is_table}
use Rattle.ir_event.specs.types.Terms.{TypeTerm, AttrTerm}
use Rattle.ir_event.specs.types.SameTypes.{same_type}
use Rattle.ir_event.specs.trees.declared.value.Value.{Value}
use Rattle.ir_event.specs.trees.declared.value.Value.TheVariants.{Result, Arg}
use Rattle.ir_event.specs.trees.declared.place.Place.{Place}
use Rattle.ir_event.specs.trees.Tree.{block, OpsOf, no_ops, next, head, regions}
use Rattle.ir_event.specs.trees.Ids.{find}
use Rattle.ir_event.specs.trees.Sites.{arguments, shows}
use Rattle.ir_event.specs.trees.Uses.{operand_uses, uses_of}
use Rattle.ir_event.specs.trees.Meaning.{Operation}
use Rattle.ir_event.proofs.of_trees.Replaced.{same_value_refl}
use Rattle.ir_event.specs.tree_laws.Stands.{OpWithPathOf, op_with_path_id, stands, dominated_by as dominated_by_from}
use Rattle.ir_event.specs.tree_laws.Members.{In}
use Rattle.ir_event.specs.tree_laws.Values.{region_at, type_of_value}
use Rattle.ir_event.proofs.of_tree_laws.HeadForm.{in_gather, used_here}
use Rattle.ir_event.proofs.of_tree_laws.Listed.{both, either}
use Rattle.ir_event.proofs.of_tree_laws.Members.{joined_ops, stand, stand_found}
use Rattle.ir_event.proofs.of_tree_laws.Readings.{stands_uses, step}
use Rattle.ir_event.proofs.of_tree_laws.DominatedBy.{visible_there}
use Rattle.listeners_support.proofs.Points.{stands_in}
use Rattle.ir_verify_base.specs.Fits.{there}
use Rattle.ir_verify_base.specs.Types.{same_types}
use Rattle.ir_event.specs.Modules.{Module}
use Rattle.rewriter_machine.specs.Contents.{all_edited}
use Rattle.rewriter_machine.specs.Edits.{Erase}
use Rattle.patterns_base.specs.Lists.{Free}
use Rattle.patterns_base.proofs.Body.{list_ids}
use Rattle.patterns_base.proofs.Headed.{found_there}
use Rattle.patterns_base.proofs.Plans.{HasFirst, move_free, move_rest, moving, dominated_by}
use Rattle.patterns_soundness.specs.base.Looks.{Ended, Header}
use Rattle.patterns_soundness.specs.base.Makes.{give_body, replacing, results_from}
use Rattle.patterns_soundness.proofs.Ends.{Ending}
use Rattle.patterns_soundness.proofs.Results.{AreGiven, results_free}
use Rattle.patterns_soundness.proofs.Shifts.{moved_heads, moved_types}
use Rattle.patterns_soundness.proofs.Points.{Point, here_is, own_operand, stands_there}
use Rattle.std.proofs.lemmas.Option.{same_Some}

abbrev OpWithPath : Type 0
OpWithPath = OpWithPathOf (List ℕ) TypeTerm AttrTerm

-- if one operation is left in a block, no value of the block dominates it, so the values that dominate it dominate the
-- operation around it
module _ (x r : ℕ) (insertion : Place) (y : ℕ) (m : Module) (h : HasFirst x r insertion (y ∷ []) m) where
  module _ (o : Operation) (os : OpsOf (List ℕ) TypeTerm AttrTerm) (is : region_at r (regions h.located.at.here) ≡ Some (block h.args (next o os))) where
    there_it : In (stand o (step h.located.at.here r h.args [] os ∷ h.located.at.step_in ∷ h.located.at.path)) (stands [] m.tree)
    there_it = stands_in m.tree h.located.at.here (h.located.at.step_in ∷ h.located.at.path) r h.args [] o os h.located.at.there is

    unused_argument : (k : ℕ) → In (Arg x r k) (head o).operands → ⊥
    unused_argument k i =
        let s = stand o (step h.located.at.here r h.args [] os ∷ h.located.at.step_in ∷ h.located.at.path) in
        let n = used_here (Arg x r k) (op_with_path_id s) 0 (head o).operands (Arg x r k) i (same_value_refl (Arg x r k)) in
        subst (In (op_with_path_id s, n.0)) (stands_uses (Arg x r k) [] m.tree ∙ h.spared k) (in_gather (λ (z : OpWithPath). operand_uses (Arg x r k) (op_with_path_id z) 0 (head z.here).operands) (op_with_path_id s, n.0) s (stands [] m.tree) there_it n.1)

    no_argument : (v : Value) → In v (head o).operands → shows v (arguments (head h.located.at.here).id r (length h.args)) ≡ true → ⊥
    no_argument (Result z k) i e = absurd cc
    no_argument (Arg z q k) i e =
        let a = both (eqb z (head h.located.at.here).id) _ e in
        let b = both (eqb q r) _ a.1 in
        unused_argument k (subst (λ (v : Value). In v (head o).operands) (λ j. Arg ((eqb-true z (head h.located.at.here).id a.0 ∙ h.located.at.id) j) (eqb-true q r b.0 j) k) i)

    seen_around : (v : Value) → In v (head o).operands → dominated_by x v m ≡ true
    seen_around v i =
        let p = h.located.at.step_in ∷ h.located.at.path in
        let own = own_operand m.tree h.located.wellformed.distinct h.located.wellformed.wellformed.visible (stand o (step h.located.at.here r h.args [] os ∷ p)) there_it v i in
        elim (either (shows v (arguments (head h.located.at.here).id r (length h.args))) (not (is_isolated (head h.located.at.here).name) && dominated_by_from is_isolated p v) own) [
          | inl k ↦ absurd (no_argument v i k)
          | inr k ↦ ap (λ z. dominated_by z v m) (sym h.located.at.id) ∙ visible_there is_isolated m.tree h.located.wellformed.distinct (stand h.located.at.here p) h.located.at.there v ∙ (both (not (is_isolated (head h.located.at.here).name)) (dominated_by_from is_isolated p v) k).1
        ]

  pub end_seen : (f : Header) → option_map head (find y m.tree) ≡ Some f → (v : Value) → In v f.operands → dominated_by x v m ≡ true
  end_seen f e v i = go h.list h.is h.ids
    where
      go : (os : OpsOf (List ℕ) TypeTerm AttrTerm) → region_at r (regions h.located.at.here) ≡ Some (block h.args os) → list_ids os ≡ y ∷ [] → dominated_by x v m ≡ true
      go no_ops is ids = absurd cc
      go (next o os) is ids =
          let id : (head o).id ≡ y = cc in
          let found : find y m.tree ≡ Some o = ap (λ z. find z m.tree) (sym id) ∙ stand_found m.tree h.located.wellformed.distinct _ (there_it o os is) in
          let one : head o ≡ f = same_Some (head o) f (sym (ap (option_map head) found) ∙ e) in
          seen_around o os is v (subst (λ (z : Header). In v z.operands) (sym one) i)

-- values have these types
abbrev pub HaveTypes : List Value → List TypeTerm → Module → Type 0
HaveTypes [] [] m = Unit {0}
HaveTypes (v ∷ vs) (ty ∷ tys) m = ((u : TypeTerm) × (type_of_value v m.tree ≡ Some u) × (same_type ty u ≡ true)) × HaveTypes vs tys m
HaveTypes _ _ m = ⊥

pub have_types : (vs : List Value) (tys : List TypeTerm) (m : Module) → same_types (there tys) (map (λ v. type_of_value v m.tree) vs) ≡ true → HaveTypes vs tys m
have_types [] [] m e = tt
have_types (v ∷ vs) (ty ∷ tys) m e =
    let b = both (option_eq same_type (Some ty) (type_of_value v m.tree)) _ e in
    (one (type_of_value v m.tree) b.0, have_types vs tys m b.1)
  where
    one : (o : Option TypeTerm) → option_eq same_type (Some ty) o ≡ true → (u : TypeTerm) × (o ≡ Some u) × (same_type ty u ≡ true)
    one None e = absurd cc
    one (Some u) e = (u, refl, e)
have_types [] (ty ∷ tys) m e = absurd cc
have_types (v ∷ vs) [] m e = absurd cc

-- values of these types that dominate x do so in another module with the same types
all_given : (x : ℕ) (insertion : Place) (vs : List Value) (tys : List TypeTerm) (m n : Module) → HaveTypes vs tys m → ((v : Value) → type_of_value v n.tree ≡ type_of_value v m.tree) → ((v : Value) → In v vs → dominated_by x v n ≡ true) → AreGiven x insertion vs tys n
all_given x insertion [] [] m n g types seen = tt
all_given x insertion (v ∷ vs) (ty ∷ tys) m n g types seen = ((seen v (inl refl), (g.0.0, types v ∙ g.0.1, g.0.2)), all_given x insertion vs tys m n g.1 types (λ w i. seen w (inr i)))
all_given x insertion [] (ty ∷ tys) m n g types seen = absurd g
all_given x insertion (v ∷ vs) [] m n g types seen = absurd g

-- the operations of a block but the last are inserted before x, and the operands of the last one replace the results
-- of x
module _ (x r : ℕ) (insertion : Place) (ys : List ℕ) (y : ℕ) (m : Module) (h : HasFirst x r insertion (ys ++ y ∷ []) m) (f : Header) (last : option_map head (find y m.tree) ≡ Some f) where
  abbrev n : Module
  n = all_edited (moving insertion ys) m

  left : HasFirst x r insertion (y ∷ []) (all_edited (moving insertion ys) m)
  left = move_rest x r insertion ys (y ∷ []) m h

  results_left : (head left.located.at.here).results ≡ (head h.located.at.here).results
  results_left =
      let two : Some (head left.located.at.here) ≡ Some (head h.located.at.here) = ap (option_map head) (sym (found_there is_isolated x insertion n left.located)) ∙ moved_heads x r insertion ys (y ∷ []) m h x ∙ ap (option_map head) (found_there is_isolated x insertion m h.located) in
      ap (λ (z : Header). z.results) (same_Some (head left.located.at.here) (head h.located.at.here) two)

  pub body_free : (vs : List Value) → ((v : Value) → In v vs → In v f.operands) → HaveTypes vs (head h.located.at.here).results m → Free (give_body insertion x ys vs) m
  body_free vs among types =
      subst (λ es. Free es m) (sym (append_assoc (moving insertion ys) (replacing (results_from x 0 vs) vs) (Erase x ∷ [])))
      (move_free x r insertion ys (y ∷ []) m h (replacing (results_from x 0 vs) vs ++ Erase x ∷ [])
      (results_free x insertion vs (head h.located.at.here).results [] n left.located results_left
      (all_given x insertion vs (head h.located.at.here).results m n types (moved_types x r insertion ys (y ∷ []) m h) (λ v i. end_seen x r insertion y n left f (moved_heads x r insertion ys (y ∷ []) m h y ∙ last) v (among v i)))
      0 refl (λ j l. absurd (omega (arith, l)))))

-- a block that ends with a verified operation
pub joined_ids : (fs : List Operation) (l : Operation) → list_ids (joined_ops fs (next l no_ops)) ≡ map (λ (o : Operation). (head o).id) fs ++ (head l).id ∷ []
joined_ids [] l = refl
joined_ids (f ∷ fs) l = ap (λ is. (head f).id ∷ is) (joined_ids fs l)

module _ (m : Module) (o : Operation) (insertion : Place) (s : Point m o insertion) (r : ℕ) (e : Ended) (n : Ending m.tree o r e) (opened : is_isolated (head o).name ≡ false) (simple : is_table (head o).name ≡ false) (spared : (k : ℕ) → uses_of (Arg (head o).id r k) m.tree ≡ []) where
  pub has_first : HasFirst (head o).id r insertion (e.before ++ e.last.id ∷ []) m
  has_first = record {
    located = stands_there m o insertion s;
    args = n.args;
    list = joined_ops n.preceding (next n.last no_ops);
    is = ap (λ z. region_at r (regions z)) (here_is m o insertion s) ∙ n.block;
    ids = joined_ids n.preceding n.last ∙ λ i. sym n.before i ++ (sym n.is i).id ∷ [];
    opened = ap (λ z. is_isolated (head z).name) (here_is m o insertion s) ∙ opened;
    simple = ap (λ z. is_table (head z).name) (here_is m o insertion s) ∙ simple;
    spared = spared;
  }
