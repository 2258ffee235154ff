-- `lower-index`: an operation of arith on index becomes one on i64, with casts around it.
use Rattle.std.proofs.Common.{◌≡◌, refl, ap, sym, ◌∙◌, subst, ℕ, zero, suc, ◌+◌, ◌<◌, ◌≤◌, Bool, true, false, ◌&&◌, ◌||◌, List, [], ◌∷◌, ◌++◌, length, map, Option, Some, None, option_map, inl, inr, arith, append_assoc}
use Rattle.std.specs.Prelude.{nat_le, nat_lt, option_and_then, slice_get}
use Rattle.std.proofs.lemmas.Bool.{lt-ltb}
use Rattle.std.proofs.lemmas.List.{length-map}
use Rattle.ir_event.specs.types.Words.{is_isolated}
use Rattle.ir_event.specs.types.Terms.{TypeTerm, Index, AttrTerm}
use Rattle.ir_event.specs.trees.declared.value.Value.{Value}
use Rattle.ir_event.specs.trees.declared.value.Value.TheVariants.{Result}
use Rattle.ir_event.specs.trees.declared.place.Place.{Place}
use Rattle.ir_event.specs.trees.Tree.{RegionsOf, no_regions, region, empty, block, head, regions, region_count}
use Rattle.ir_event.specs.trees.Ids.{find, has_id, op_count}
use Rattle.ir_event.specs.trees.Limits.{all_arguments_pass, head_fits, items_fit, most_items, most_regions, op_fits}
use Rattle.ir_event.specs.trees.Tree.{op}
use Rattle.ir_event.specs.trees.Meaning.{Operation}
use Rattle.ir_event.specs.tree_laws.Members.{In}
use Rattle.ir_event.specs.tree_laws.Reasons.{hold_none}
use Rattle.ir_event.specs.tree_laws.Stands.{OpWithPathOf, stands}
use Rattle.ir_event.specs.tree_laws.Values.{type_of_value}
use Rattle.ir_event.proofs.of_tree_laws.Wellformed.{from_wellformed}
use Rattle.ir_event.proofs.of_tree_laws.Listed.{both, both_hold}
use Rattle.ir_event.proofs.of_tree_laws.Members.{found_stands}
use Rattle.ir_event.specs.Modules.{Module}
use Rattle.rewriter_machine.specs.Contents.{Edit, all_edited, edited}
use Rattle.rewriter_machine.specs.Edits.{Erase, Make}
use Rattle.patterns_base.specs.Lists.{Free}
use Rattle.patterns_base.proofs.Give.{there_is}
use Rattle.patterns_base.proofs.Headed.{found_there}
use Rattle.patterns_base.proofs.Plans.{StandsAt, dominated_by}
use Rattle.patterns_soundness.specs.base.Keeps.{lowered_type}
use Rattle.patterns_soundness.specs.base.Words.{among, index_users}
use Rattle.patterns_soundness.specs.base.Looks.{Header, is_index_value}
use Rattle.patterns_soundness.specs.base.Makes.{made_by, makes, replacing, results_from}
use Rattle.patterns_soundness.specs.base.Made.{i64}
use Rattle.patterns_soundness.specs.base.Lowering.{any, bridges, crossed, give_lowered, index_operands, index_results, indices, lowered_attr, lowered_header, lowered_id, lowered_op, lowered_regions, make_lowered, marked, lower_index}
use Rattle.patterns_soundness.proofs.CastsAccepted.{AreCrossed, AreLowered, Bridged, MadeThere, Headroom, bridged, given_free, made_one}
use Rattle.patterns_soundness.proofs.Given.{HasHeadroom}
use Rattle.patterns_soundness.proofs.Points.{Point, here_is, dominated_by_operand, stands_there}
use Rattle.patterns_soundness.proofs.of_base.Facts.{bridges_make, crossed_length, when_some}
use Rattle.patterns_soundness.proofs.of_base.Making.{joined}
use Rattle.std.proofs.lemmas.Option.{same_Some}

-- the lowered operation has no operation inside, and is within the limits
pub lowered_holds_none : (rs : RegionsOf (List ℕ) TypeTerm AttrTerm) → hold_none (lowered_regions rs) ≡ true
lowered_holds_none no_regions = refl
lowered_holds_none (region empty rs) = lowered_holds_none rs
lowered_holds_none (region (block args os) rs) = lowered_holds_none rs

lowered_count : (rs : RegionsOf (List ℕ) TypeTerm AttrTerm) → region_count (lowered_regions rs) ≡ region_count rs
lowered_count no_regions = refl
lowered_count (region g rs) = ap (λ n. n + 1) (lowered_count rs)

lowered_arguments : (rs : RegionsOf (List ℕ) TypeTerm AttrTerm) → all_arguments_pass items_fit (lowered_regions rs) ≡ all_arguments_pass items_fit rs
lowered_arguments no_regions = refl
lowered_arguments (region empty rs) = lowered_arguments rs
lowered_arguments (region (block args os) rs) = λ i. items_length args i && lowered_arguments rs i
  where
    items_length : (args : List TypeTerm) → items_fit (map lowered_type args) ≡ items_fit args
    items_length args = ap (λ n. nat_le n most_items) (length-map args lowered_type)

pub lowered_fits : (o : Operation) (vs : List Value) → length vs ≡ length (head o).operands → op_fits o ≡ true → op_fits (lowered_op o vs) ≡ true
lowered_fits (op h rs) vs e f =
    let b = both (head_fits h) _ f in
    both_hold (head_fits (lowered_header h vs)) _
    ((λ i. nat_le (e i) most_items && (nat_le (length-map h.results lowered_type i) most_items && (nat_le (length-map {B = List ℕ × AttrTerm} h.properties (λ (e : List ℕ × AttrTerm). (e.0, lowered_attr e.1)) i) most_items && items_fit h.attributes))) ∙ b.0)
    ((λ i. nat_le (lowered_count rs i) most_regions && lowered_arguments rs i) ∙ b.1)

-- the cast values dominate the operation
pub crossed_seen : (x : ℕ) (insertion : Place) (ty : TypeTerm) (n : ℕ) (ms : List Bool) (vs : List Value) (m : Module) → AreCrossed x insertion ty ms vs n m → (v : Value) → In v (crossed n ms vs) → dominated_by x v m ≡ true
crossed_seen x insertion ty n [] vs m c v i = absurd i
crossed_seen x insertion ty n (true ∷ ms) [] m c v i = absurd i
crossed_seen x insertion ty n (false ∷ ms) [] m c v i = absurd i
crossed_seen x insertion ty n (true ∷ ms) (w ∷ vs) m c v (inl e) = ap (λ z. dominated_by x z m) e ∙ c.0.0
crossed_seen x insertion ty n (true ∷ ms) (w ∷ vs) m c v (inr i) = crossed_seen x insertion ty (n + 1) ms vs m c.1 v i
crossed_seen x insertion ty n (false ∷ ms) (w ∷ vs) m c v (inl e) = ap (λ z. dominated_by x z m) e ∙ c.0
crossed_seen x insertion ty n (false ∷ ms) (w ∷ vs) m c v (inr i) = crossed_seen x insertion ty n ms vs m c.1 v i

-- the operation is within the limits
pub own_fits : (m : Module) (o : Operation) (insertion : Place) → Point m o insertion → op_fits o ≡ true
own_fits m o insertion s =
    let w = found_stands (head o).id m.tree o s.found in
    ap op_fits (sym w.3) ∙ (from_wellformed is_isolated m.tree s.wellformed.wellformed).fits w.0 w.1

-- the results of a lowered operation
pub lowered_seen : (x y : ℕ) (insertion : Place) (n : Module) (tys : List TypeTerm) → ((k : ℕ) → k < length tys → dominated_by x (Result y k) n ≡ true) → ((k : ℕ) → type_of_value (Result y k) n.tree ≡ slice_get (map lowered_type tys) k) → AreLowered x y insertion 0 tys n
lowered_seen x y insertion n tys seen types = from 0 tys (λ k l. ap (λ z. dominated_by x (Result y z) n) (omega arith) ∙ seen k l) (λ k. ap (λ z. type_of_value (Result y z) n.tree) (omega arith) ∙ types k)
  where
    from : (j : ℕ) (tys : List TypeTerm) → ((k : ℕ) → k < length tys → dominated_by x (Result y (j + k)) n ≡ true) → ((k : ℕ) → type_of_value (Result y (j + k)) n.tree ≡ slice_get (map lowered_type tys) k) → AreLowered x y insertion j tys n
    from j [] f g = tt
    from j (ty ∷ tys) f g = (
      (ap (λ z. dominated_by x (Result y z) n) (omega arith) ∙ f 0 (omega arith), ap (λ z. type_of_value (Result y z) n.tree) (omega arith) ∙ g 0),
      from (j + 1) tys (λ k l. ap (λ z. dominated_by x (Result y z) n) (omega arith) ∙ f (k + 1) (omega (arith, l))) (λ k. ap (λ z. type_of_value (Result y z) n.tree) (omega arith) ∙ g (suc k)),
    )

-- the head of the operation at a position
pub head_there : (x : ℕ) (insertion : Place) (m : Module) (s : StandsAt x insertion m) (h : Header) → option_map head (find x m.tree) ≡ Some h → head s.at.here ≡ h
head_there x insertion m s h e = same_Some (head s.at.here) h (sym (ap (option_map head) (found_there is_isolated x insertion m s)) ∙ e)

module _ (m : Module) (o : Operation) (insertion : Place) (s : Point m o insertion) where
  abbrev x : ℕ
  x = (head o).id

  abbrev t : Operation
  t = m.tree

  abbrev ms : List Bool
  ms = index_operands m.tree m.next insertion o

  -- the number of operations that the rule makes
  makes_so : made_by (bridges i64 insertion (index_operands m.tree m.next insertion o) (head o).operands ++ make_lowered m.tree m.next insertion o ++ give_lowered m.tree m.next insertion o (lowered_id m.tree m.next insertion o) (lowered_id m.tree m.next insertion o + 1))
      ≡ marked (index_operands m.tree m.next insertion o) + 1 + (marked (indices (head o).results) + made_by (replacing (results_from (head o).id 0 (head o).results) (crossed (lowered_id m.tree m.next insertion o + 1) (indices (head o).results) (results_from (lowered_id m.tree m.next insertion o) 0 (head o).results))))
  makes_so =
      let id = lowered_id t m.next insertion o in
      let vs = results_from id 0 (head o).results in
      let cs = bridges i64 insertion ms (head o).operands in
      let ds = bridges Index insertion (indices (head o).results) vs in
      let rs = replacing (results_from x 0 (head o).results) (crossed (id + 1) (indices (head o).results) vs) in
      let a = joined (cs ++ make_lowered t m.next insertion o) (give_lowered t m.next insertion o id (id + 1)) in
      let b = joined cs (make_lowered t m.next insertion o) in
      let c = joined (ds ++ rs) (Erase x ∷ []) in
      let d = joined ds rs in
      let e = bridges_make i64 insertion ms (head o).operands (length-map (head o).operands (is_index_value t)) in
      let f = bridges_make Index insertion (indices (head o).results) vs (lengths 0 (head o).results) in
      let g : made_by (make_lowered t m.next insertion o) ≡ 1 = refl in
      let h : made_by (Erase x ∷ []) ≡ 0 = refl in
      omega (arith, a, b, c, d, e, f, g, h)
    where
      lengths : (k : ℕ) (tys : List TypeTerm) → length (indices tys) ≡ length (results_from (lowered_id m.tree m.next insertion o) k tys)
      lengths k [] = refl
      lengths k (ty ∷ tys) = (let e = lengths (k + 1) tys in omega (arith, e))

  indexed_free : HasHeadroom m (bridges i64 insertion (index_operands m.tree m.next insertion o) (head o).operands ++ make_lowered m.tree m.next insertion o ++ give_lowered m.tree m.next insertion o (lowered_id m.tree m.next insertion o) (lowered_id m.tree m.next insertion o + 1))
      → Free (bridges i64 insertion (index_operands m.tree m.next insertion o) (head o).operands ++ make_lowered m.tree m.next insertion o ++ give_lowered m.tree m.next insertion o (lowered_id m.tree m.next insertion o) (lowered_id m.tree m.next insertion o + 1)) m
  indexed_free headroom =
      let os = (head o).operands in
      let rs = (head o).results in
      let wide : length ms ≡ length os = length-map os (is_index_value t) in
      let ops = headroom.0 in
      let ids = headroom.1 in
      let many = makes_so in
      let b = bridged x insertion (λ z. has_id z m.tree ≡ true) i64 ms os m (stands_there m o insertion s) (dominated_by_operand m o insertion s) (record { ops = omega (arith, ops, many); ids = omega (arith, ids, many) }) in
      let m1 = all_edited (bridges i64 insertion ms os) m in
      let new = lowered_op o (crossed m.next ms os) in
      let left = b.headrooms (marked (indices rs) + 1) (record { ops = omega (arith, ops, many); ids = omega (arith, ids, many) }) in
      let one = made_one x insertion (λ z. has_id z m.tree ≡ true) m1 b.located new (lowered_holds_none (regions o)) (lowered_fits o (crossed m.next ms os) (crossed_length m.next ms os wide) (own_fits m o insertion s))
      (crossed_seen x insertion i64 m.next ms os m1 b.made) (marked (indices rs)) left in
      let m2 = edited (Make insertion new) m1 in
      let there = there_is is_isolated x insertion m (stands_there m o insertion s) in
      let header : option_map head (find x m2.tree) ≡ Some (head o) = (one.stays b.present).heads x there ∙ (b.stays (λ z h. h)).heads x there ∙ ap (option_map head) s.found in
      let seen = lowered_seen x m1.next insertion m2 rs (λ k l. one.new_dominance k (lt-ltb k (length (map lowered_type rs)) (let e = length-map rs lowered_type in omega (arith, l, e)))) one.new_types in
      let given = given_free x m1.next insertion m2 one.located rs (ap (λ (h : Header). h.results) (head_there x insertion m2 one.located (head o) header)) one.new_there seen (one.headrooms (marked (indices rs)) left) in
      let last = subst (λ y. Free (give_lowered t m.next insertion o y (y + 1)) m2) (b.next wide) given in
      let id = lowered_id t m.next insertion o in
      subst (λ es. Free es m) (sym (append_assoc (bridges i64 insertion ms os) (make_lowered t m.next insertion o) (give_lowered t m.next insertion o id (id + 1))))
      (b.free (make_lowered t m.next insertion o ++ give_lowered t m.next insertion o id (id + 1)) (one.free (give_lowered t m.next insertion o id (id + 1)) last))

  pub free_lower_index : (es : List Edit) → lower_index m.tree m.next insertion o ≡ Some es → HasHeadroom m es → Free es m
  free_lower_index es e headroom =
      let w = when_some (among index_users (head o).name && (any ms || any (index_results t m.next insertion o))) _ es e in
      let is = same_Some _ es w.1 in
      subst (λ z. Free z m) is (indexed_free (subst (HasHeadroom m) (sym is) headroom))
