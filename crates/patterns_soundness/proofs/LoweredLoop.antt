-- `lower-loop`: a loop over index becomes one over i64, with its block.
use Rattle.std.proofs.Common.{◌≡◌, refl, ap, sym, ◌∙◌, subst, ℕ, zero, suc, ◌+◌, ◌<◌, ◌≤◌, Bool, true, false, cond, ◌&&◌, eqb, List, [], ◌∷◌, ◌++◌, length, map, Option, Some, None, option_map, inl, inr, arith, append_assoc, lt-ltb}
use Rattle.std.specs.List.{range_with_len}
use Rattle.std.specs.Prelude.{codes, option_and_then, slice_get}
use Rattle.std.proofs.lemmas.List.{length-map, length-set}
use Rattle.ir_event.specs.types.Words.{is_isolated}
use Rattle.ir_event.specs.types.Terms.{TypeTerm, Index}
use Rattle.ir_event.specs.trees.declared.value.Value.{Value}
use Rattle.ir_event.specs.trees.declared.value.Value.TheVariants.{Result}
use Rattle.ir_event.specs.trees.declared.place.Place.{Place}
use Rattle.ir_event.specs.trees.Tree.{head}
use Rattle.ir_event.specs.trees.Ids.{find, has_id}
use Rattle.ir_event.specs.trees.Edits.{at, put_operand}
use Rattle.ir_event.specs.trees.Meaning.{Operation}
use Rattle.ir_event.specs.tree_laws.Members.{In}
use Rattle.ir_event.specs.tree_laws.Values.{arguments_at, type_of_value}
use Rattle.ir_event.proofs.of_tree_laws.Around.{stand_present}
use Rattle.ir_event.proofs.of_tree_laws.HeadForm.{alike_at}
use Rattle.ir_event.proofs.of_tree_laws.Listed.{both, in_mapped}
use Rattle.ir_event.proofs.of_tree_laws.Members.{stand}
use Rattle.ir_event.specs.Modules.{Module}
use Rattle.rewriter_machine.specs.Contents.{Edit, edited}
use Rattle.rewriter_machine.specs.Edits.{Erase, Make, SetOperand}
use Rattle.patterns_base.specs.Lists.{Free}
use Rattle.patterns_base.proofs.Preceding.{stands_before}
use Rattle.patterns_base.proofs.Headed.{found_there}
use Rattle.patterns_base.proofs.Made as made_there
use Rattle.patterns_base.proofs.Plans.{StandsAt, dominated_by}
use Rattle.patterns_soundness.specs.base.Keeps.{given, lowered_type}
use Rattle.patterns_soundness.specs.base.Words.{named}
use Rattle.patterns_soundness.specs.base.Looks.{Ended, Header, body, is_index, is_index_value}
use Rattle.patterns_soundness.specs.base.Made.{bridge, i64, placeholder}
use Rattle.patterns_soundness.specs.base.Makes.{arguments_from, erasing, made_by, replaced, replacing, results_from}
use Rattle.patterns_soundness.specs.base.Lowering.{any, before_in, bridges, brought, crossed, crossing, end_of, give_lowered, index_operands, indices, lower_loop, lowered_id, lowered_loop, make_lowered, marked, move_over, take_over}
use Rattle.patterns_soundness.specs.Yields.{IsVerifiedOf}
use Rattle.patterns_soundness.proofs.Yielding.{loops_hand_on_all}
use Rattle.patterns_soundness.proofs.Across.{inside_after}
use Rattle.patterns_soundness.proofs.CastsAccepted.{AreLowered, Headroom, given_free}
use Rattle.patterns_soundness.proofs.Given.{HasHeadroom}
use Rattle.patterns_soundness.proofs.Handed.{HandedOn, handed_on}
use Rattle.patterns_soundness.proofs.Holders.{holders_from}
use Rattle.patterns_soundness.proofs.Indexed.{lowered_seen}
use Rattle.patterns_soundness.proofs.Kept as kept
use Rattle.patterns_soundness.proofs.LoopStages as stage
use Rattle.patterns_soundness.proofs.LoopStages.{LikeEnded}
use Rattle.patterns_soundness.proofs.Erased.{erase_edits}
use Rattle.patterns_soundness.proofs.Phases.{id_of}
use Rattle.patterns_soundness.proofs.NearAccepted.{there_by, there_is}
use Rattle.patterns_soundness.proofs.Ordered.{later_shows}
use Rattle.patterns_soundness.proofs.PairsAccepted.{holds_are, pairs_are}
use Rattle.patterns_soundness.proofs.Replacing.{Near, near_headed, near_kept, pair_edits}
use Rattle.patterns_soundness.proofs.Points.{Point}
use Rattle.patterns_soundness.proofs.of_base.Facts.{bridges_make, when_some}
use Rattle.patterns_laws.proofs.KnownFolds.{given_some}
use Rattle.patterns_soundness.proofs.of_base.Making.{joined}
use Rattle.std.proofs.lemmas.Option.{same_Some}

regrouped : (a b c d e f g h i j : List Edit) → ((((((((a ++ b) ++ c) ++ d) ++ e) ++ f) ++ g) ++ h) ++ i) ++ j ≡ a ++ (b ++ (c ++ (d ++ (e ++ (f ++ (g ++ (h ++ (i ++ j))))))))
regrouped a b c d e f g h i j =
    append_assoc (((((((a ++ b) ++ c) ++ d) ++ e) ++ f) ++ g) ++ h) i j
    ∙ append_assoc ((((((a ++ b) ++ c) ++ d) ++ e) ++ f) ++ g) h (i ++ j)
    ∙ append_assoc (((((a ++ b) ++ c) ++ d) ++ e) ++ f) g (h ++ (i ++ j))
    ∙ append_assoc ((((a ++ b) ++ c) ++ d) ++ e) f (g ++ (h ++ (i ++ j)))
    ∙ append_assoc (((a ++ b) ++ c) ++ d) e (f ++ (g ++ (h ++ (i ++ j))))
    ∙ append_assoc ((a ++ b) ++ c) d (e ++ (f ++ (g ++ (h ++ (i ++ j)))))
    ∙ append_assoc (a ++ b) c (d ++ (e ++ (f ++ (g ++ (h ++ (i ++ j))))))
    ∙ append_assoc a b (c ++ (d ++ (e ++ (f ++ (g ++ (h ++ (i ++ j)))))))

module _ (m : Module) (o : Operation) (insertion : Place) (s : Point m o insertion) (name : named (codes "scf.for") (head o).name ≡ true) (args : List TypeTerm) (args_is : arguments_at 0 o ≡ Some args) (e : Ended) (e_is : body m.tree o 0 ≡ Some e) where
  abbrev x : ℕ
  x = (head o).id

  abbrev t : Operation
  t = m.tree

  abbrev io : List Bool
  io = index_operands m.tree m.next insertion o

  abbrev mi : ℕ
  mi = marked (index_operands m.tree m.next insertion o)

  abbrev ia : List Bool
  ia = indices args

  abbrev ma : ℕ
  ma = marked (indices args)

  abbrev ir : List Bool
  ir = indices (head o).results

  abbrev mr : ℕ
  mr = marked (indices (head o).results)

  -- the whole list of edits, by the ids of the new operations
  abbrev all_edits : ℕ → ℕ → ℕ → ℕ → ℕ → List Edit
  all_edits hid y ai yi ri =
      bridges i64 insertion (index_operands m.tree m.next insertion o) (head o).operands
      ++ map (λ ty. Make insertion (placeholder ty)) args
      ++ replacing (arguments_from (head o).id 0 args) (holders_from hid args)
      ++ make_lowered m.tree m.next insertion o
      ++ bridges Index (end_of y 0) (indices args) (arguments_from y 0 args)
      ++ move_over m.tree m.next insertion o y 0 e
      ++ replacing (holders_from hid args) (crossed ai (indices args) (arguments_from y 0 args))
      ++ erasing (range_with_len hid (length args))
      ++ take_over m.tree m.next insertion o y 0 yi e (arguments_from (head o).id 0 args) (crossed ai (indices args) (arguments_from y 0 args))
      ++ give_lowered m.tree m.next insertion o y ri

  handed_length : length (indices (head o).results) ≡ length e.last.operands
  handed_length =
      (let a = length-map (head o).results is_index in
      let b = loops_hand_on_all t o x e (record { distinct = s.wellformed.distinct; found = s.found; verified = s.verified; name = name }) e_is in
      omega (arith, a, b))

  module _ (headroom : Headroom (mi + (length args + (1 + (ma + (mr + mr))))) m) where
    abbrev y : ℕ
    y = stage.y m o insertion s name args args_is e e_is (mr + mr) headroom

    abbrev l : ℕ
    l = stage.l m o insertion s name args args_is e e_is (mr + mr) headroom

    abbrev m1 : Module
    m1 = stage.m1 m o insertion s name args args_is e e_is (mr + mr) headroom

    abbrev m4 : Module
    m4 = stage.m4 m o insertion s name args args_is e e_is (mr + mr) headroom

    abbrev m8 : Module
    m8 = stage.m8 m o insertion s name args args_is e e_is (mr + mr) headroom

    abbrev few : ℕ
    few = stage.few m o insertion s name args args_is e e_is (mr + mr) headroom

    abbrev P : Module → Type 0
    P k = Near (head o).id y l insertion (head o).results (map lowered_type (head o).results) few k

    near8 : P m8
    near8 = (stage.er8 m o insertion s name args args_is e e_is (mr + mr) headroom).near

    abbrev place : Place
    place = before_in y 0 l

    last_stands : StandsAt l (before_in y 0 l) m8
    last_stands = record { wellformed = near8.located.wellformed; at = inside_after l place m8.tree refl near8.inside }

    abbrev ws9 : List Value
    ws9 = map (stage.final m o insertion s name args args_is e e_is (mr + mr) headroom) e.last.operands

    ws9_seen : (v : Value) → In v ws9 → dominated_by l v m8 ≡ true
    ws9_seen v i = (let k = in_mapped (stage.final m o insertion s name args args_is e e_is (mr + mr) headroom) v e.last.operands i in ap (λ z. dominated_by l z m8) k.2 ∙ stage.seen8 m o insertion s name args args_is e e_is (mr + mr) headroom k.0 k.1)

    enough : length (indices (head o).results) ≤ length (head last_stands.at.here).operands
    enough =
        (let two : Some (length (head last_stands.at.here).operands) ≡ Some few = ap (λ f. option_map (λ (z : Header). length z.operands) (option_map head f)) (sym (found_there is_isolated l place m8 last_stands)) ∙ near8.operands in
        let a = same_Some (length (head last_stands.at.here).operands) few two in
        let b = stage.few_is m o insertion s name args args_is e e_is (mr + mr) headroom in
        let c = handed_length in
        omega (arith, a, b, c))

    there : (k : Module) (n : P k) → (has_id (head o).id k.tree ≡ true) × (has_id y k.tree ≡ true) × (has_id l k.tree ≡ true)
    there k n = (
      there_is x k.tree (head o).results n.x_results,
      there_is y k.tree (map lowered_type (head o).results) n.y_results,
      ap (λ i. has_id i k.tree) (sym n.inside.id) ∙ stand_present [] k.tree (stand n.inside.here (n.inside.step_in ∷ n.inside.path)) n.inside.there,
    )

    p_made : (k : Module) → StandsAt l (before_in y 0 l) k → (v : Value) → In v ws9 → dominated_by l v k ≡ true → m8.next ≤ k.next → StandsAt l (before_in y 0 l) (edited (Make (before_in y 0 l) (bridge i64 v)) k) → P k → P (edited (Make (before_in y 0 l) (bridge i64 v)) k)
    p_made k st v i q low st2 p =
        (let h = there k p in
        near_kept x y l insertion (head o).results (map lowered_type (head o).results) few (λ b. has_id b k.tree ≡ true) k (edited (Make place (bridge i64 v)) k) h.0 h.1 h.2
        (kept.made_kept is_isolated k p.located.wellformed place (made_there.point is_isolated l place k st) (bridge i64 v) refl (λ b. has_id b k.tree ≡ true) (λ b j. j)) st2.wellformed p)

    p_set : (k : Module) → StandsAt l (before_in y 0 l) k → (i c : ℕ) → m8.next ≤ c → dominated_by l (Result c 0) k ≡ true → StandsAt l (before_in y 0 l) (edited (SetOperand l i (Result c 0)) k) → P k → P (edited (SetOperand l i (Result c 0)) k)
    p_set k st i c low q st2 p =
        near_headed x y l insertion (head o).results (map lowered_type (head o).results) few (at l (put_operand i (Result c 0))) (alike_at l (put_operand i (Result c 0)) (λ h. record { id = refl; name = refl; results = refl })) same_results same_count k p st2.wellformed
      where
        same_results : (h : Header) → (at l (put_operand i (Result c 0)) h).results ≡ h.results
        same_results h = elim (eqb h.id l) as (λ b. (cond b (put_operand i (Result c 0) h) h).results ≡ h.results) [ true ↦ refl | false ↦ refl ]

        same_count : (h : Header) → length (at l (put_operand i (Result c 0)) h).operands ≡ length h.operands
        same_count h = elim (eqb h.id l) as (λ b. length (cond b (put_operand i (Result c 0) h) h).operands ≡ length h.operands) [ true ↦ length-set h.operands i (Result c 0) | false ↦ refl ]

    headroom8 : Headroom (mr + mr) m8
    headroom8 = stage.headroom8 m o insertion s name args args_is e e_is (mr + mr) headroom

    handed : HandedOn l (before_in y 0 l) m8.next ws9 P p_made p_set ir m8.next m8
    handed = handed_on l place m8.next ws9 P p_made p_set ir m8 last_stands ws9_seen (let a = handed_length in let b = length-map e.last.operands (stage.final m o insertion s name args args_is e e_is (mr + mr) headroom) in omega (arith, a, b)) enough (omega arith)
        (let a = headroom8.ops in let b = headroom8.ids in record { ops = omega (arith, a); ids = omega (arith, b) }) near8

    abbrev m9 : Module
    m9 = handed.after

    near9 : P m9
    near9 = handed.keeps

    y_found : (q : Operation) × (find y m9.tree ≡ Some q) × ((head q).results ≡ map lowered_type (head o).results)
    y_found = there_by y m9.tree (map lowered_type (head o).results) near9.y_results

    lowered_results : AreLowered (head o).id y insertion 0 (head o).results m9
    lowered_results = lowered_seen x y insertion m9 (head o).results
        (λ k n. later_shows is_isolated m9.tree near9.located.wellformed.distinct y x near9.before y_found.0 y_found.1 k (lt-ltb k (length (head y_found.0).results) (let a = ap length y_found.2 in let b = length-map (head o).results lowered_type in omega (arith, n, a, b))))
        (λ k. ap (λ g. option_and_then (λ (z : Operation). slice_get (head z).results k) g) y_found.1 ∙ ap (λ z. slice_get z k) y_found.2)

    x_results9 : (head near9.located.at.here).results ≡ (head o).results
    x_results9 =
        (let two : Some (head near9.located.at.here).results ≡ Some (head o).results = ap (λ f. option_map (λ (z : Header). z.results) (option_map head f)) (sym (found_there is_isolated x insertion m9 near9.located)) ∙ near9.x_results in
        same_Some (head near9.located.at.here).results (head o).results two)

    given9 : Free (give_lowered m.tree m.next insertion o y m9.next) m9
    given9 = given_free x y insertion m9 near9.located (head o).results x_results9 (there m9 near9).1 lowered_results (handed.headrooms mr headroom8)

    -- ---- the parts of the list
    abbrev ended : LikeEnded (stage.n0 m o insertion s name args args_is e e_is (mr + mr) headroom).preceding (stage.n0 m o insertion s name args args_is e e_is (mr + mr) headroom).last (stage.zs m o insertion s name args args_is e e_is (mr + mr) headroom)
    ended = stage.ended m o insertion s name args args_is e e_is (mr + mr) headroom

    part_arguments : replacing (arguments_from (head o).id 0 (holders_from m1.next args)) (holders_from m1.next args) ≡ replacing (arguments_from (head o).id 0 args) (holders_from m1.next args)
    part_arguments = ap (λ olds. replacing olds (holders_from m1.next args)) (stage.as_many m o insertion s name args args_is e e_is (mr + mr) headroom 0 (holders_from m1.next args) args (stage.hold_length m o insertion s name args args_is e e_is (mr + mr) headroom m1.next args))

    last_id : l ≡ e.last.id
    last_id = ended.id ∙ ap (λ (h : Header). h.id) (sym (stage.n0 m o insertion s name args args_is e e_is (mr + mr) headroom).is)

    part_brought : brought insertion y 0 (map (λ o. id_of o) ended.preceding) l ≡ move_over m.tree m.next insertion o y 0 e
    part_brought = λ i. brought insertion y 0 ((ended.ids ∙ sym (stage.n0 m o insertion s name args args_is e e_is (mr + mr) headroom).before) i) (last_id i)

    part_handed : bridges i64 (before_in y 0 l) ir ws9 ++ crossing l 0 m8.next ir ≡ take_over m.tree m.next insertion o y 0 m8.next e (arguments_from (head o).id 0 args) (crossed m4.next (indices args) (arguments_from y 0 args))
    part_handed = λ i. bridges i64 (before_in y 0 (last_id i)) ir ws9 ++ crossing (last_id i) 0 m8.next ir

    all_free : Free (all_edits m1.next y m4.next m8.next m9.next) m
    all_free =
        let g = give_lowered t m.next insertion o y m9.next in
        let tk = take_over t m.next insertion o y 0 m8.next e (arguments_from x 0 args) (crossed m4.next ia (arguments_from y 0 args)) in
        let f9 = subst (λ z. Free (z ++ g) m8) part_handed (handed.free g given9) in
        let f8 = stage.free8 m o insertion s name args args_is e e_is (mr + mr) headroom (tk ++ g) f9 in
        let a1 = bridges i64 insertion io (head o).operands in
        let a2 = map (λ ty. Make insertion (placeholder ty)) args in
        let a4 = make_lowered t m.next insertion o in
        let a5 = bridges Index (end_of y 0) ia (arguments_from y 0 args) in
        let parts : a1 ++ (a2 ++ (replacing (arguments_from x 0 (holders_from m1.next args)) (holders_from m1.next args) ++ (a4 ++ (a5 ++ (brought insertion y 0 (map (λ o. id_of o) ended.preceding) l ++ (pair_edits (stage.ps m o insertion s name args args_is e e_is (mr + mr) headroom) ++ (erase_edits (stage.hs m o insertion s name args args_is e e_is (mr + mr) headroom) ++ (tk ++ g))))))))
        ≡ a1 ++ (a2 ++ (replacing (arguments_from x 0 args) (holders_from m1.next args) ++ (a4 ++ (a5 ++ (move_over t m.next insertion o y 0 e ++ (replacing (holders_from m1.next args) (crossed m4.next ia (arguments_from y 0 args)) ++ (erasing (range_with_len m1.next (length args)) ++ (tk ++ g))))))))
        = (λ i. a1 ++ (a2 ++ (part_arguments i ++ (a4 ++ (a5 ++ (part_brought i ++ (sym (pairs_are y ia m1.next 0 m4.next args (length-map args is_index)) i ++ (sym (holds_are m1.next args) i ++ (tk ++ g))))))))) in
        subst (λ z. Free z m) (parts ∙ sym (regrouped a1 a2 (replacing (arguments_from x 0 args) (holders_from m1.next args)) a4 a5 (move_over t m.next insertion o y 0 e) (replacing (holders_from m1.next args) (crossed m4.next ia (arguments_from y 0 args))) (erasing (range_with_len m1.next (length args))) tk g)) f8

    loop_free : Free (lowered_loop m.tree m.next insertion o args e) m
    loop_free =
        (let a = stage.next1 m o insertion s name args args_is e e_is (mr + mr) headroom in
        let b = stage.next3 m o insertion s name args args_is e e_is (mr + mr) headroom in
        let c = stage.next8 m o insertion s name args args_is e e_is (mr + mr) headroom in
        let d = handed.next in
        let n1 : m1.next ≡ lowered_id t m.next insertion o = omega (arith, a) in
        let n3 : y ≡ lowered_id t m.next insertion o + length args = omega (arith, b) in
        let n4 : m4.next ≡ lowered_id t m.next insertion o + length args + 1 = omega (arith, b) in
        let n8 : m8.next ≡ lowered_id t m.next insertion o + length args + 1 + ma = omega (arith, c) in
        let n9 : m9.next ≡ lowered_id t m.next insertion o + length args + 1 + ma + mr = omega (arith, c, d) in
        subst (λ z. Free z m) (λ i. all_edits (n1 i) (n3 i) (n4 i) (n8 i) (n9 i)) all_free)

  placeholders_make : (tys : List TypeTerm) → made_by (map (λ ty. Make insertion (placeholder ty)) tys) ≡ length tys
  placeholders_make [] = refl
  placeholders_make (ty ∷ tys) = (let k = placeholders_make tys in omega (arith, k))

  makes_much : (n : ℕ) → made_by (lowered_loop m.tree m.next insertion o args e) ≡ n → mi + (length args + (1 + (ma + (mr + mr)))) ≤ n
  makes_much n is =
      let hid = lowered_id t m.next insertion o in
      let y = hid + length args in
      let ai = y + 1 in
      let yi = ai + ma in
      let ri = yi + mr in
      let olds = arguments_from x 0 args in
      let news = crossed ai ia (arguments_from y 0 args) in
      let a = bridges i64 insertion io (head o).operands in
      let b = map (λ ty. Make insertion (placeholder ty)) args in
      let c = replacing olds (holders_from hid args) in
      let d = make_lowered t m.next insertion o in
      let f = bridges Index (end_of y 0) ia (arguments_from y 0 args) in
      let g = move_over t m.next insertion o y 0 e in
      let h = replacing (holders_from hid args) news in
      let i = erasing (range_with_len hid (length args)) in
      let k1 = bridges i64 (before_in y 0 e.last.id) ir (map (replaced olds news) e.last.operands) in
      let k2 = crossing e.last.id 0 yi ir in
      let g1 = bridges Index insertion ir (results_from y 0 (head o).results) in
      let g2 = replacing (results_from x 0 (head o).results) (crossed ri ir (results_from y 0 (head o).results)) in
      let p1 = joined ((((((((a ++ b) ++ c) ++ d) ++ f) ++ g) ++ h) ++ i) ++ (k1 ++ k2)) ((g1 ++ g2) ++ Erase x ∷ []) in
      let p2 = joined (((((((a ++ b) ++ c) ++ d) ++ f) ++ g) ++ h) ++ i) (k1 ++ k2) in
      let p3 = joined ((((((a ++ b) ++ c) ++ d) ++ f) ++ g) ++ h) i in
      let p4 = joined (((((a ++ b) ++ c) ++ d) ++ f) ++ g) h in
      let p5 = joined ((((a ++ b) ++ c) ++ d) ++ f) g in
      let p6 = joined (((a ++ b) ++ c) ++ d) f in
      let p7 = joined ((a ++ b) ++ c) d in
      let p8 = joined (a ++ b) c in
      let p9 = joined a b in
      let q1 = joined k1 k2 in
      let q2 = joined (g1 ++ g2) (Erase x ∷ []) in
      let q3 = joined g1 g2 in
      let r1 = bridges_make i64 insertion io (head o).operands (length-map (head o).operands (is_index_value t)) in
      let r2 = placeholders_make args in
      let r3 : made_by d ≡ 1 = refl in
      let r4 = bridges_make Index (end_of y 0) ia (arguments_from y 0 args) (arguments_length y 0 args) in
      let r5 = bridges_make i64 (before_in y 0 e.last.id) ir (map (replaced olds news) e.last.operands) (let w = handed_length in let v = length-map e.last.operands (replaced olds news) in omega (arith, w, v)) in
      let r6 = bridges_make Index insertion ir (results_from y 0 (head o).results) (results_length y 0 (head o).results) in
      omega (arith, p1, p2, p3, p4, p5, p6, p7, p8, p9, q1, q2, q3, r1, r2, r3, r4, r5, r6, is)
    where
      arguments_length : (y k : ℕ) (tys : List TypeTerm) → length (indices tys) ≡ length (arguments_from y k tys)
      arguments_length y k [] = refl
      arguments_length y k (ty ∷ tys) = (let q = arguments_length y (k + 1) tys in omega (arith, q))

      results_length : (y k : ℕ) (tys : List TypeTerm) → length (indices tys) ≡ length (results_from y k tys)
      results_length y k [] = refl
      results_length y k (ty ∷ tys) = (let q = results_length y (k + 1) tys in omega (arith, q))

pub free_lower_loop : (m : Module) (o : Operation) (insertion : Place) → Point m o insertion → (es : List Edit) → lower_loop m.tree m.next insertion o ≡ Some es → HasHeadroom m es → Free es m
free_lower_loop m o insertion s es is headroom =
    let w = when_some (named (codes "scf.for") (head o).name && any (index_operands m.tree m.next insertion o)) _ es is in
    let a = given_some (arguments_at 0 o) _ es w.1 in
    let e = given_some (body m.tree o 0) _ es a.2 in
    let same = same_Some (lowered_loop m.tree m.next insertion o a.0 e.0) es e.2 in
    let name = (both (named (codes "scf.for") (head o).name) _ w.0).0 in
    subst (λ z. Free z m) same (loop_free m o insertion s name a.0 a.1 e.0 e.1 (enough_headroom m o insertion s name a.0 a.1 e.0 e.1 (subst (HasHeadroom m) (sym same) headroom)))
  where
    enough_headroom : (m : Module) (o : Operation) (insertion : Place) (s : Point m o insertion) (name : named (codes "scf.for") (head o).name ≡ true) (args : List TypeTerm) (args_is : arguments_at 0 o ≡ Some args) (e : Ended) (e_is : body m.tree o 0 ≡ Some e) → HasHeadroom m (lowered_loop m.tree m.next insertion o args e)
        → Headroom (marked (index_operands m.tree m.next insertion o) + (length args + (1 + (marked (indices args) + (marked (indices (head o).results) + marked (indices (head o).results)))))) m
    enough_headroom m o insertion s name args args_is e e_is headroom =
        let n = makes_much m o insertion s name args args_is e e_is (made_by (lowered_loop m.tree m.next insertion o args e)) refl in
        let a = headroom.0 in
        let b = headroom.1 in
        record { ops = omega (arith, a, n); ids = omega (arith, b, n) }
