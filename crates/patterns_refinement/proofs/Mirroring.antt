-- The rule that mirrors a comparison keeps modules ready and refines what they compute.
use Rattle.std.proofs.Common.{◌≡◌, ℕ, zero, suc, refl, ap, sym, ◌∙◌, subst, List, [], ◌∷◌, map, Bool, true, false, true≢false, ◌&&◌, ◌||◌, not, Option, Some, None, inl, inr, slice_get}
use Rattle.std.specs.Prelude.{codes, is_some, if◌then◌else◌}
use Rattle.std.specs.List.{list_all}
use Rattle.std.specs.Str.{bytes_eq}
use Rattle.std.proofs.lemmas.Bool.{and_from, and_parts}
use Rattle.std.proofs.lemmas.Slice.Eq.{bytes_eq-Decides}
use Rattle.std.proofs.lemmas.Option.{none-some, same_Some}
use Rattle.ir_types.specs.declared.bits.BitsKind.{BitsKind}
use Rattle.ir_types.specs.declared.bits.BitsKind.TheVariants as kind
use Rattle.ir_types.specs.Bits.{width_of}
use Rattle.ir_types.specs.Reasons.{is_width}
use Rattle.ir_types.specs.Terms.{AttrTerm, IntegerOf}
use Rattle.ir_types.specs.Words.{is_inherent, is_isolated, operations}
use Rattle.ir_tree.specs.declared.value.Value.{Value}
use Rattle.ir_tree.specs.declared.value.Value.TheVariants.{Result}
use Rattle.ir_tree.specs.declared.place.Part.TheVariants.{Attrs, Props}
use Rattle.ir_tree.specs.Tree.{head}
use Rattle.ir_tree.specs.Edits.{change_entry, change_part, entry_at, put_entry, put_operand, with_entry, with_operand}
use Rattle.ir_tree.specs.Meaning.{key_before, rises, rises_after}
use Rattle.ir_tree.specs.WellFormed.{IsWellFormed}
use Rattle.ir_tree_laws.specs.Values.{has_value}
use Rattle.ir_tree_laws.proofs.HeadForm.{entry_keeps}
use Rattle.ir_tree_laws.proofs.Keys.{keys_ordered}
use Rattle.ir_event.specs.Modules.{Module}
use Rattle.op_registry.specs.Registry.{next_to}
use Rattle.dialects_int.specs.declared.operations.Predicate.{Predicate}
use Rattle.dialects_int.specs.declared.operations.Predicate.TheVariants as asks
use Rattle.dialects_int.specs.declared.operations.Rule.TheVariants as how
use Rattle.dialects_int.specs.Arithmetic.{comparison_of, truth}
use Rattle.dialects_int.specs.Laws as law
use Rattle.dialects_int.specs.Folds.{Known, requested, predicates, property_of, rule_of, same_kind}
use Rattle.dialects_int.proofs.CastLaws.{mirror}
use Rattle.dialects_int.proofs.KnownOperands.{same_itself}
use Rattle.rewriter_machine.specs.Contents.{all_edited, edited, tests}
use Rattle.rewriter_machine.specs.Edits.{SetAttr, SetOperand, part_for, part_in}
use Rattle.patterns_base.specs.Lists.{Free}
use Rattle.user_patterns_check.specs.Checks.{refines}
use Rattle.user_patterns_check.specs.Outcomes.{Outcome, compare_outcome, given}
use Rattle.patterns_laws.specs.Keeps.{swapped_predicate}
use Rattle.patterns_laws.specs.Made.{Entries, i64}
use Rattle.patterns_laws.specs.Words.{named}
use Rattle.patterns_laws.proofs.KnownFolds.{given_some}
use Rattle.patterns_base.specs.declared.rule.Rule.TheVariants.{MirrorComparison}
use Rattle.patterns_base.specs.Looks.{is_constant, is_known, predicate, when}
use Rattle.patterns_base.specs.Rules.{rule}
use Rattle.patterns_base.proofs.Facts.{when_some}
use Rattle.patterns_soundness.specs.Accepted.{AreAccepted}
use Rattle.patterns_soundness.proofs.Shapes.{two_is}
use Rattle.user_patterns_data.specs.Matching.{Header}
use Rattle.patterns_refinement.specs.Meaning.{Assignment, makes, of_two, result_kind, breaks_by, flags_by}
use Rattle.patterns_refinement.specs.Better.{GivesNoLess, compares, is_kind, is_kinded, is_poison_by_ones, is_signed_quotient, kind_in, takes, takes_its}
use Rattle.patterns_refinement.specs.Keeping.{Computing, IsReady, KeepsComputing, KeepsReady, is_there}
use Rattle.patterns_refinement.proofs.Dropping.{kind_by, of_two_is}
use Rattle.patterns_refinement.proofs.EditsForm.{all_wellformed}
use Rattle.patterns_refinement.proofs.Extremes.{compare_is, compare_out}
use Rattle.patterns_refinement.proofs.Wellformed.{operands_stand}
use Rattle.patterns_refinement.proofs.Forms.{makes_is, named_is}
use Rattle.patterns_refinement.proofs.Monotone.{same_refined}
use Rattle.patterns_refinement.proofs.Readied.{Rises, Takes, each_rises}
use Rattle.patterns_refinement.proofs.Ruled.{Ruled, Site, gives_refined, of_rule, rule_kinds, ruled, site_of, root_has}
use Rattle.patterns_refinement.proofs.Sources.{kind_test}
use Rattle.patterns_refinement.proofs.Trees.{each_found, found_fit}
use Rattle.patterns_refinement.proofs.TruthRules.{requested_number, by_compare}
use Rattle.patterns_refinement.proofs.Turning.{Turns, TurnsWell, turned_improves, turned_ready}

-- ---- predicates by their numbers
mirrored_is : (p q : Predicate) (n : ℕ) → Some p ≡ Some q → slice_get predicates n ≡ Some (law.mirrored p) → slice_get predicates n ≡ Some (law.mirrored q)
mirrored_is p q n e f = f ∙ ap (λ p. Some (law.mirrored p)) (same_Some _ _ e)

mirrored_number : (n : ℕ) (p : Predicate) → slice_get predicates n ≡ Some p → slice_get predicates (swapped_predicate n) ≡ Some (law.mirrored p)
unfolding predicates
mirrored_number zero p e = mirrored_is asks.Equal p 0 e refl
mirrored_number (suc zero) p e = mirrored_is asks.NotEqual p 1 e refl
mirrored_number (suc (suc zero)) p e = mirrored_is asks.SignedLess p 4 e refl
mirrored_number (suc (suc (suc zero))) p e = mirrored_is asks.SignedLessOrEqual p 5 e refl
mirrored_number (suc (suc (suc (suc zero)))) p e = mirrored_is asks.SignedGreater p 2 e refl
mirrored_number (suc (suc (suc (suc (suc zero))))) p e = mirrored_is asks.SignedGreaterOrEqual p 3 e refl
mirrored_number (suc (suc (suc (suc (suc (suc zero)))))) p e = mirrored_is asks.UnsignedLess p 8 e refl
mirrored_number (suc (suc (suc (suc (suc (suc (suc zero))))))) p e = mirrored_is asks.UnsignedLessOrEqual p 9 e refl
mirrored_number (suc (suc (suc (suc (suc (suc (suc (suc zero)))))))) p e = mirrored_is asks.UnsignedGreater p 6 e refl
mirrored_number (suc (suc (suc (suc (suc (suc (suc (suc (suc zero))))))))) p e = mirrored_is asks.UnsignedGreaterOrEqual p 7 e refl
mirrored_number (suc (suc (suc (suc (suc (suc (suc (suc (suc (suc n)))))))))) p e = absurd (none-some p e)

-- ---- a comparison of swapped operands
turned : (p : Predicate) (k : BitsKind) (u v z : Outcome) → ((y : Known) → u ≡ Some y → y.0 ≡ k) → ((y : Known) → v ≡ Some y → y.0 ≡ k) → compare_outcome p u v ≡ Some z → refines z (compare_out (law.mirrored p) v u) ≡ true
turned p k None v z f g e = subst (λ z. refines z (compare_out (law.mirrored p) v None) ≡ true) (same_Some _ _ e) refl
turned p k (Some x) None z f g e = subst (λ z. refines z (compare_out (law.mirrored p) None (Some x)) ≡ true) (same_Some _ _ e) refl
turned p k (Some x) (Some y) z f g e =
    let first = f x refl in
    let second = g y refl in
    let same : same_kind x.0 y.0 ≡ true = (λ i. same_kind (first i) (second i)) ∙ same_itself k in
    let back : same_kind y.0 x.0 ≡ true = (λ i. same_kind (second i) (first i)) ∙ same_itself k in
    let value_types = first ∙ sym second in
    let made : z ≡ Some (kind.Int 1, truth (comparison_of (width_of x.0) p x.1 y.1)) = sym (same_Some _ _ (sym (ap (λ c. if c then Some (Some (kind.Int 1, truth (comparison_of (width_of x.0) p x.1 y.1))) else None) same) ∙ e)) in
    let other : compare_out (law.mirrored p) (Some y) (Some x) ≡ Some (kind.Int 1, truth (comparison_of (width_of y.0) (law.mirrored p) y.1 x.1)) =
    ap (λ c. given (if c then Some (Some (kind.Int 1, truth (comparison_of (width_of y.0) (law.mirrored p) y.1 x.1))) else None) (λ z. z)) back in
    same_refined z (compare_out (law.mirrored p) (Some y) (Some x))
    (made ∙ ap (λ b. Some (kind.Int 1, truth b)) (mirror p (width_of x.0) x.1 y.1 ∙ ap (λ k. comparison_of (width_of k) (law.mirrored p) y.1 x.1) value_types) ∙ sym other)

-- ---- an entry that is written
put_after : (j k : List ℕ) (b : AttrTerm) (es : Entries) → key_before j k ≡ true → rises_after key_before j es ≡ true → rises_after key_before j (put_entry key_before k b es) ≡ true
put_after j k b [] l r = and_from (key_before j k) true l refl
put_after j k b (e ∷ es) l r = go (key_before k e.0) refl (key_before e.0 k) refl (put_after e.0 k b es)
  where
    parts : (key_before j e.0 ≡ true) × (rises_after key_before e.0 es ≡ true)
    parts = and_parts (key_before j e.0) (rises_after key_before e.0 es) r

    go : (c : Bool) → key_before k e.0 ≡ c → (d : Bool) → key_before e.0 k ≡ d → (key_before e.0 k ≡ true → rises_after key_before e.0 es ≡ true → rises_after key_before e.0 (put_entry key_before k b es) ≡ true)
        → rises_after key_before j (if c then (k, b) ∷ e ∷ es else (if d then e ∷ put_entry key_before k b es else (k, b) ∷ es)) ≡ true
    go true i d h more = and_from (key_before j k) (key_before k e.0 && rises_after key_before e.0 es) l (and_from (key_before k e.0) (rises_after key_before e.0 es) i parts.1)
    go false i true h more = and_from (key_before j e.0) (rises_after key_before e.0 (put_entry key_before k b es)) parts.0 (more h parts.1)
    go false i false h more = and_from (key_before j k) (rises_after key_before k es) l (subst (λ z. rises_after key_before z es ≡ true) (sym (keys_ordered.exact k e.0 i h)) parts.1)

put_rises : (k : List ℕ) (b : AttrTerm) (es : Entries) → rises key_before es ≡ true → rises key_before (put_entry key_before k b es) ≡ true
put_rises k b [] r = refl
put_rises k b (e ∷ es) r = go (key_before k e.0) refl (key_before e.0 k) refl
  where
    go : (c : Bool) → key_before k e.0 ≡ c → (d : Bool) → key_before e.0 k ≡ d → rises key_before (if c then (k, b) ∷ e ∷ es else (if d then e ∷ put_entry key_before k b es else (k, b) ∷ es)) ≡ true
    go true i d h = and_from (key_before k e.0) (rises_after key_before e.0 es) i r
    go false i true h = put_after e.0 k b es h r
    go false i false h = subst (λ z. rises_after key_before z es ≡ true) (sym (keys_ordered.exact k e.0 i h)) r

put_there : (b : AttrTerm) (es : Entries) → next_to (codes "predicate") (put_entry key_before (codes "predicate") b es) ≡ Some b
put_there b [] = refl
put_there b (e ∷ es) = go (key_before (codes "predicate") e.0) (key_before e.0 (codes "predicate")) refl (put_there b es)
  where
    other : key_before e.0 (codes "predicate") ≡ true → (c : Bool) → bytes_eq (codes "predicate") e.0 ≡ c → next_to (codes "predicate") (put_entry key_before (codes "predicate") b es) ≡ Some b
        → (if c then Some e.1 else next_to (codes "predicate") (put_entry key_before (codes "predicate") b es)) ≡ Some b
    other h false i more = more
    other h true i more = absurd (true≢false (sym h ∙ ap (λ z. key_before z (codes "predicate")) (sym ((bytes_eq-Decides (codes "predicate") e.0).0 i)) ∙ keys_ordered.irr (codes "predicate")))

    go : (c d : Bool) → key_before e.0 (codes "predicate") ≡ d → next_to (codes "predicate") (put_entry key_before (codes "predicate") b es) ≡ Some b
        → next_to (codes "predicate") (if c then (codes "predicate", b) ∷ e ∷ es else (if d then e ∷ put_entry key_before (codes "predicate") b es else (codes "predicate", b) ∷ es)) ≡ Some b
    go true d h more = refl
    go false true h more = other h (bytes_eq (codes "predicate") e.0) refl more
    go false false h more = refl

predicate_put : (n : ℕ) (es : Entries) → property_of (codes "predicate") (put_entry key_before (codes "predicate") (IntegerOf i64 n) es) ≡ Some (i64, n)
predicate_put n es = rw (put_there (IntegerOf i64 n) es) refl

its_property : is_inherent (codes "arith.cmpi") (codes "predicate") ≡ true
unfolding is_inherent operations
its_property = refl

module _ (accepted : AreAccepted) where
  record Mirrors (m n : Module) (x : ℕ) (q : Ruled MirrorComparison m n x) : Type 0 where
    pub first : Value
    pub second : Value
    pub operands : (head q.here).operands ≡ first ∷ second ∷ []
    pub name_is : (head q.here).name ≡ codes "arith.cmpi"
    pub name : rule_of (head q.here).name ≡ Some how.Compare
    pub number : ℕ
    pub requested_for : predicate (head q.here) ≡ Some number
    pub edits : q.edits ≡ SetAttr x (codes "predicate") (IntegerOf i64 (swapped_predicate number)) ∷ SetOperand x 0 second ∷ SetOperand x 1 first ∷ []

  mirrors_here : (m n : Module) (x : ℕ) (q : Ruled MirrorComparison m n x) → Mirrors m n x q
  unfolding rule
  mirrors_here m n x q =
      let h = head q.here in
      let w = two_is h (λ p. when (named (codes "arith.cmpi") p.name) (given (predicate h) (λ i. when (is_known m.tree p.first && not (is_constant m.tree p.second)) (Some (SetAttr h.id (codes "predicate") (IntegerOf i64 (swapped_predicate i)) ∷ SetOperand h.id 0 p.second ∷ SetOperand h.id 1 p.first ∷ []))))) q.edits q.made in
      let g = when_some (named (codes "arith.cmpi") h.name) (given (predicate h) (λ i. when (is_known m.tree w.first && not (is_constant m.tree w.second)) (Some (SetAttr h.id (codes "predicate") (IntegerOf i64 (swapped_predicate i)) ∷ SetOperand h.id 0 w.second ∷ SetOperand h.id 1 w.first ∷ [])))) q.edits w.makes in
      let k = given_some (predicate h) (λ i. when (is_known m.tree w.first && not (is_constant m.tree w.second)) (Some (SetAttr h.id (codes "predicate") (IntegerOf i64 (swapped_predicate i)) ∷ SetOperand h.id 0 w.second ∷ SetOperand h.id 1 w.first ∷ []))) q.edits g.1 in
      let l = when_some (is_known m.tree w.first && not (is_constant m.tree w.second)) (Some (SetAttr h.id (codes "predicate") (IntegerOf i64 (swapped_predicate k.0)) ∷ SetOperand h.id 0 w.second ∷ SetOperand h.id 1 w.first ∷ [])) q.edits k.2 in
      let named_so = named_is (codes "arith.cmpi") h.name g.0 in
      record {
        first = w.first;
        second = w.second;
        operands = w.operands;
        name_is = named_so;
        name = ap rule_of named_so ∙ by_compare;
        number = k.0;
        requested_for = k.1;
        edits = sym (same_Some _ _ l.1) ∙ ap (λ y. SetAttr y (codes "predicate") (IntegerOf i64 (swapped_predicate k.0)) ∷ SetOperand y 0 w.second ∷ SetOperand y 1 w.first ∷ []) q.id;
      }

  module _ (m n : Module) (x : ℕ) (q : Ruled MirrorComparison m n x) (w : Mirrors m n x q) (ready : IsReady m) where
    abbrev attr : AttrTerm
    attr = IntegerOf i64 (swapped_predicate w.number)

    abbrev put : List (List ℕ × AttrTerm)
    put = put_entry key_before (codes "predicate") (IntegerOf i64 (swapped_predicate w.number)) (head q.here).properties

    abbrev last : Header
    last = record (head q.here) { operands = w.second ∷ w.first ∷ []; properties = put_entry key_before (codes "predicate") (IntegerOf i64 (swapped_predicate w.number)) (head q.here).properties }

    part_is : part_for tests x (codes "predicate") m.tree ≡ Props
    part_is =
        ap (part_in tests (codes "predicate")) q.found
        ∙ ap (λ b. if b || is_some (entry_at key_before (codes "predicate") (head q.here).properties) then Props else Attrs) (ap (λ name. is_inherent name (codes "predicate")) w.name_is ∙ its_property)

    mirror_turns : Turns m n x q.here
    mirror_turns =
        let es = SetAttr x (codes "predicate") attr ∷ SetOperand x 0 w.second ∷ SetOperand x 1 w.first ∷ [] in
        let after : all_edited es m ≡ n = subst (λ es. all_edited es m ≡ n) w.edits q.module_is in
        let free = subst (λ es. Free es m) w.edits q.free in
        let kept = entry_keeps is_isolated key_before keys_ordered.trans x (part_for tests x (codes "predicate") m.tree) (codes "predicate") (Some attr) m ready.wellformed ready.sorted free.0 in
        let f : Header → Header = change_part Props (change_entry key_before (codes "predicate") (Some attr)) in
        record {
          found = q.found;
          own = q.id;
          first = f;
          second = put_operand 0 w.second;
          third = put_operand 1 w.first;
          own_first = λ h. refl;
          own_second = λ h. refl;
          own_third = λ h. refl;
          number_first = λ h. refl;
          number_second = λ h. refl;
          number_third = λ h. refl;
          operands = w.second ∷ w.first ∷ [];
          properties = put;
          becomes = ap (λ vs. put_operand 1 w.first (put_operand 0 w.second (f (record (head q.here) { operands = vs })))) w.operands;
          tree =
              ap (λ part. with_operand x 1 w.first (with_operand x 0 w.second (with_entry key_before x part (codes "predicate") (Some attr) m.tree))) (sym part_is)
              ∙ ap (λ (m : Module). m.tree) after;
          wellformed = subst (IsWellFormed is_isolated) after (all_wellformed (SetOperand x 0 w.second ∷ SetOperand x 1 w.first ∷ []) (edited (SetAttr x (codes "predicate") attr) m) (tt, (tt, tt)) kept free.1);
        }

    record MirrorKinds : Type 0 where
      pub own_kind : BitsKind
      pub is : result_kind (head q.here) ≡ Some own_kind
      pub width : is_width (width_of own_kind) ≡ true
      pub intermediate : BitsKind
      pub first_is : kind_in m.tree w.first ≡ Some intermediate
      pub second_is : kind_in m.tree w.second ≡ Some intermediate
      pub truths : same_kind (kind.Int 1) own_kind ≡ true
      pub first : has_value w.first m.tree ≡ true
      pub second : has_value w.second m.tree ≡ true

    compares_parts : (k : BitsKind) (i j : Option BitsKind) → compares k i j ≡ true → (l : BitsKind) × (i ≡ Some l) × (j ≡ Some l) × (same_kind (kind.Int 1) k ≡ true)
    compares_parts k None j e = absurd (true≢false (sym e))
    compares_parts k (Some l) j e = let p = and_parts (is_kind l j) (same_kind (kind.Int 1) k) e in (l, refl, kind_test l j p.0, p.1)

    mirror_kinds : MirrorKinds
    mirror_kinds =
        let k = rule_kinds m.tree (head q.here) (each_found (λ h. is_kinded m.tree h ≡ true) x m.tree ready.kinded q.here q.found).0 (root_has q ready.wellformed ready.kinded refl) how.Compare w.name in
        let p = compares_parts k.kind (kind_in m.tree w.first) (kind_in m.tree w.second) (subst (λ vs. takes how.Compare (head q.here) k.kind (map (kind_in m.tree) vs) ≡ true) w.operands k.operands) in
        let stand = operands_stand is_isolated m.tree ready.wellformed.distinct ready.wellformed.wellformed.visible in
        let values = subst (λ vs. list_all (λ v. has_value v m.tree) vs ≡ true) w.operands (each_found (λ h. list_all (λ v. has_value v m.tree) h.operands ≡ true) x m.tree stand q.here q.found).0 in
        let f = and_parts (has_value w.first m.tree) (has_value w.second m.tree && true) values in
        record { own_kind = k.kind; is = k.is; width = k.width; intermediate = p.0; first_is = p.1; second_is = p.2; truths = p.3; first = f.0; second = (and_parts (has_value w.second m.tree) true f.1).0 }

    module _ (k : MirrorKinds) where
      mirror_takes : Takes (kind_in m.tree) (record (head q.here) { operands = w.second ∷ w.first ∷ []; properties = put_entry key_before (codes "predicate") (IntegerOf i64 (swapped_predicate w.number)) (head q.here).properties })
      mirror_takes =
          let js = kind_in m.tree w.second ∷ kind_in m.tree w.first ∷ [] in
          ap (λ r. takes_its r (result_kind (head q.here)) last js) w.name ∙ ap (λ k. takes_its (Some how.Compare) k last js) k.is
          ∙ and_from (is_width (width_of k.own_kind)) (compares k.own_kind (kind_in m.tree w.second) (kind_in m.tree w.first)) k.width
          ((λ i. compares k.own_kind (k.second_is i) (k.first_is i)) ∙ and_from (same_kind k.intermediate k.intermediate) (same_kind (kind.Int 1) k.own_kind) (same_itself k.intermediate) k.truths)

      mirror_rises : Rises (record (head q.here) { operands = w.second ∷ w.first ∷ []; properties = put_entry key_before (codes "predicate") (IntegerOf i64 (swapped_predicate w.number)) (head q.here).properties })
      mirror_rises =
          let r = (each_found Rises x m.tree (each_rises m.tree ready.sorted) q.here q.found).0 in
          let b = and_parts (rises key_before (head q.here).properties) (rises key_before (head q.here).attributes) r in
          and_from (rises key_before put) (rises key_before (head q.here).attributes) (put_rises (codes "predicate") attr (head q.here).properties b.0) b.1

      module _ (a : Assignment) (done : ℕ → Bool) (computing : Computing a done m.tree) where
        site : Site m a done x q.here
        site = site_of m a done x q.here ready.wellformed ready.kinded computing q.found (root_has q ready.wellformed ready.kinded refl)

        first_of : (y : Known) → a w.first ≡ Some y → y.0 ≡ k.intermediate
        first_of y e = kind_by m a done x q.here site w.first k.intermediate y (ap (is_kind k.intermediate) k.first_is ∙ same_itself k.intermediate) e

        second_of : (y : Known) → a w.second ≡ Some y → y.0 ≡ k.intermediate
        second_of y e = kind_by m a done x q.here site w.second k.intermediate y (ap (is_kind k.intermediate) k.second_is ∙ same_itself k.intermediate) e

        -- the comparison's predicate, if it is executed
        asks_one : done x ≡ true → (p : Predicate) × (slice_get predicates w.number ≡ Some p)
        asks_one d = from_made (requested (property_of (codes "predicate") (head q.here).properties)) refl (found_makes d)
          where
            found_makes : done x ≡ true → is_some (makes (head q.here) (map a (head q.here).operands)) ≡ true
            found_makes d = elim (found_fit a done m.tree computing.fits x q.here q.found d (of_rule m a done x q.here site how.Compare w.name).arithmetic) [
              | inl e ↦ ap is_some e.0
              | inr b ↦ b.1
            ]

            from_made : (o : Option Predicate) → requested (property_of (codes "predicate") (head q.here).properties) ≡ o → is_some (makes (head q.here) (map a (head q.here).operands)) ≡ true → (p : Predicate) × (slice_get predicates w.number ≡ Some p)
            from_made None i e =
                absurd (true≢false (sym e
                ∙ ap is_some (makes_is (head q.here) (map a (head q.here).operands) how.Compare k.own_kind w.name k.is ∙ ap (λ o. given o (λ p. of_two (compare_outcome p) (map a (head q.here).operands))) i)))
            from_made (Some p) i e = (p, requested_number (property_of (codes "predicate") (head q.here).properties) w.number p w.requested_for i)

        mirror_gives : done x ≡ true → GivesNoLess (record (head q.here) { operands = w.second ∷ w.first ∷ []; properties = put_entry key_before (codes "predicate") (IntegerOf i64 (swapped_predicate w.number)) (head q.here).properties }) (a (Result x 0)) (a w.second ∷ a w.first ∷ [])
        mirror_gives d =
            let p = asks_one d in
            let r = of_rule m a done x q.here site how.Compare w.name in
            let asks_so : requested (property_of (codes "predicate") put) ≡ Some (law.mirrored p.0) = ap requested (predicate_put (swapped_predicate w.number) (head q.here).properties) ∙ mirrored_number w.number p.0 p.1 in
            record {
              outcome = compare_out (law.mirrored p.0) (a w.second) (a w.first);
              is_made =
                  makes_is last (a w.second ∷ a w.first ∷ []) how.Compare k.own_kind w.name k.is
                  ∙ ap (λ o. given o (λ p. compare_outcome p (a w.second) (a w.first))) asks_so
                  ∙ compare_is (law.mirrored p.0) k.intermediate (a w.second) (a w.first) second_of first_of;
              better =
                  gives_refined m a done x q.here site how.Compare (compare_out (law.mirrored p.0) (a w.second) (a w.first)) w.name r d
                  (λ z i.
                  let g = given_some (requested (property_of (codes "predicate") (head q.here).properties)) (λ p. of_two (compare_outcome p) (map a (head q.here).operands)) z i in
                  let same : g.0 ≡ p.0 = same_Some _ _ (sym (requested_number (property_of (codes "predicate") (head q.here).properties) w.number g.0 w.requested_for g.1) ∙ p.1) in
                  turned p.0 k.intermediate (a w.first) (a w.second) z first_of second_of
                  (subst (λ p. compare_outcome p (a w.first) (a w.second) ≡ Some z) same (subst (λ vs. of_two (compare_outcome g.0) (map a vs) ≡ Some z) w.operands g.2)));
            }

        mirror_well : TurnsWell m n x q.here mirror_turns ready a done
        unfolding mirror_turns
        mirror_well =
            let two = of_two_is m a done x q.here site w.first w.second w.operands in
            record {
              arithmetic = (of_rule m a done x q.here site how.Compare w.name).arithmetic;
              unflagged = λ xs. ap (λ r. breaks_by r (flags_by (put_entry key_before (codes "predicate") (IntegerOf i64 (swapped_predicate w.number)) (head q.here).properties)) (result_kind (head q.here)) xs) w.name;
              gives_so = mirror_gives;
              sure = λ d. ap (λ r. is_signed_quotient r && is_poison_by_ones (a w.second ∷ a w.first ∷ [])) w.name;
              values = and_from (has_value w.second m.tree) (has_value w.first m.tree && true) k.second (and_from (has_value w.first m.tree) true k.first refl);
              fed = λ d. and_from (is_there done w.second) (is_there done w.first && true) (two.second_there d) (and_from (is_there done w.first) true (two.first_there d) refl);
            }

  pub mirror_comparison_ready : KeepsReady MirrorComparison
  unfolding mirror_turns
  mirror_comparison_ready m n x ready e =
      let q = ruled accepted MirrorComparison m n x ready.wellformed ready.sorted e in
      let w = mirrors_here m n x q in
      let k = mirror_kinds m n x q w ready in
      turned_ready m n x q.here (mirror_turns m n x q w ready) ready (mirror_rises m n x q w ready k) (mirror_takes m n x q w ready k)

  pub mirror_comparison_computing : KeepsComputing MirrorComparison
  mirror_comparison_computing m n x a done ready computing e =
      let q = ruled accepted MirrorComparison m n x ready.wellformed ready.sorted e in
      let w = mirrors_here m n x q in
      let k = mirror_kinds m n x q w ready in
      turned_improves m n x q.here (mirror_turns m n x q w ready) ready a done computing (mirror_well m n x q w ready k a done computing) (mirror_comparison_ready m n x ready e).kinded
