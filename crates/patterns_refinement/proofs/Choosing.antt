-- The rule on a `select` by a negated condition keeps modules ready and refines what they compute.
use Rattle.std.proofs.Common.{◌≡◌, ℕ, ◌<◌, ◌^◌, refl, ap, sym, ◌∙◌, subst, [], ◌∷◌, map, Bool, true, ◌&&◌, eqb, eqb-true, Some, None, ◌⊎◌, inl, inr}
use Rattle.std.specs.Prelude.{bit_xor, codes, if◌then◌else◌, is_some}
use Rattle.std.specs.List.{list_all}
use Rattle.std.proofs.lemmas.Bool.{and_from, and_parts}
use Rattle.std.proofs.lemmas.Option.{none-some, same_Some}
use Rattle.ir_types.specs.declared.bits.BitsKind.{BitsKind}
use Rattle.ir_types.specs.declared.bits.BitsKind.TheVariants as kind
use Rattle.ir_types.specs.Bits.{width_of}
use Rattle.ir_types.specs.Reasons.{is_width}
use Rattle.ir_types.specs.Terms.{TypeTerm}
use Rattle.ir_types.specs.Words.{is_isolated}
use Rattle.ir_tree.specs.declared.value.Value.{Value}
use Rattle.ir_tree.specs.declared.value.Value.TheVariants.{Result}
use Rattle.ir_tree.specs.Ids.{find}
use Rattle.ir_tree.specs.Tree.{head}
use Rattle.ir_tree.specs.Edits.{put_operand}
use Rattle.ir_tree.specs.WellFormed.{IsWellFormed}
use Rattle.ir_tree_laws.specs.Values.{has_value}
use Rattle.ir_event.specs.Modules.{Module}
use Rattle.dialects_int.specs.declared.operations.Arithmetic.TheVariants as op
use Rattle.dialects_int.specs.declared.operations.Rule.TheVariants as how
use Rattle.dialects_int.specs.Arithmetic.{choice_of}
use Rattle.dialects_int.specs.Folds.{Known, rule_of, same_kind}
use Rattle.dialects_int.proofs.CastLaws.{other_choice}
use Rattle.rewriter_machine.specs.Contents.{all_edited}
use Rattle.rewriter_machine.specs.Edits.{SetOperand}
use Rattle.patterns_base.specs.Lists.{Free}
use Rattle.user_patterns_check.specs.Checks.{refines}
use Rattle.user_patterns_check.specs.Outcomes.{Outcome, given, pair_outcome}
use Rattle.patterns_laws.specs.Words.{named}
use Rattle.patterns_laws.proofs.KnownFolds.{below, given_some}
use Rattle.patterns_base.specs.declared.rule.Rule.TheVariants.{ChooseOpposite}
use Rattle.patterns_base.specs.Looks.{is_verified, is_number, known, source, two, when}
use Rattle.patterns_base.specs.Rules.{rule}
use Rattle.patterns_base.proofs.Facts.{when_some}
use Rattle.patterns_soundness.specs.Accepted.{AreAccepted}
use Rattle.patterns_soundness.proofs.Shapes.{three_is, two_is}
use Rattle.user_patterns_data.specs.Matching.{Header}
use Rattle.patterns_refinement.specs.Meaning.{Assignment, of_two, result_kind, breaks_by, flags_of}
use Rattle.patterns_refinement.specs.Better.{is_kind, is_kinded, is_poison_by_ones, is_signed_quotient, kind_in, takes, takes_its}
use Rattle.patterns_refinement.specs.Choices.{Chosen, Origins}
use Rattle.patterns_refinement.specs.Keeping.{Computing, IsReady, KeepsComputing, KeepsReady, is_there}
use Rattle.patterns_refinement.proofs.Dropping.{choice_refined, kind_by, known_is, known_test, of_two_is}
use Rattle.patterns_refinement.proofs.Picking.{choice_is, kind_cases, three_of}
use Rattle.patterns_refinement.proofs.Verified.{is_by_truth, verified_by_truth}
use Rattle.patterns_refinement.proofs.EditsForm.{all_wellformed}
use Rattle.patterns_refinement.proofs.Expanding.{by_exclusive_or}
use Rattle.patterns_refinement.proofs.Extremes.{select_is, select_out}
use Rattle.patterns_refinement.proofs.Firsts.{by_select}
use Rattle.patterns_refinement.proofs.Wellformed.{operands_stand}
use Rattle.patterns_refinement.proofs.Forms.{makes_is, named_is}
use Rattle.patterns_refinement.proofs.Monotone.{same_refined}
use Rattle.patterns_refinement.proofs.Pairs.{Paired, paired}
use Rattle.patterns_refinement.proofs.Readied.{Rises, Takes, each_rises, same_takes}
use Rattle.patterns_refinement.proofs.Ruled.{Ruled, Site, known_kinds, of_rule, rule_kinds, ruled, site_of, value_bits}
use Rattle.patterns_refinement.proofs.Sources.{Sole, kind_test, made_or_poison, sole_of}
use Rattle.patterns_refinement.proofs.Trees.{each_found}
use Rattle.patterns_refinement.proofs.TurnedChoice.{TurnsChoice, choice_improves}
use Rattle.patterns_refinement.proofs.Turning.{Turns, TurnsWell, turned_improves, turned_ready}

module _ (accepted : AreAccepted) where
  record Opposite (m n : Module) (x : ℕ) (q : Ruled ChooseOpposite m n x) : Type 0 where
    pub first : Value
    pub second : Value
    pub third : Value
    pub operands : (head q.here).operands ≡ first ∷ second ∷ third ∷ []
    pub name : rule_of (head q.here).name ≡ Some how.Select
    pub inner : Header
    pub gives : source m.tree (codes "arith.xori") first ≡ Some inner
    pub condition : Value
    pub truth : Value
    pub inner_ty : TypeTerm
    pub inner_operands : inner.operands ≡ condition ∷ truth ∷ []
    pub inner_results : inner.results ≡ inner_ty ∷ []
    pub one : Known
    pub one_is : known m.tree truth ≡ Some one
    pub is_one : eqb one.1 1 ≡ true
    pub edits : q.edits ≡ SetOperand x 0 condition ∷ SetOperand x 1 third ∷ SetOperand x 2 second ∷ []

  opposite_here : (m n : Module) (x : ℕ) (q : Ruled ChooseOpposite m n x) → Opposite m n x q
  unfolding rule
  opposite_here m n x q =
      let h = head q.here in
      let w = three_is h (λ p. when (named (codes "arith.select") p.name) (given (source m.tree (codes "arith.xori") p.first) (λ y. given (two y) (λ i. when (is_number m.tree 1 i.second) (Some (SetOperand h.id 0 i.first ∷ SetOperand h.id 1 p.third ∷ SetOperand h.id 2 p.second ∷ [])))))) q.edits q.made in
      let g = when_some (named (codes "arith.select") h.name) (given (source m.tree (codes "arith.xori") w.first) (λ y. given (two y) (λ i. when (is_number m.tree 1 i.second) (Some (SetOperand h.id 0 i.first ∷ SetOperand h.id 1 w.third ∷ SetOperand h.id 2 w.second ∷ []))))) q.edits w.makes in
      let s = given_some (source m.tree (codes "arith.xori") w.first) (λ y. given (two y) (λ i. when (is_number m.tree 1 i.second) (Some (SetOperand h.id 0 i.first ∷ SetOperand h.id 1 w.third ∷ SetOperand h.id 2 w.second ∷ [])))) q.edits g.1 in
      let i = two_is s.0 (λ i. when (is_number m.tree 1 i.second) (Some (SetOperand h.id 0 i.first ∷ SetOperand h.id 1 w.third ∷ SetOperand h.id 2 w.second ∷ []))) q.edits s.2 in
      let l = when_some (is_number m.tree 1 i.second) (Some (SetOperand h.id 0 i.first ∷ SetOperand h.id 1 w.third ∷ SetOperand h.id 2 w.second ∷ [])) q.edits i.makes in
      let k = known_test (λ k. eqb k.1 1) (known m.tree i.second) l.0 in
      record {
        first = w.first;
        second = w.second;
        third = w.third;
        operands = w.operands;
        name = ap rule_of (named_is (codes "arith.select") h.name g.0) ∙ by_select;
        inner = s.0;
        gives = s.1;
        condition = i.first;
        truth = i.second;
        inner_ty = i.ty;
        inner_operands = i.operands;
        inner_results = i.results;
        one = k.0;
        one_is = k.1;
        is_one = k.2;
        edits = sym (same_Some _ _ l.1) ∙ ap (λ y. SetOperand y 0 i.first ∷ SetOperand y 1 w.third ∷ SetOperand y 2 w.second ∷ []) q.id;
      }

  module _ (m n : Module) (x : ℕ) (q : Ruled ChooseOpposite m n x) (w : Opposite m n x q) (ready : IsReady m) where
    opposite_turns : Turns m n x q.here
    opposite_turns =
        let es = SetOperand x 0 w.condition ∷ SetOperand x 1 w.third ∷ SetOperand x 2 w.second ∷ [] in
        let after : all_edited es m ≡ n = subst (λ es. all_edited es m ≡ n) w.edits q.module_is in
        record {
          found = q.found;
          own = q.id;
          first = put_operand 0 w.condition;
          second = put_operand 1 w.third;
          third = put_operand 2 w.second;
          own_first = λ h. refl;
          own_second = λ h. refl;
          own_third = λ h. refl;
          number_first = λ h. refl;
          number_second = λ h. refl;
          number_third = λ h. refl;
          operands = w.condition ∷ w.third ∷ w.second ∷ [];
          properties = (head q.here).properties;
          becomes = ap (λ vs. put_operand 2 w.second (put_operand 1 w.third (put_operand 0 w.condition (record (head q.here) { operands = vs })))) w.operands;
          tree = ap (λ (m : Module). m.tree) after;
          wellformed = subst (IsWellFormed is_isolated) after (all_wellformed es m (tt, (tt, (tt, tt))) ready.wellformed (subst (λ es. Free es m) w.edits q.free));
        }

    -- the condition is the negation of another, and both are i1
    record OppositeTruths : Type 0 where
      pub sole : Sole m (λ h. named (codes "arith.xori") h.name && is_verified m.tree h) w.first w.inner
      pub own_name : rule_of (head sole.here).name ≡ Some (how.Binary op.ExclusiveOr)
      pub own_operands : (head sole.here).operands ≡ w.condition ∷ w.truth ∷ []
      pub sole_kind : result_kind (head sole.here) ≡ Some (kind.Int 1)
      pub first_is : is_kind (kind.Int 1) (kind_in m.tree w.first) ≡ true
      pub condition_is : is_kind (kind.Int 1) (kind_in m.tree w.condition) ≡ true
      pub condition : has_value w.condition m.tree ≡ true
      pub second : has_value w.second m.tree ≡ true
      pub third : has_value w.third m.tree ≡ true

    opposite_truths : OppositeTruths
    opposite_truths =
        let first_is : is_kind (kind.Int 1) (kind_in m.tree w.first) ≡ true =
        subst (λ vs. is_by_truth (map (kind_in m.tree) vs) ≡ true) w.operands (verified_by_truth m.tree q.here ready.wellformed.distinct (ap (λ y. find y m.tree) q.id ∙ q.found) (q.verified refl) w.name) in
        let stand = operands_stand is_isolated m.tree ready.wellformed.distinct ready.wellformed.wellformed.visible in
        let values = subst (λ vs. list_all (λ v. has_value v m.tree) vs ≡ true) w.operands (each_found (λ h. list_all (λ v. has_value v m.tree) h.operands ≡ true) x m.tree stand q.here q.found).0 in
        let f = and_parts (has_value w.first m.tree) (has_value w.second m.tree && (has_value w.third m.tree && true)) values in
        let g = and_parts (has_value w.second m.tree) (has_value w.third m.tree && true) f.1 in
        let s = sole_of m (λ h. named (codes "arith.xori") h.name && is_verified m.tree h) w.first w.inner w.gives f.0 w.inner_ty w.inner_results in
        let inner_name = ap rule_of (named_is (codes "arith.xori") w.inner.name (and_parts (named (codes "arith.xori") w.inner.name) (is_verified m.tree w.inner) s.passed).0) ∙ by_exclusive_or in
        let own_name : rule_of (head s.here).name ≡ Some (how.Binary op.ExclusiveOr) = ap rule_of (ap (λ (h : Header). h.name) s.heads) ∙ inner_name in
        let own_operands : (head s.here).operands ≡ w.condition ∷ w.truth ∷ [] = ap (λ (h : Header). h.operands) s.heads ∙ w.inner_operands in
        let sole_kind : result_kind (head s.here) ≡ Some (kind.Int 1) = sym s.kind ∙ kind_test (kind.Int 1) (kind_in m.tree w.first) first_is in
        let r = known_kinds m.tree (head s.here) (each_found (λ h. is_kinded m.tree h ≡ true) s.id m.tree ready.kinded s.here s.found).0 (how.Binary op.ExclusiveOr) own_name (kind.Int 1) sole_kind in
        let truths : r.kind ≡ kind.Int 1 = same_Some _ _ (sym r.is ∙ sole_kind) in
        let inside = and_parts (is_kind r.kind (kind_in m.tree w.condition)) (is_kind r.kind (kind_in m.tree w.truth)) (subst (λ vs. takes (how.Binary op.ExclusiveOr) (head s.here) r.kind (map (kind_in m.tree) vs) ≡ true) own_operands r.operands) in
        let inner_values = subst (λ vs. list_all (λ v. has_value v m.tree) vs ≡ true) own_operands (each_found (λ h. list_all (λ v. has_value v m.tree) h.operands ≡ true) s.id m.tree stand s.here s.found).0 in
        record {
          sole = s;
          own_name = own_name;
          own_operands = own_operands;
          sole_kind = sole_kind;
          first_is = first_is;
          condition_is = subst (λ k. is_kind k (kind_in m.tree w.condition) ≡ true) truths inside.0;
          condition = (and_parts (has_value w.condition m.tree) (has_value w.truth m.tree && true) inner_values).0;
          second = g.0;
          third = (and_parts (has_value w.third m.tree) true g.1).0;
        }

    module _ (j : OppositeTruths) where
      new_values : list_all (λ v. has_value v m.tree) (w.condition ∷ w.third ∷ w.second ∷ []) ≡ true
      new_values =
          and_from (has_value w.condition m.tree) (has_value w.third m.tree && (has_value w.second m.tree && true)) j.condition
          (and_from (has_value w.third m.tree) (has_value w.second m.tree && true) j.third (and_from (has_value w.second m.tree) true j.second refl))

      module _ (a : Assignment) (done : ℕ → Bool) (computing : Computing a done m.tree) where
        inner_site : Site m a done j.sole.id j.sole.here
        inner_site = site_of m a done j.sole.id j.sole.here ready.wellformed ready.kinded computing j.sole.found (λ i. ap is_some j.sole_kind)

        -- the other condition, if the condition is known
        record Opposed (c : Known) : Type 0 where
          pub known : Known
          pub is : a w.condition ≡ Some known
          pub kind_is : known.0 ≡ kind.Int 1
          pub fits : known.1 < 2 ^ 1
          pub number : bit_xor known.1 1 ≡ c.1

        module _ (d : done x ≡ true) where
          all_there : (is_there done w.first ≡ true) × (is_there done w.second ≡ true) × (is_there done w.third ≡ true)
          all_there = (three_of q a done ready.wellformed computing w.first w.second w.third w.operands).there d

          inner_done : done j.sole.id ≡ true
          inner_done = ap (is_there done) (sym j.sole.value) ∙ all_there.0

          inner_there : is_there done w.condition ≡ true
          inner_there = (of_two_is m a done j.sole.id j.sole.here inner_site w.condition w.truth j.own_operands).first_there inner_done

          new_there : list_all (is_there done) (w.condition ∷ w.third ∷ w.second ∷ []) ≡ true
          new_there =
              and_from (is_there done w.condition) (is_there done w.third && (is_there done w.second && true)) inner_there
              (and_from (is_there done w.third) (is_there done w.second && true) all_there.2 (and_from (is_there done w.second) true all_there.1 refl))

          inner_makes : (pair_outcome op.ExclusiveOr (a w.condition) (a w.truth) ≡ Some (a w.first)) ⊎ (a w.first ≡ None)
          inner_makes = elim (made_or_poison m a done j.sole.id j.sole.here inner_site (how.Binary op.ExclusiveOr) j.own_name (of_rule m a done j.sole.id j.sole.here inner_site (how.Binary op.ExclusiveOr) j.own_name) inner_done) [
            | inl i ↦ inl
                (subst (λ v. pair_outcome op.ExclusiveOr (a w.condition) (a w.truth) ≡ Some (a v)) (sym j.sole.value)
                (subst (λ vs. of_two (pair_outcome op.ExclusiveOr) (map a vs) ≡ Some (a (Result j.sole.id 0))) j.own_operands i))
            | inr none ↦ inr (ap a j.sole.value ∙ none)
          ]

          opposed_by : (c : Known) → a w.first ≡ Some c → Paired op.ExclusiveOr (a w.condition) (a w.truth) (a w.first) → Opposed c
          opposed_by c e p =
              let inside = of_two_is m a done j.sole.id j.sole.here inner_site w.condition w.truth j.own_operands in
              let one_is : w.one ≡ p.second = known_is m a done ready.wellformed ready.kinded computing w.truth w.one p.second inside.second (inside.second_there inner_done) w.one_is p.second_is in
              let kind_is : p.first.0 ≡ kind.Int 1 = kind_by m a done j.sole.id j.sole.here inner_site w.condition (kind.Int 1) p.first j.condition_is p.first_is in
              let number : bit_xor p.first.1 1 ≡ p.number = same_Some _ _ (ap (λ n. Some (bit_xor p.first.1 n)) (sym (ap (λ (y : Known). y.1) (sym one_is) ∙ eqb-true w.one.1 1 w.is_one)) ∙ p.value) in
              let same : c.1 ≡ p.number = ap (λ (y : Known). y.1) (same_Some c (p.first.0, p.number) (sym e ∙ p.gives)) in
              record {
                known = p.first;
                is = p.first_is;
                kind_is = kind_is;
                fits = subst (λ k. p.first.1 < 2 ^ width_of k) kind_is (below p.first.0 p.first.1 (value_bits m a done j.sole.id j.sole.here inner_site w.condition j.condition p.first p.first_is));
                number = number ∙ sym same;
              }

          opposed : (c : Known) → a w.first ≡ Some c → Opposed c
          opposed c e = elim inner_makes [
            | inr none ↦ absurd (none-some c (sym none ∙ e))
            | inl i ↦ elim (paired op.ExclusiveOr (a w.condition) (a w.truth) (a w.first) (refl, (λ w a b. (bit_xor a b, refl))) i) [
              | inl none ↦ absurd (none-some c (sym none ∙ e))
              | inr p ↦ opposed_by c e p
            ]
          ]

        -- ---- a `select` of memrefs or tensors
        chooses_opposite : (origin : Origins) (y : Value) → done x ≡ true → Chosen a origin y (w.first ∷ w.second ∷ w.third ∷ []) → Chosen a origin y (w.condition ∷ w.third ∷ w.second ∷ [])
        chooses_opposite origin y d p =
            let o = opposed d p.0 p.1 in
            (o.known, o.is, ap origin (sym (ap (λ n. choice_of n w.second w.third) (sym o.number) ∙ other_choice o.known.1 w.second w.third o.fits)) ∙ p.2)

        opposite_choice : result_kind (head q.here) ≡ None → TurnsChoice m n x q.here opposite_turns ready a done
        unfolding opposite_turns
        opposite_choice none = record {
          choice = choice_is q ready.wellformed (q.verified refl) w.name none;
          properties = refl;
          values = new_values;
          fed = new_there;
          chooses = λ origin y d p. chooses_opposite origin y d (subst (Chosen a origin y) w.operands p);
        }

    -- ---- a `select` of numbers
    record OppositeKinds : Type 0 where
      pub own_kind : BitsKind
      pub is : result_kind (head q.here) ≡ Some own_kind
      pub width : is_width (width_of own_kind) ≡ true
      pub second_is : is_kind own_kind (kind_in m.tree w.second) ≡ true
      pub third_is : is_kind own_kind (kind_in m.tree w.third) ≡ true

    opposite_kinds : is_some (result_kind (head q.here)) ≡ true → OppositeKinds
    opposite_kinds some =
        let k = rule_kinds m.tree (head q.here) (each_found (λ h. is_kinded m.tree h ≡ true) x m.tree ready.kinded q.here q.found).0 (λ asks. some) how.Select w.name in
        let all = and_parts (is_kind (kind.Int 1) (kind_in m.tree w.first)) (is_kind k.kind (kind_in m.tree w.second) && is_kind k.kind (kind_in m.tree w.third)) (subst (λ vs. takes how.Select (head q.here) k.kind (map (kind_in m.tree) vs) ≡ true) w.operands k.operands) in
        let both = and_parts (is_kind k.kind (kind_in m.tree w.second)) (is_kind k.kind (kind_in m.tree w.third)) all.1 in
        record { own_kind = k.kind; is = k.is; width = k.width; second_is = both.0; third_is = both.1 }

    module _ (j : OppositeTruths) (k : OppositeKinds) where
      opposite_takes : Takes (kind_in m.tree) (record (head q.here) { operands = w.condition ∷ w.third ∷ w.second ∷ []; properties = (head q.here).properties })
      opposite_takes =
          let value_types = kind_in m.tree in
          let js = value_types w.condition ∷ value_types w.third ∷ value_types w.second ∷ [] in
          same_takes (head q.here) (head q.here).id (w.condition ∷ w.third ∷ w.second ∷ []) js
          ∙ ap (λ r. takes_its r (result_kind (head q.here)) (head q.here) js) w.name ∙ ap (λ k. takes_its (Some how.Select) k (head q.here) js) k.is
          ∙ and_from (is_width (width_of k.own_kind)) (is_kind (kind.Int 1) (value_types w.condition) && (is_kind k.own_kind (value_types w.third) && is_kind k.own_kind (value_types w.second))) k.width
          (and_from (is_kind (kind.Int 1) (value_types w.condition)) (is_kind k.own_kind (value_types w.third) && is_kind k.own_kind (value_types w.second)) j.condition_is (and_from (is_kind k.own_kind (value_types w.third)) (is_kind k.own_kind (value_types w.second)) k.third_is k.second_is))

      module _ (a : Assignment) (done : ℕ → Bool) (computing : Computing a done m.tree) where
        site : Site m a done x q.here
        site = site_of m a done x q.here ready.wellformed ready.kinded computing q.found (λ asks. ap is_some k.is)

        abbrev out : Outcome
        out = select_out (a w.condition) (a w.third) (a w.second)

        opposite_known : (c : Known) → Opposed j a done computing c → refines (choice_of c.1 (a w.second) (a w.third)) out ≡ true
        opposite_known c o =
            let to : out ≡ choice_of o.known.1 (a w.third) (a w.second) =
            ap (λ o. select_out o (a w.third) (a w.second)) o.is
            ∙ ap (λ b. given (if b then Some (choice_of o.known.1 (a w.third) (a w.second)) else None) (λ z. z)) (ap (λ k. same_kind k (kind.Int 1)) o.kind_is) in
            same_refined (choice_of c.1 (a w.second) (a w.third)) out
            (ap (λ n. choice_of n (a w.second) (a w.third)) (sym o.number) ∙ other_choice o.known.1 (a w.second) (a w.third) o.fits ∙ sym to)

        opposite_refined : done x ≡ true → refines (a (Result x 0)) out ≡ true
        opposite_refined d =
            choice_refined m a done x q.here site w.first w.second w.third out w.name w.operands d
            (λ c e i. opposite_known c (opposed j a done computing d c e))

        opposite_well : TurnsWell m n x q.here opposite_turns ready a done
        unfolding opposite_turns
        opposite_well =
            let r = of_rule m a done x q.here site how.Select w.name in
            let xs = a w.condition ∷ a w.third ∷ a w.second ∷ [] in
            record {
              arithmetic = r.arithmetic;
              unflagged = λ xs. ap (λ r. breaks_by r (flags_of (head q.here)) (result_kind (head q.here)) xs) w.name;
              gives_so = λ d. record {
                outcome = out;
                is_made =
                    makes_is (record (head q.here) { operands = w.condition ∷ w.third ∷ w.second ∷ []; properties = (head q.here).properties }) xs how.Select k.own_kind w.name k.is
                    ∙ select_is (a w.condition) (a w.third) (a w.second) (λ y e. kind_by m a done x q.here site w.condition (kind.Int 1) y j.condition_is e);
                better = opposite_refined d;
              };
              sure = λ d. ap (λ r. is_signed_quotient r && is_poison_by_ones (a w.condition ∷ a w.third ∷ a w.second ∷ [])) w.name;
              values = new_values j;
              fed = λ d. new_there j a done computing d;
            }

    -- the operands have the kinds that the operation needs
    opposite_taken : Takes (kind_in m.tree) (record (head q.here) { operands = w.condition ∷ w.third ∷ w.second ∷ []; properties = (head q.here).properties })
    opposite_taken = elim (kind_cases (result_kind (head q.here))) [
      | inl none ↦
          let js = kind_in m.tree w.condition ∷ kind_in m.tree w.third ∷ kind_in m.tree w.second ∷ [] in
          same_takes (head q.here) (head q.here).id (w.condition ∷ w.third ∷ w.second ∷ []) js
          ∙ ap (λ r. takes_its r (result_kind (head q.here)) (head q.here) js) w.name ∙ ap (λ k. takes_its (Some how.Select) k (head q.here) js) none
      | inr some ↦ opposite_takes opposite_truths (opposite_kinds some)
    ]

  pub choose_opposite_ready : KeepsReady ChooseOpposite
  unfolding opposite_turns
  choose_opposite_ready m n x ready e =
      let q = ruled accepted ChooseOpposite m n x ready.wellformed ready.sorted e in
      let w = opposite_here m n x q in
      turned_ready m n x q.here (opposite_turns m n x q w ready) ready (each_found Rises x m.tree (each_rises m.tree ready.sorted) q.here q.found).0 (opposite_taken m n x q w ready)

  pub choose_opposite_computing : KeepsComputing ChooseOpposite
  choose_opposite_computing m n x a done ready computing e =
      let q = ruled accepted ChooseOpposite m n x ready.wellformed ready.sorted e in
      let w = opposite_here m n x q in
      let j = opposite_truths m n x q w ready in
      elim (kind_cases (result_kind (head q.here))) [
        | inl none ↦ choice_improves m n x q.here (opposite_turns m n x q w ready) ready a done computing (opposite_choice m n x q w ready j a done computing none)
        | inr some ↦ turned_improves m n x q.here (opposite_turns m n x q w ready) ready a done computing (opposite_well m n x q w ready j (opposite_kinds m n x q w ready some) a done computing) (choose_opposite_ready m n x ready e).kinded
      ]
