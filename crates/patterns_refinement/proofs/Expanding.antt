-- Rules that expand an operation keep modules ready and refine what they compute.
use Rattle.std.proofs.Common.{◌≡◌, ℕ, ◌+◌, ◌<◌, ◌^◌, ◌-◌, refl, ap, sym, ◌∙◌, subst, [], ◌∷◌, map, Bool, true, ◌&&◌, Some, None, inl, inr, slice_get, arith, false}
use Rattle.std.specs.Prelude.{bit_xor, codes, nat_lt}
use Rattle.std.specs.List.{list_all}
use Rattle.std.proofs.lemmas.Bool.{and_from, and_parts, lt-ltb, ltb-true}
use Rattle.std.proofs.lemmas.Nat.{pow_pos}
use Rattle.std.proofs.lemmas.Option.{same_Some}
use Rattle.ir_types.specs.declared.bits.BitsKind.{BitsKind}
use Rattle.ir_types.specs.Bits.{is_bits, width_of}
use Rattle.ir_types.specs.Readings.{type_width}
use Rattle.ir_types.specs.Reasons.{is_width}
use Rattle.ir_types.specs.Terms.{TypeTerm}
use Rattle.ir_types.specs.Words.{is_isolated}
use Rattle.ir_tree.specs.declared.value.Value.{Value}
use Rattle.ir_tree.specs.declared.value.Value.TheVariants.{Result}
use Rattle.ir_tree.specs.Tree.{head}
use Rattle.ir_tree_laws.specs.Values.{has_value}
use Rattle.ir_event.specs.Modules.{Module}
use Rattle.dialects_int.specs.declared.operations.Arithmetic.{Arithmetic}
use Rattle.dialects_int.specs.declared.operations.Arithmetic.TheVariants as op
use Rattle.dialects_int.specs.declared.operations.Rule.TheVariants as how
use Rattle.dialects_int.specs.Arithmetic.{all_ones, difference_of, sum_of}
use Rattle.dialects_int.specs.Folds.{kind_of, rule_of, rules}
use Rattle.dialects_int.proofs.CastLaws.{less_by_complement}
use Rattle.rewriter_machine.specs.Edits.{Make}
use Rattle.user_patterns_check.specs.Checks.{refines}
use Rattle.user_patterns_check.specs.Outcomes.{Outcome, given, pair_outcome}
use Rattle.patterns_laws.specs.Made.{binary, constant}
use Rattle.patterns_laws.specs.Words.{named}
use Rattle.patterns_laws.proofs.KnownFolds.{below}
use Rattle.patterns_laws.proofs.PairRules.{one_below}
use Rattle.patterns_base.specs.declared.rule.Rule.{Rule}
use Rattle.patterns_base.specs.declared.rule.Rule.TheVariants.{ExpandDifference}
use Rattle.patterns_base.specs.Looks.{when}
use Rattle.patterns_base.specs.Makes.{give_new}
use Rattle.patterns_base.specs.Rules.{rule}
use Rattle.patterns_base.proofs.Facts.{when_some}
use Rattle.patterns_soundness.specs.Accepted.{AreAccepted}
use Rattle.patterns_soundness.proofs.Shapes.{two_is}
use Rattle.patterns_refinement.specs.Meaning.{Assignment, owner}
use Rattle.patterns_refinement.specs.Better.{is_kind, is_kinded, kind_in, takes}
use Rattle.patterns_refinement.specs.Keeping.{IsReady, KeepsComputing, KeepsReady, done_after}
use Rattle.patterns_refinement.proofs.Dropping.{kind_by, of_two_is, pair_refined, widths}
use Rattle.patterns_refinement.proofs.Firsts.{poison_refined}
use Rattle.patterns_refinement.proofs.Wellformed.{is_below, operands_stand}
use Rattle.patterns_refinement.proofs.Forms.{named_is}
use Rattle.patterns_refinement.proofs.Giving.{after_new}
use Rattle.patterns_refinement.proofs.Joining.{by_add, by_subtract}
use Rattle.patterns_refinement.proofs.Makings.{GivesNew, GivesOutcomes, all_agree, all_at, new_improves, new_ready, still_there, with_all}
use Rattle.patterns_refinement.proofs.Monotone.{same_refined}
use Rattle.patterns_refinement.proofs.OfBits.{IsOfBits, pair_bits}
use Rattle.patterns_refinement.proofs.OfKinds.{IsKind, pair_kind}
use Rattle.patterns_refinement.proofs.Pairs.{IsTotal, Paired, binary_gives, binary_made, constant_gives_one, constant_made, is_its_kind, number_bits, number_kind, pair_is, pair_known, pair_out, paired}
use Rattle.patterns_refinement.proofs.Ruled.{may_lack, Ruled, Site, rule_kinds, ruled, site_of, value_bits, root_has}
use Rattle.patterns_refinement.proofs.Trees.{each_found, value_below}

pub by_exclusive_or : rule_of (codes "arith.xori") ≡ Some (how.Binary op.ExclusiveOr)
unfolding rule_of rules
by_exclusive_or = refl

ones_fit : (k : BitsKind) → is_width (width_of k) ≡ true → is_bits k (all_ones (width_of k)) ≡ true
ones_fit k w = and_from (is_width (width_of k)) _ w (less (width_of k))
  where
    less : (w : ℕ) → nat_lt (2 ^ w - 1) (2 ^ w) ≡ true
    less w = lt-ltb (2 ^ w - 1) (2 ^ w) (omega (arith, pow_pos w))

one_fits : (k : BitsKind) → is_width (width_of k) ≡ true → is_bits k 1 ≡ true
one_fits k w = and_from (is_width (width_of k)) (nat_lt 1 (2 ^ width_of k)) w (lt-ltb 1 (2 ^ width_of k) (one_below (width_of k) (ltb-true 0 (width_of k) (and_parts (nat_lt 0 (width_of k)) _ w).0)))

-- ---- an operation on two existing values
pub record OnTwo (r : Rule) (m n : Module) (x : ℕ) (q : Ruled r m n x) (u v : Value) (ty : TypeTerm) : Type 0 where
  pub kind : BitsKind
  pub of : kind_of ty ≡ Some kind
  pub width : is_width (width_of kind) ≡ true
  pub first : has_value u m.tree ≡ true
  pub first_below : owner u < m.next
  pub first_is : is_kind kind (kind_in m.tree u) ≡ true
  pub second : has_value v m.tree ≡ true
  pub second_below : owner v < m.next
  pub second_is : is_kind kind (kind_in m.tree v) ≡ true

pub on_two_values : (r : Rule) (m n : Module) (x : ℕ) (q : Ruled r m n x) (o : Arithmetic) (u v : Value) (ty : TypeTerm) → may_lack r ≡ false → IsReady m → rule_of (head q.here).name ≡ Some (how.Binary o) → (head q.here).operands ≡ u ∷ v ∷ [] → (head q.here).results ≡ ty ∷ [] → OnTwo r m n x q u v ty
on_two_values r m n x q o u v ty stays ready name ops results =
    let k = rule_kinds m.tree (head q.here) (each_found (λ h. is_kinded m.tree h ≡ true) x m.tree ready.kinded q.here q.found).0 (root_has q ready.wellformed ready.kinded stays) (how.Binary o) name in
    let both = and_parts (is_kind k.kind (kind_in m.tree u)) (is_kind k.kind (kind_in m.tree v)) (subst (λ vs. takes (how.Binary o) (head q.here) k.kind (map (kind_in m.tree) vs) ≡ true) ops k.operands) in
    let stand = operands_stand is_isolated m.tree ready.wellformed.distinct ready.wellformed.wellformed.visible in
    let values = subst (λ vs. list_all (λ v. has_value v m.tree) vs ≡ true) ops (each_found (λ h. list_all (λ v. has_value v m.tree) h.operands ≡ true) x m.tree stand q.here q.found).0 in
    let s = and_parts (has_value u m.tree) (has_value v m.tree && true) values in
    let second = (and_parts (has_value v m.tree) true s.1).0 in
    let below = is_below m.next m.tree ready.wellformed.below in
    record {
      kind = k.kind;
      of = sym (ap (λ tys. given (slice_get tys 0) kind_of) results) ∙ k.is;
      width = k.width;
      first = s.0;
      first_below = value_below m.next m.tree below u s.0;
      first_is = both.0;
      second = second;
      second_below = value_below m.next m.tree below v second;
      second_is = both.1;
    }

-- ---- the third result and the results after it
pub third_at : {X : Type 0} (c : Value → X) (n : ℕ) (z : X) → c (Result (n + 1 + 1) 0) ≡ z → c (Result (n + 2) 0) ≡ z
third_at c n z e = subst (λ y. c (Result y 0) ≡ z) same e
  where
    same : n + 1 + 1 ≡ n + 2
    same = omega arith

fourth_at : {X : Type 0} (c : Value → X) (n : ℕ) (z : X) → c (Result (n + 1 + 1 + 1) 0) ≡ z → c (Result (n + 3) 0) ≡ z
fourth_at c n z e = subst (λ y. c (Result y 0) ≡ z) same e
  where
    same : n + 1 + 1 + 1 ≡ n + 3
    same = omega arith

fifth_at : {X : Type 0} (c : Value → X) (n : ℕ) (z : X) → c (Result (n + 1 + 1 + 1 + 1) 0) ≡ z → c (Result (n + 4) 0) ≡ z
fifth_at c n z e = subst (λ y. c (Result y 0) ≡ z) same e
  where
    same : n + 1 + 1 + 1 + 1 ≡ n + 4
    same = omega arith

module _ (accepted : AreAccepted) where
  -- ---- a difference by a complement
  record Differs (m n : Module) (x : ℕ) (q : Ruled ExpandDifference m n x) : Type 0 where
    pub first : Value
    pub second : Value
    pub ty : TypeTerm
    pub operands : (head q.here).operands ≡ first ∷ second ∷ []
    pub results : (head q.here).results ≡ ty ∷ []
    pub name : rule_of (head q.here).name ≡ Some (how.Binary op.Subtract)
    pub edits : Make q.insertion (constant ty (all_ones (type_width ty))) ∷ Make q.insertion (binary (codes "arith.xori") ty second (Result m.next 0)) ∷ Make q.insertion (constant ty 1) ∷ Make q.insertion (binary (codes "arith.addi") ty (Result (m.next + 1) 0) (Result (m.next + 2) 0))
        ∷ give_new q.insertion (m.next + 4) (head q.here).id (binary (codes "arith.addi") ty first (Result (m.next + 3) 0)) ≡ q.edits

  differs_here : (m n : Module) (x : ℕ) (q : Ruled ExpandDifference m n x) → Differs m n x q
  unfolding rule
  differs_here m n x q =
      let h = head q.here in
      let w = two_is h (λ p. when (named (codes "arith.subi") p.name) (Some (Make q.insertion (constant p.ty (all_ones (type_width p.ty))) ∷ Make q.insertion (binary (codes "arith.xori") p.ty p.second (Result m.next 0)) ∷ Make q.insertion (constant p.ty 1) ∷ Make q.insertion (binary (codes "arith.addi") p.ty (Result (m.next + 1) 0) (Result (m.next + 2) 0)) ∷ give_new q.insertion (m.next + 4) h.id (binary (codes "arith.addi") p.ty p.first (Result (m.next + 3) 0))))) q.edits q.made in
      let g = when_some (named (codes "arith.subi") h.name) (Some (Make q.insertion (constant w.ty (all_ones (type_width w.ty))) ∷ Make q.insertion (binary (codes "arith.xori") w.ty w.second (Result m.next 0)) ∷ Make q.insertion (constant w.ty 1) ∷ Make q.insertion (binary (codes "arith.addi") w.ty (Result (m.next + 1) 0) (Result (m.next + 2) 0)) ∷ give_new q.insertion (m.next + 4) h.id (binary (codes "arith.addi") w.ty w.first (Result (m.next + 3) 0)))) q.edits w.makes in
      record {
        first = w.first;
        second = w.second;
        ty = w.ty;
        operands = w.operands;
        results = w.results;
        name = ap rule_of (named_is (codes "arith.subi") h.name g.0) ∙ by_subtract;
        edits = same_Some _ _ g.1;
      }

  adds : IsTotal op.Add
  adds = (refl, (λ w a b. (sum_of w a b, refl)))

  crosses : IsTotal op.ExclusiveOr
  crosses = (refl, (λ w a b. (bit_xor a b, refl)))

  module _ (m n : Module) (x : ℕ) (q : Ruled ExpandDifference m n x) (w : Differs m n x q) (k : OnTwo ExpandDifference m n x q w.first w.second w.ty) where
    abbrev ones : ℕ
    ones = all_ones (type_width w.ty)

    ones_bits : is_bits k.kind (all_ones (type_width w.ty)) ≡ true
    ones_bits = ap (λ v. is_bits k.kind (all_ones v)) (widths w.ty k.kind k.of) ∙ ones_fit k.kind k.width

    one_bits : is_bits k.kind 1 ≡ true
    one_bits = one_fits k.kind k.width

    difference_new : GivesNew ExpandDifference m n x q
    difference_new =
        let value_types = Some k.kind ∷ Some k.kind ∷ Some k.kind ∷ Some k.kind ∷ Some k.kind ∷ [] in
        let f = with_all (kind_in m.tree) m.next None value_types in
        let at = all_at (kind_in m.tree) m.next None value_types in
        record {
          made =
              constant w.ty ones ∷ binary (codes "arith.xori") w.ty w.second (Result m.next 0) ∷ constant w.ty 1 ∷ binary (codes "arith.addi") w.ty (Result (m.next + 1) 0) (Result (m.next + 2) 0)
              ∷ binary (codes "arith.addi") w.ty w.first (Result (m.next + 3) 0) ∷ [];
          value_types = k.kind ∷ k.kind ∷ k.kind ∷ k.kind ∷ k.kind ∷ [];
          value = Result (m.next + 4) 0;
          edits =
              sym w.edits
              ∙ ap (λ y. Make q.insertion (constant w.ty ones) ∷ Make q.insertion (binary (codes "arith.xori") w.ty w.second (Result m.next 0)) ∷ Make q.insertion (constant w.ty 1) ∷ Make q.insertion (binary (codes "arith.addi") w.ty (Result (m.next + 1) 0) (Result (m.next + 2) 0))
              ∷ give_new q.insertion (m.next + 4) y (binary (codes "arith.addi") w.ty w.first (Result (m.next + 3) 0))) q.id;
          are = (
            constant_made f w.ty ones k.kind k.of ones_bits,
            (
              binary_made f (codes "arith.xori") w.ty w.second (Result m.next 0) k.kind op.ExclusiveOr by_exclusive_or k.of k.width
                  (ap (is_kind k.kind) (all_agree (kind_in m.tree) m.next None value_types w.second k.second_below) ∙ k.second_is) (ap (is_kind k.kind) (at.0 0) ∙ is_its_kind k.kind),
              (
                constant_made f w.ty 1 k.kind k.of one_bits,
                (
                  binary_made f (codes "arith.addi") w.ty (Result (m.next + 1) 0) (Result (m.next + 2) 0) k.kind op.Add by_add k.of k.width (ap (is_kind k.kind) (at.1.0 0) ∙ is_its_kind k.kind) (ap (is_kind k.kind) (third_at f m.next (Some k.kind) (at.1.1.0 0)) ∙ is_its_kind k.kind),
                  (
                    binary_made f (codes "arith.addi") w.ty w.first (Result (m.next + 3) 0) k.kind op.Add by_add k.of k.width
                        (ap (is_kind k.kind) (all_agree (kind_in m.tree) m.next None value_types w.first k.first_below) ∙ k.first_is) (ap (is_kind k.kind) (fourth_at f m.next (Some k.kind) (at.1.1.1.0 0)) ∙ is_its_kind k.kind),
                    tt,
                  ),
                ),
              ),
            ),
          );
        }

    module _ (a : Assignment) (done : ℕ → Bool) (s : Site m a done x q.here) where
      abbrev turned : Outcome
      turned = pair_out op.ExclusiveOr (a w.second) (Some (k.kind, all_ones (type_width w.ty)))

      abbrev negated : Outcome
      negated = pair_out op.Add (pair_out op.ExclusiveOr (a w.second) (Some (k.kind, all_ones (type_width w.ty)))) (Some (k.kind, 1))

      abbrev out : Outcome
      out = pair_out op.Add (a w.first) (pair_out op.Add (pair_out op.ExclusiveOr (a w.second) (Some (k.kind, all_ones (type_width w.ty)))) (Some (k.kind, 1)))

      first_of : IsKind k.kind (a w.first)
      first_of y e = kind_by m a done x q.here s w.first k.kind y k.first_is e

      second_of : IsKind k.kind (a w.second)
      second_of y e = kind_by m a done x q.here s w.second k.kind y k.second_is e

      turned_is : pair_outcome op.ExclusiveOr (a w.second) (Some (k.kind, all_ones (type_width w.ty))) ≡ Some (pair_out op.ExclusiveOr (a w.second) (Some (k.kind, all_ones (type_width w.ty))))
      turned_is = pair_is op.ExclusiveOr k.kind (a w.second) (Some (k.kind, ones)) crosses second_of (number_kind k.kind ones)

      turned_of : IsKind k.kind turned
      turned_of = pair_kind op.ExclusiveOr k.kind (a w.second) (Some (k.kind, ones)) turned second_of turned_is

      turned_bits : IsOfBits turned
      turned_bits = pair_bits op.ExclusiveOr (a w.second) (Some (k.kind, ones)) turned (value_bits m a done x q.here s w.second k.second) (number_bits k.kind ones ones_bits) turned_is

      negated_is : pair_outcome op.Add turned (Some (k.kind, 1)) ≡ Some negated
      negated_is = pair_is op.Add k.kind turned (Some (k.kind, 1)) adds turned_of (number_kind k.kind 1)

      negated_of : IsKind k.kind negated
      negated_of = pair_kind op.Add k.kind turned (Some (k.kind, 1)) negated turned_of negated_is

      negated_bits : IsOfBits negated
      negated_bits = pair_bits op.Add turned (Some (k.kind, 1)) negated turned_bits (number_bits k.kind 1 one_bits) negated_is

      difference_known : (z : Outcome) → Paired op.Subtract (a w.first) (a w.second) z → refines z out ≡ true
      difference_known z p =
          let v = width_of k.kind in
          let same = widths w.ty k.kind k.of in
          let first : a w.first ≡ Some (k.kind, p.first.1) = p.first_is ∙ (let i = first_of p.first p.first_is in (λ j. Some (i j, p.first.1))) in
          let second : a w.second ≡ Some (k.kind, p.second.1) = p.second_is ∙ (let i = second_of p.second p.second_is in (λ j. Some (i j, p.second.1))) in
          let c = bit_xor p.second.1 ones in
          let fits : p.second.1 < 2 ^ v = below k.kind p.second.1 (value_bits m a done x q.here s w.second k.second (k.kind, p.second.1) second) in
          let turned_to : turned ≡ Some (k.kind, c) = ap (λ r. given r (λ z. z)) (ap (λ o. pair_outcome op.ExclusiveOr o (Some (k.kind, ones))) second ∙ pair_known op.ExclusiveOr k.kind p.second.1 ones c refl) in
          let negated_to : negated ≡ Some (k.kind, sum_of v c 1) = ap (λ r. given r (λ z. z)) (ap (λ o. pair_outcome op.Add o (Some (k.kind, 1))) turned_to ∙ pair_known op.Add k.kind c 1 (sum_of v c 1) refl) in
          let out_to : out ≡ Some (k.kind, sum_of v p.first.1 (sum_of v c 1)) =
          ap (λ r. given r (λ z. z)) ((λ j. pair_outcome op.Add (first j) (negated_to j)) ∙ pair_known op.Add k.kind p.first.1 (sum_of v c 1) (sum_of v p.first.1 (sum_of v c 1)) refl) in
          let kind_is = first_of p.first p.first_is in
          let value : p.number ≡ sum_of v p.first.1 (sum_of v c 1) =
          same_Some _ _ (sym p.value ∙ ap (λ k. Some (difference_of (width_of k) p.first.1 p.second.1)) kind_is) ∙ less_by_complement v p.first.1 p.second.1 fits
          ∙ ap (λ u. sum_of v p.first.1 (sum_of v (bit_xor p.second.1 (all_ones u)) 1)) (sym same) in
          same_refined z out (p.gives ∙ (λ j. Some (kind_is j, value j)) ∙ sym out_to)

      difference_outcomes : GivesOutcomes ExpandDifference m n x q difference_new a done
      unfolding difference_new
      difference_outcomes =
          let zs = Some (k.kind, ones) ∷ turned ∷ Some (k.kind, 1) ∷ negated ∷ out ∷ [] in
          let c = with_all a m.next None zs in
          let at = all_at a m.next None zs in
          let later = done_after m.next x done in
          let two = of_two_is m a done x q.here s w.first w.second w.operands in
          record {
            outcomes = zs;
            give = (
              constant_gives_one c done later x w.ty k.kind ones k.of ones_bits,
              (
                binary_gives c done later x (codes "arith.xori") w.ty w.second (Result m.next 0) k.kind op.ExclusiveOr (a w.second) (Some (k.kind, ones)) by_exclusive_or refl k.of crosses
                    (all_agree a m.next None zs w.second k.second_below) (at.0 0) second_of (number_kind k.kind ones) (value_bits m a done x q.here s w.second k.second) (number_bits k.kind ones ones_bits)
                    (λ d. still_there m.next x done w.second k.second_below (two.second_there d)) (λ d. after_new m.next x done m.next (omega arith) ∙ d),
                (
                  constant_gives_one c done later x w.ty k.kind 1 k.of one_bits,
                  (
                    binary_gives c done later x (codes "arith.addi") w.ty (Result (m.next + 1) 0) (Result (m.next + 2) 0) k.kind op.Add turned (Some (k.kind, 1)) by_add refl k.of adds
                        (at.1.0 0) (third_at c m.next (Some (k.kind, 1)) (at.1.1.0 0)) turned_of (number_kind k.kind 1) turned_bits (number_bits k.kind 1 one_bits)
                        (λ d. after_new m.next x done (m.next + 1) (omega arith) ∙ d) (λ d. after_new m.next x done (m.next + 2) (omega arith) ∙ d),
                    (
                      binary_gives c done later x (codes "arith.addi") w.ty w.first (Result (m.next + 3) 0) k.kind op.Add (a w.first) negated by_add refl k.of adds
                          (all_agree a m.next None zs w.first k.first_below) (fourth_at c m.next negated (at.1.1.1.0 0)) first_of negated_of (value_bits m a done x q.here s w.first k.first) negated_bits
                          (λ d. still_there m.next x done w.first k.first_below (two.first_there d)) (λ d. after_new m.next x done (m.next + 3) (omega arith) ∙ d),
                      tt,
                    ),
                  ),
                ),
              ),
            );
            better = λ d.
                subst (λ o. refines (a (Result x 0)) o ≡ true) (sym (fifth_at c m.next out (at.1.1.1.1.0 0)))
                (pair_refined m a done x q.here s op.Subtract w.first w.second out w.name w.operands d
                (λ z i. elim (paired op.Subtract (a w.first) (a w.second) z (refl, (λ w a b. (difference_of w a b, refl))) i) [ inl none ↦ poison_refined z out none | inr p ↦ difference_known z p ]));
            there = λ d. after_new m.next x done (m.next + 4) (omega arith) ∙ d;
          }

  pub expand_difference_ready : KeepsReady ExpandDifference
  expand_difference_ready m n x ready e =
      let q = ruled accepted ExpandDifference m n x ready.wellformed ready.sorted e in
      let w = differs_here m n x q in
      let k = on_two_values ExpandDifference m n x q op.Subtract w.first w.second w.ty refl ready w.name w.operands w.results in
      new_ready ExpandDifference m n x q (difference_new m n x q w k) ready

  pub expand_difference_computing : KeepsComputing ExpandDifference
  expand_difference_computing m n x a done ready computing e =
      let q = ruled accepted ExpandDifference m n x ready.wellformed ready.sorted e in
      let w = differs_here m n x q in
      let k = on_two_values ExpandDifference m n x q op.Subtract w.first w.second w.ty refl ready w.name w.operands w.results in
      let s = site_of m a done x q.here ready.wellformed ready.kinded computing q.found (root_has q ready.wellformed ready.kinded refl) in
      new_improves ExpandDifference m n x q (difference_new m n x q w k) a done (difference_outcomes m n x q w k a done s) ready refl (expand_difference_ready m n x ready e).kinded computing
