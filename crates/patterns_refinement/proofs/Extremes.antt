-- The rule that expands a minimum or maximum to a comparison and a `select` keeps modules ready and refines what they
-- compute.
use Rattle.std.proofs.Common.{◌≡◌, ℕ, ◌+◌, ◌<◌, ◌≤◌, ◌^◌, refl, ap, sym, ◌∙◌, subst, List, [], ◌∷◌, Bool, true, false, ◌&&◌, Some, None, inl, inr, slice_get, arith}
use Rattle.std.specs.Prelude.{◌==◌, if◌then◌else◌, is_some}
use Rattle.std.specs.Str.{bytes_eq}
use Rattle.std.proofs.lemmas.Bool.{and_from}
use Rattle.std.proofs.lemmas.Slice.Eq.{bytes_eq-Decides}
use Rattle.std.proofs.lemmas.Option.{none-some, same_Some}
use Rattle.ir_types.specs.declared.bits.BitsKind.{BitsKind}
use Rattle.ir_types.specs.declared.bits.BitsKind.TheVariants as kind
use Rattle.ir_types.specs.Bits.{width_of}
use Rattle.ir_types.specs.Reasons.{is_width}
use Rattle.ir_types.specs.Terms.{TypeTerm}
use Rattle.ir_tree.specs.declared.value.Value.{Value}
use Rattle.ir_tree.specs.declared.value.Value.TheVariants.{Result}
use Rattle.ir_tree.specs.Tree.{head}
use Rattle.ir_event.specs.Modules.{Module}
use Rattle.op_registry.specs.Registry.{next_to}
use Rattle.dialects_int.specs.declared.operations.Arithmetic.{Arithmetic}
use Rattle.dialects_int.specs.declared.operations.Arithmetic.TheVariants as op
use Rattle.dialects_int.specs.declared.operations.Predicate.{Predicate}
use Rattle.dialects_int.specs.declared.operations.Predicate.TheVariants as asks
use Rattle.dialects_int.specs.declared.operations.Rule.TheVariants as how
use Rattle.dialects_int.specs.Arithmetic.{choice_of, comparison_of, maximum_of, minimum_of, signed_maximum_of, signed_minimum_of, truth, value_of}
use Rattle.dialects_int.specs.Folds.{predicates, rule_of, rules, same_kind}
use Rattle.dialects_int.proofs.CastLaws.{maximum_chosen, minimum_chosen, signed_maximum_chosen, signed_minimum_chosen}
use Rattle.dialects_int.proofs.KnownOperands.{same_itself}
use Rattle.rewriter_machine.specs.Edits.{Make}
use Rattle.user_patterns_check.specs.Checks.{refines}
use Rattle.user_patterns_check.specs.Outcomes.{Outcome, compare_outcome, given, select_outcome}
use Rattle.patterns_laws.specs.Keeps.{Each as EachOf}
use Rattle.patterns_laws.specs.Made.{choice, comparison, i1}
use Rattle.patterns_laws.specs.Words.{predicate_of_min_max}
use Rattle.patterns_laws.proofs.KnownFolds.{below, given_some, some_bits}
use Rattle.patterns_base.specs.declared.rule.Rule.TheVariants.{ExpandMinMax}
use Rattle.patterns_base.specs.Makes.{give_new}
use Rattle.patterns_base.specs.Rules.{rule}
use Rattle.patterns_soundness.specs.Accepted.{AreAccepted}
use Rattle.patterns_soundness.proofs.Shapes.{two_is}
use Rattle.patterns_refinement.specs.Meaning.{Assignment}
use Rattle.patterns_refinement.specs.Better.{compares, is_kind, is_poison_by_ones, is_signed_quotient, kind_in, takes_its}
use Rattle.patterns_refinement.specs.Keeping.{KeepsComputing, KeepsReady, done_after, is_there}
use Rattle.patterns_refinement.proofs.Dropping.{kind_by, of_two_is, pair_refined}
use Rattle.patterns_refinement.proofs.Expanding.{OnTwo, on_two_values}
use Rattle.patterns_refinement.proofs.Firsts.{by_select, poison_refined}
use Rattle.patterns_refinement.proofs.Forms.{makes_is}
use Rattle.patterns_refinement.proofs.Giving.{after_new}
use Rattle.patterns_refinement.proofs.Makings.{GivesNew, GivesOutcomes, all_agree, all_at, new_improves, new_ready, still_there, with_all}
use Rattle.patterns_refinement.proofs.Monotone.{same_refined}
use Rattle.patterns_refinement.proofs.OfBits.{compare_bits, select_bits}
use Rattle.patterns_refinement.proofs.OfKinds.{IsKind, OfKinds, compare_kind, select_kind}
use Rattle.patterns_refinement.proofs.Pairs.{IsTotal, Paired, paired}
use Rattle.patterns_refinement.proofs.Ruled.{Ruled, Site, ruled, site_of, value_bits, root_has}
use Rattle.patterns_refinement.proofs.Sources.{kind_test}
use Rattle.patterns_refinement.proofs.TruthRules.{by_compare}

-- ---- minimum or maximum
record IsAsking (name : List ℕ) (number : ℕ) : Type 0 where
  pub operation : Arithmetic
  pub by : rule_of name ≡ Some (how.Binary operation)
  pub predicate : Predicate
  pub asks_it : slice_get predicates number ≡ Some predicate
  pub total : IsTotal operation
  pub law : (w a b : ℕ) → 1 ≤ w → a < 2 ^ w → b < 2 ^ w → value_of operation w a b ≡ Some (choice_of (truth (comparison_of w predicate a b)) a b)

asking_rows : EachOf (λ (row : List ℕ × ℕ). IsAsking row.0 row.1) predicate_of_min_max
unfolding rule_of rules predicate_of_min_max predicates
asking_rows = (
  record { operation = op.MaximumSigned; by = refl; predicate = asks.SignedGreater; asks_it = refl; total = (refl, (λ w a b. (signed_maximum_of w a b, refl))); law = λ w a b s f g. ap (λ n. Some n) (signed_maximum_chosen w a b s f g) },
  (
    record { operation = op.MaximumUnsigned; by = refl; predicate = asks.UnsignedGreater; asks_it = refl; total = (refl, (λ w a b. (maximum_of a b, refl))); law = λ w a b s f g. ap (λ n. Some n) (maximum_chosen w a b) },
    (
      record { operation = op.MinimumSigned; by = refl; predicate = asks.SignedLess; asks_it = refl; total = (refl, (λ w a b. (signed_minimum_of w a b, refl))); law = λ w a b s f g. ap (λ n. Some n) (signed_minimum_chosen w a b s f g) },
      (
        record { operation = op.MinimumUnsigned; by = refl; predicate = asks.UnsignedLess; asks_it = refl; total = (refl, (λ w a b. (minimum_of a b, refl))); law = λ w a b s f g. ap (λ n. Some n) (minimum_chosen w a b) },
        tt,
      ),
    ),
  ),
)

row_there : (rows : List (List ℕ × ℕ)) (name : List ℕ) (n : ℕ) → EachOf (λ (row : List ℕ × ℕ). IsAsking row.0 row.1) rows → next_to name rows ≡ Some n → IsAsking name n
row_there [] name n each e = absurd (none-some n e)
row_there (row ∷ rows) name n each e = go (bytes_eq name row.0) refl e (row_there rows name n each.1)
  where
    go : (b : Bool) → bytes_eq name row.0 ≡ b → (if b then Some row.1 else next_to name rows) ≡ Some n → (next_to name rows ≡ Some n → IsAsking name n) → IsAsking name n
    go true i e more =
        let number : row.1 ≡ n = same_Some _ _ e in
        subst (λ n. IsAsking name n) number (subst (λ name. IsAsking name row.1) (sym ((bytes_eq-Decides name row.0).0 i)) each.0)
    go false i e more = more e

-- ---- the outcome of a comparison, and of a `select` by it
abbrev pub compare_out : Predicate → Outcome → Outcome → Outcome
compare_out p u v = given (compare_outcome p u v) (λ z. z)

abbrev pub select_out : Outcome → Outcome → Outcome → Outcome
select_out c u v = given (select_outcome c u v) (λ z. z)

pub compare_known : (p : Predicate) (k : BitsKind) (a b : ℕ) → compare_outcome p (Some (k, a)) (Some (k, b)) ≡ Some (Some (kind.Int 1, truth (comparison_of (width_of k) p a b)))
compare_known p k a b = ap (λ c. if c then Some (Some (kind.Int 1, truth (comparison_of (width_of k) p a b))) else None) (same_itself k)

pub compare_is : (p : Predicate) (k : BitsKind) (u v : Outcome) → IsKind k u → IsKind k v → compare_outcome p u v ≡ Some (compare_out p u v)
compare_is p k None v f g = refl
compare_is p k (Some x) None f g = refl
compare_is p k (Some x) (Some y) f g =
    let first = f x refl in
    let second = g y refl in
    let same : same_kind x.0 y.0 ≡ true = (λ i. same_kind (first i) (second i)) ∙ same_itself k in
    ap (λ c. if c then Some (Some (kind.Int 1, truth (comparison_of (width_of x.0) p x.1 y.1))) else None) same
    ∙ sym (ap (λ c. Some (given (if c then Some (Some (kind.Int 1, truth (comparison_of (width_of x.0) p x.1 y.1))) else None) (λ z. z))) same)

pub select_is : (c u v : Outcome) → IsKind (kind.Int 1) c → select_outcome c u v ≡ Some (select_out c u v)
select_is None u v f = refl
select_is (Some c) u v f =
    let same : same_kind c.0 (kind.Int 1) ≡ true = ap (λ k. same_kind k (kind.Int 1)) (f c refl) in
    ap (λ b. if b then Some (choice_of c.1 u v) else None) same ∙ sym (ap (λ b. Some (given (if b then Some (choice_of c.1 u v) else None) (λ z. z))) same)

nothing : OfKinds [] []
nothing = record { long = refl; are = λ i x e. absurd (none-some (Some x) e) }

abbrev number_at : BitsKind → ℕ → Outcome
number_at k n = Some (k, n)

chosen_of : (k : BitsKind) (c a b : ℕ) → choice_of c (number_at k a) (number_at k b) ≡ number_at k (choice_of c a b)
chosen_of k c a b = go (c == 0)
  where
    go : (t : Bool) → (if t then number_at k b else number_at k a) ≡ number_at k (if t then b else a)
    go true = refl
    go false = refl

module _ (accepted : AreAccepted) where
  record Extreme (m n : Module) (x : ℕ) (q : Ruled ExpandMinMax m n x) : Type 0 where
    pub first : Value
    pub second : Value
    pub ty : TypeTerm
    pub operands : (head q.here).operands ≡ first ∷ second ∷ []
    pub results : (head q.here).results ≡ ty ∷ []
    pub number : ℕ
    pub asks_for : IsAsking (head q.here).name number
    pub edits : Make q.insertion (comparison number first second) ∷ give_new q.insertion (m.next + 1) (head q.here).id (choice ty (Result m.next 0) first second) ≡ q.edits

  extreme_here : (m n : Module) (x : ℕ) (q : Ruled ExpandMinMax m n x) → Extreme m n x q
  unfolding rule
  extreme_here m n x q =
      let h = head q.here in
      let w = two_is h (λ p. given (next_to p.name predicate_of_min_max) (λ i. Some (Make q.insertion (comparison i p.first p.second) ∷ give_new q.insertion (m.next + 1) h.id (choice p.ty (Result m.next 0) p.first p.second)))) q.edits q.made in
      let g = given_some (next_to h.name predicate_of_min_max) (λ i. Some (Make q.insertion (comparison i w.first w.second) ∷ give_new q.insertion (m.next + 1) h.id (choice w.ty (Result m.next 0) w.first w.second))) q.edits w.makes in
      record { first = w.first; second = w.second; ty = w.ty; operands = w.operands; results = w.results; number = g.0; asks_for = row_there predicate_of_min_max h.name g.0 asking_rows g.1; edits = same_Some _ _ g.2 }

  module _ (m n : Module) (x : ℕ) (q : Ruled ExpandMinMax m n x) (w : Extreme m n x q) (k : OnTwo ExpandMinMax m n x q w.first w.second w.ty) where
    extreme_new : GivesNew ExpandMinMax m n x q
    extreme_new =
        let value_types = Some (kind.Int 1) ∷ Some k.kind ∷ [] in
        let f = with_all (kind_in m.tree) m.next None value_types in
        let at = all_at (kind_in m.tree) m.next None value_types in
        let first : is_kind k.kind (f w.first) ≡ true = ap (is_kind k.kind) (all_agree (kind_in m.tree) m.next None value_types w.first k.first_below) ∙ k.first_is in
        let second : is_kind k.kind (f w.second) ≡ true = ap (is_kind k.kind) (all_agree (kind_in m.tree) m.next None value_types w.second k.second_below) ∙ k.second_is in
        let same : compares (kind.Int 1) (f w.first) (f w.second) ≡ true =
        ap (λ j. compares (kind.Int 1) j (f w.second)) (kind_test k.kind (f w.first) first) ∙ ap (λ b. b && true) second in
        record {
          made = comparison w.number w.first w.second ∷ choice w.ty (Result m.next 0) w.first w.second ∷ [];
          value_types = kind.Int 1 ∷ k.kind ∷ [];
          value = Result (m.next + 1) 0;
          edits = sym w.edits ∙ ap (λ y. Make q.insertion (comparison w.number w.first w.second) ∷ give_new q.insertion (m.next + 1) y (choice w.ty (Result m.next 0) w.first w.second)) q.id;
          are = (
            record {
              ty = i1;
              results = refl;
              of = refl;
              bare = refl;
              numeric = ap is_some by_compare;
              unset = refl;
              risen = refl;
              takes = ap (λ r. takes_its r (Some (kind.Int 1)) (head (comparison w.number w.first w.second)) (f w.first ∷ f w.second ∷ [])) by_compare ∙ same;
            },
            (
              record {
                ty = w.ty;
                results = refl;
                of = k.of;
                bare = refl;
                numeric = ap is_some by_select;
                unset = refl;
                risen = refl;
                takes =
                    ap (λ r. takes_its r (Some k.kind) (head (choice w.ty (Result m.next 0) w.first w.second)) (f (Result m.next 0) ∷ f w.first ∷ f w.second ∷ [])) by_select
                    ∙ and_from (is_width (width_of k.kind)) (is_kind (kind.Int 1) (f (Result m.next 0)) && (is_kind k.kind (f w.first) && is_kind k.kind (f w.second))) k.width
                    (and_from (is_kind (kind.Int 1) (f (Result m.next 0))) (is_kind k.kind (f w.first) && is_kind k.kind (f w.second)) (ap (is_kind (kind.Int 1)) (at.0 0)) (and_from (is_kind k.kind (f w.first)) (is_kind k.kind (f w.second)) first second));
              },
              tt,
            ),
          );
        }

    module _ (a : Assignment) (done : ℕ → Bool) (s : Site m a done x q.here) where
      abbrev by : Outcome
      by = compare_out w.asks_for.predicate (a w.first) (a w.second)

      abbrev out : Outcome
      out = select_out (compare_out w.asks_for.predicate (a w.first) (a w.second)) (a w.first) (a w.second)

      first_of : IsKind k.kind (a w.first)
      first_of y e = kind_by m a done x q.here s w.first k.kind y k.first_is e

      second_of : IsKind k.kind (a w.second)
      second_of y e = kind_by m a done x q.here s w.second k.kind y k.second_is e

      by_is : compare_outcome w.asks_for.predicate (a w.first) (a w.second) ≡ Some (compare_out w.asks_for.predicate (a w.first) (a w.second))
      by_is = compare_is w.asks_for.predicate k.kind (a w.first) (a w.second) first_of second_of

      by_of : IsKind (kind.Int 1) by
      by_of = compare_kind w.asks_for.predicate (a w.first) (a w.second) by by_is

      out_is : select_outcome by (a w.first) (a w.second) ≡ Some out
      out_is = select_is by (a w.first) (a w.second) by_of

      extreme_known : (z : Outcome) → Paired w.asks_for.operation (a w.first) (a w.second) z → refines z out ≡ true
      extreme_known z p =
          let v = width_of k.kind in
          let kind_is = first_of p.first p.first_is in
          let other = second_of p.second p.second_is in
          let first : a w.first ≡ Some (k.kind, p.first.1) = p.first_is ∙ (λ j. Some (kind_is j, p.first.1)) in
          let second : a w.second ≡ Some (k.kind, p.second.1) = p.second_is ∙ (λ j. Some (other j, p.second.1)) in
          let fits = value_bits m a done x q.here s w.first k.first (k.kind, p.first.1) first in
          let also = value_bits m a done x q.here s w.second k.second (k.kind, p.second.1) second in
          let t = truth (comparison_of v w.asks_for.predicate p.first.1 p.second.1) in
          let by_to : by ≡ Some (kind.Int 1, t) = ap (λ r. given r (λ z. z)) ((λ j. compare_outcome w.asks_for.predicate (first j) (second j)) ∙ compare_known w.asks_for.predicate k.kind p.first.1 p.second.1) in
          let out_to : out ≡ Some (k.kind, choice_of t p.first.1 p.second.1) = (λ j. select_out (by_to j) (first j) (second j)) ∙ chosen_of k.kind t p.first.1 p.second.1 in
          let value : p.number ≡ choice_of t p.first.1 p.second.1 =
          same_Some _ _ (sym p.value ∙ ap (λ k. value_of w.asks_for.operation (width_of k) p.first.1 p.second.1) kind_is
          ∙ w.asks_for.law v p.first.1 p.second.1 (some_bits k.kind p.first.1 fits) (below k.kind p.first.1 fits) (below k.kind p.second.1 also)) in
          same_refined z out (p.gives ∙ (λ j. Some (kind_is j, value j)) ∙ sym out_to)

      extreme_outcomes : GivesOutcomes ExpandMinMax m n x q extreme_new a done
      unfolding extreme_new
      extreme_outcomes =
          let zs = by ∷ out ∷ [] in
          let c = with_all a m.next None zs in
          let at = all_at a m.next None zs in
          let later = done_after m.next x done in
          let two = of_two_is m a done x q.here s w.first w.second w.operands in
          let first : c w.first ≡ a w.first = all_agree a m.next None zs w.first k.first_below in
          let second : c w.second ≡ a w.second = all_agree a m.next None zs w.second k.second_below in
          let first_there : done x ≡ true → is_there later w.first ≡ true = (λ d. still_there m.next x done w.first k.first_below (two.first_there d)) in
          let second_there : done x ≡ true → is_there later w.second ≡ true = (λ d. still_there m.next x done w.second k.second_below (two.second_there d)) in
          record {
            outcomes = zs;
            give = (
              record {
                of = by_of;
                bits = compare_bits w.asks_for.predicate (a w.first) (a w.second) by by_is;
                made = λ d.
                    makes_is (head (comparison w.number w.first w.second)) (c w.first ∷ c w.second ∷ []) how.Compare (kind.Int 1) by_compare refl
                    ∙ ap (λ p. given p (λ p. compare_outcome p (c w.first) (c w.second))) w.asks_for.asks_it
                    ∙ (λ j. compare_outcome w.asks_for.predicate (first j) (second j)) ∙ by_is;
                sure = λ d. ap (λ r. is_signed_quotient r && is_poison_by_ones (c w.first ∷ c w.second ∷ [])) by_compare;
                fed = λ d. and_from (is_there later w.first) (is_there later w.second && true) (first_there d) (and_from (is_there later w.second) true (second_there d) refl);
              },
              (
                record {
                  of = select_kind [] [] nothing k.kind by (a w.first) (a w.second) out first_of second_of out_is;
                  bits = select_bits by (a w.first) (a w.second) out (value_bits m a done x q.here s w.first k.first) (value_bits m a done x q.here s w.second k.second) out_is;
                  made = λ d.
                      makes_is (head (choice w.ty (Result m.next 0) w.first w.second)) (c (Result m.next 0) ∷ c w.first ∷ c w.second ∷ []) how.Select k.kind by_select k.of
                      ∙ (λ j. select_outcome (at.0 0 j) (first j) (second j)) ∙ out_is;
                  sure = λ d. ap (λ r. is_signed_quotient r && is_poison_by_ones (c (Result m.next 0) ∷ c w.first ∷ c w.second ∷ [])) by_select;
                  fed = λ d.
                      and_from (is_there later (Result m.next 0)) (is_there later w.first && (is_there later w.second && true)) (after_new m.next x done m.next (omega arith) ∙ d)
                      (and_from (is_there later w.first) (is_there later w.second && true) (first_there d) (and_from (is_there later w.second) true (second_there d) refl));
                },
                tt,
              ),
            );
            better = λ d.
                subst (λ o. refines (a (Result x 0)) o ≡ true) (sym (at.1.0 0))
                (pair_refined m a done x q.here s w.asks_for.operation w.first w.second out w.asks_for.by w.operands d
                (λ z i. elim (paired w.asks_for.operation (a w.first) (a w.second) z w.asks_for.total i) [ inl none ↦ poison_refined z out none | inr p ↦ extreme_known z p ]));
            there = λ d. after_new m.next x done (m.next + 1) (omega arith) ∙ d;
          }

  pub expand_min_max_ready : KeepsReady ExpandMinMax
  expand_min_max_ready m n x ready e =
      let q = ruled accepted ExpandMinMax m n x ready.wellformed ready.sorted e in
      let w = extreme_here m n x q in
      let k = on_two_values ExpandMinMax m n x q w.asks_for.operation w.first w.second w.ty refl ready w.asks_for.by w.operands w.results in
      new_ready ExpandMinMax m n x q (extreme_new m n x q w k) ready

  pub expand_min_max_computing : KeepsComputing ExpandMinMax
  expand_min_max_computing m n x a done ready computing e =
      let q = ruled accepted ExpandMinMax m n x ready.wellformed ready.sorted e in
      let w = extreme_here m n x q in
      let k = on_two_values ExpandMinMax m n x q w.asks_for.operation w.first w.second w.ty refl ready w.asks_for.by w.operands w.results in
      let s = site_of m a done x q.here ready.wellformed ready.kinded computing q.found (root_has q ready.wellformed ready.kinded refl) in
      new_improves ExpandMinMax m n x q (extreme_new m n x q w k) a done (extreme_outcomes m n x q w k a done s) ready refl (expand_min_max_ready m n x ready e).kinded computing
