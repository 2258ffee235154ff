-- The rules that replace a result by a truth value keep modules ready and refine what they compute.
use Rattle.std.proofs.Common.{◌≡◌, ℕ, zero, suc, refl, ap, sym, ◌∙◌, subst, [], ◌∷◌, map, Bool, true, false, ◌&&◌, ◌||◌, eqb, eqb-true, Option, Some, None, slice_get, inl, inr}
use Rattle.std.specs.Prelude.{codes, option_map, if◌then◌else◌}
use Rattle.std.specs.List.{list_any}
use Rattle.std.proofs.lemmas.Bool.{and_parts, or_cases}
use Rattle.std.proofs.lemmas.Option.{none-some, same_Some}
use Rattle.ir_types.specs.declared.bits.BitsKind.TheVariants as kind
use Rattle.ir_types.specs.Bits.{is_bits, width_of}
use Rattle.ir_types.specs.Terms.{TypeTerm}
use Rattle.ir_tree.specs.declared.value.Value.{Value}
use Rattle.ir_tree.specs.declared.value.Value.TheVariants.{Result}
use Rattle.ir_tree.specs.Tree.{head}
use Rattle.ir_tree.specs.Uses.{same_value}
use Rattle.ir_tree.specs.Meaning.{Operation}
use Rattle.ir_tree.proofs.Replaced.{same_value_true}
use Rattle.ir_event.specs.Modules.{Module}
use Rattle.dialects_int.specs.declared.operations.Predicate.{Predicate}
use Rattle.dialects_int.specs.declared.operations.Predicate.TheVariants as asks
use Rattle.dialects_int.specs.declared.operations.Rule.TheVariants as how
use Rattle.dialects_int.specs.Arithmetic.{comparison_of, truth}
use Rattle.dialects_int.specs.Laws as law
use Rattle.dialects_int.specs.Folds.{Known, requested, kind_of, predicates, property_of, rule_of, rules, same_kind}
use Rattle.dialects_int.proofs.CastLaws.{below_zero, not_below_zero, with_itself}
use Rattle.user_patterns_check.specs.Outcomes.{Outcome, compare_outcome, given}
use Rattle.user_patterns_check.specs.Checks.{refines}
use Rattle.patterns_laws.specs.Keeps.{is_true_when_equal}
use Rattle.patterns_laws.specs.Words.{named}
use Rattle.patterns_laws.proofs.KnownFolds.{given_some}
use Rattle.patterns_base.specs.declared.rule.Rule.{Rule}
use Rattle.patterns_base.specs.declared.rule.Rule.TheVariants.{CompareItself, CompareZero}
use Rattle.patterns_base.specs.Looks.{is_number, known, predicate, two, when}
use Rattle.patterns_base.specs.Makes.{give_constant}
use Rattle.patterns_base.specs.Rules.{rule}
use Rattle.patterns_base.proofs.Facts.{when_some}
use Rattle.patterns_soundness.specs.Accepted.{AreAccepted}
use Rattle.patterns_soundness.proofs.Shapes.{two_is}
use Rattle.patterns_refinement.specs.Meaning.{Assignment, of_two}
use Rattle.patterns_refinement.specs.Better.{is_kinded, kind_in, takes}
use Rattle.patterns_refinement.specs.Keeping.{IsReady, KeepsComputing, KeepsReady}
use Rattle.patterns_refinement.proofs.Constants.{GivesNumber, number_improves, number_ready}
use Rattle.patterns_refinement.proofs.Dropping.{known_is, known_test, of_two_is}
use Rattle.patterns_refinement.proofs.Firsts.{poison_refined}
use Rattle.patterns_refinement.proofs.Forms.{named_is}
use Rattle.patterns_refinement.proofs.MadeOf.{compares_kind}
use Rattle.patterns_refinement.proofs.Monotone.{same_refined}
use Rattle.patterns_refinement.proofs.Ruled.{may_lack, Ruled, Site, gives_refined, of_rule, rule_kinds, ruled, site_of, root_has}
use Rattle.patterns_refinement.proofs.Trees.{each_found}

pub by_compare : rule_of (codes "arith.cmpi") ≡ Some how.Compare
unfolding rule_of rules
by_compare = refl

-- ---- predicates by their numbers
pub requested_number : (o : Option (TypeTerm × ℕ)) (n : ℕ) (p : Predicate) → option_map (λ (i : TypeTerm × ℕ). i.1) o ≡ Some n → requested o ≡ Some p → slice_get predicates n ≡ Some p
requested_number None n p e f = absurd (none-some n e)
requested_number (Some i) n p e f = ap (slice_get predicates) (sym (same_Some _ _ e)) ∙ f

same_predicate : (q p : Predicate) → Some q ≡ Some p → truth (law.holds_of_itself p) ≡ truth (law.holds_of_itself q)
same_predicate q p e = ap (λ p. truth (law.holds_of_itself p)) (sym (same_Some _ _ e))

itself_number : (n : ℕ) (p : Predicate) → slice_get predicates n ≡ Some p → truth (law.holds_of_itself p) ≡ is_true_when_equal n
unfolding predicates
itself_number zero p e = same_predicate asks.Equal p e
itself_number (suc zero) p e = same_predicate asks.NotEqual p e
itself_number (suc (suc zero)) p e = same_predicate asks.SignedLess p e
itself_number (suc (suc (suc zero))) p e = same_predicate asks.SignedLessOrEqual p e
itself_number (suc (suc (suc (suc zero)))) p e = same_predicate asks.SignedGreater p e
itself_number (suc (suc (suc (suc (suc zero))))) p e = same_predicate asks.SignedGreaterOrEqual p e
itself_number (suc (suc (suc (suc (suc (suc zero)))))) p e = same_predicate asks.UnsignedLess p e
itself_number (suc (suc (suc (suc (suc (suc (suc zero))))))) p e = same_predicate asks.UnsignedLessOrEqual p e
itself_number (suc (suc (suc (suc (suc (suc (suc (suc zero)))))))) p e = same_predicate asks.UnsignedGreater p e
itself_number (suc (suc (suc (suc (suc (suc (suc (suc (suc zero))))))))) p e = same_predicate asks.UnsignedGreaterOrEqual p e
itself_number (suc (suc (suc (suc (suc (suc (suc (suc (suc (suc n)))))))))) p e = absurd (none-some p e)

truth_bits : (b : Bool) → is_bits (kind.Int 1) (truth b) ≡ true
truth_bits true = refl
truth_bits false = refl

-- ---- the outcome of a comparison
compared : (p : Predicate) (b : ℕ) (u v z : Outcome) → ((x y : Known) → u ≡ Some x → v ≡ Some y → truth (comparison_of (width_of x.0) p x.1 y.1) ≡ b) → compare_outcome p u v ≡ Some z → refines z (Some (kind.Int 1, b)) ≡ true
compared p b None v z f m = poison_refined z (Some (kind.Int 1, b)) (sym (same_Some _ _ m))
compared p b (Some x) None z f m = poison_refined z (Some (kind.Int 1, b)) (sym (same_Some _ _ m))
compared p b (Some x) (Some y) z f m = go (same_kind x.0 y.0) m
  where
    go : (c : Bool) → (if c then Some (Some (kind.Int 1, truth (comparison_of (width_of x.0) p x.1 y.1))) else None) ≡ Some z → refines z (Some (kind.Int 1, b)) ≡ true
    go true m = same_refined z (Some (kind.Int 1, b)) (sym (same_Some _ _ m) ∙ ap (λ t. Some (kind.Int 1, t)) (f x y refl refl))
    go false m = absurd (none-some z m)

module _ (m : Module) (a : Assignment) (done : ℕ → Bool) (x : ℕ) (o : Operation) (s : Site m a done x o) where
  comparison_refined : (n b : ℕ) (u v : Value) → rule_of (head o).name ≡ Some how.Compare → predicate (head o) ≡ Some n → (head o).operands ≡ u ∷ v ∷ [] → done x ≡ true
      → ((p : Predicate) (y w : Known) → slice_get predicates n ≡ Some p → a u ≡ Some y → a v ≡ Some w → truth (comparison_of (width_of y.0) p y.1 w.1) ≡ b)
      → refines (a (Result x 0)) (Some (kind.Int 1, b)) ≡ true
  comparison_refined n b u v e number ops d f =
      gives_refined m a done x o s how.Compare (Some (kind.Int 1, b)) e (of_rule m a done x o s how.Compare e) d
      (λ z i.
      let g = given_some (requested (property_of (codes "predicate") (head o).properties)) (λ p. of_two (compare_outcome p) (map a (head o).operands)) z i in
      compared g.0 b (a u) (a v) z (λ y w j l. f g.0 y w (requested_number (property_of (codes "predicate") (head o).properties) n g.0 number g.1) j l)
      (subst (λ vs. of_two (compare_outcome g.0) (map a vs) ≡ Some z) ops g.2))

-- ---- rules on comparisons that give a truth value
module _ (accepted : AreAccepted) where
  record OfComparison (r : Rule) (m n : Module) (x : ℕ) (q : Ruled r m n x) (what : ℕ → Value → Value → Bool) (truth_of : ℕ → ℕ) : Type 0 where
    pub first : Value
    pub second : Value
    pub ty : TypeTerm
    pub number : ℕ
    pub requested_for : predicate (head q.here) ≡ Some number
    pub passed : what number first second ≡ true
    pub name : rule_of (head q.here).name ≡ Some how.Compare
    pub operands : (head q.here).operands ≡ first ∷ second ∷ []
    pub results : (head q.here).results ≡ ty ∷ []
    pub edits : give_constant q.insertion m.next (head q.here).id ty (truth_of number) ≡ q.edits

  comparison : (r : Rule) (m n : Module) (x : ℕ) (q : Ruled r m n x) (what : ℕ → Value → Value → Bool) (truth_of : ℕ → ℕ)
      → given (two (head q.here)) (λ p. when (named (codes "arith.cmpi") p.name) (given (predicate (head q.here)) (λ n. when (what n p.first p.second) (Some (give_constant q.insertion m.next (head q.here).id p.ty (truth_of n)))))) ≡ Some q.edits
      → OfComparison r m n x q what truth_of
  comparison r m n x q what truth_of e =
      let w = two_is (head q.here) (λ p. when (named (codes "arith.cmpi") p.name) (given (predicate (head q.here)) (λ n. when (what n p.first p.second) (Some (give_constant q.insertion m.next (head q.here).id p.ty (truth_of n)))))) q.edits e in
      let g = when_some (named (codes "arith.cmpi") (head q.here).name) (given (predicate (head q.here)) (λ n. when (what n w.first w.second) (Some (give_constant q.insertion m.next (head q.here).id w.ty (truth_of n))))) q.edits w.makes in
      let k = given_some (predicate (head q.here)) (λ n. when (what n w.first w.second) (Some (give_constant q.insertion m.next (head q.here).id w.ty (truth_of n)))) q.edits g.1 in
      let h = when_some (what k.0 w.first w.second) (Some (give_constant q.insertion m.next (head q.here).id w.ty (truth_of k.0))) q.edits k.2 in
      record {
        first = w.first;
        second = w.second;
        ty = w.ty;
        number = k.0;
        requested_for = k.1;
        passed = h.0;
        name = ap rule_of (named_is (codes "arith.cmpi") (head q.here).name g.0) ∙ by_compare;
        operands = w.operands;
        results = w.results;
        edits = same_Some _ _ h.1;
      }

  truth_number : (r : Rule) (m n : Module) (x : ℕ) (q : Ruled r m n x) (what : ℕ → Value → Value → Bool) (truth_of : ℕ → ℕ) (c : OfComparison r m n x q what truth_of) → may_lack r ≡ false → IsReady m → is_bits (kind.Int 1) (truth_of c.number) ≡ true → GivesNumber r m n x q
  truth_number r m n x q what truth_of c stays ready bits =
      let k = rule_kinds m.tree (head q.here) (each_found (λ h. is_kinded m.tree h ≡ true) x m.tree ready.kinded q.here q.found).0 (root_has q ready.wellformed ready.kinded stays) how.Compare c.name in
      let one = compares_kind k.kind (kind_in m.tree c.first) (kind_in m.tree c.second) (subst (λ vs. takes how.Compare (head q.here) k.kind (map (kind_in m.tree) vs) ≡ true) c.operands k.operands) in
      record { ty = c.ty; bits = truth_of c.number; kind = kind.Int 1; of = sym (ap (λ tys. given (slice_get tys 0) kind_of) c.results) ∙ k.is ∙ ap (λ k. Some k) (sym one); fits = bits; width = refl; edits = c.edits }

  -- a comparison of a value with itself
  itself_what : ℕ → Value → Value → Bool
  itself_what n u v = same_value u v

  itself_bits : (n : ℕ) → is_bits (kind.Int 1) (is_true_when_equal n) ≡ true
  itself_bits n = go (list_any (eqb n) (0 ∷ 3 ∷ 5 ∷ 7 ∷ 9 ∷ []))
    where
      go : (b : Bool) → is_bits (kind.Int 1) (if b then 1 else 0) ≡ true
      go true = refl
      go false = refl

  compares_itself : (m n : Module) (x : ℕ) (q : Ruled CompareItself m n x) → OfComparison CompareItself m n x q (λ n u v. same_value u v) is_true_when_equal
  unfolding rule
  compares_itself m n x q = comparison CompareItself m n x q (λ n u v. same_value u v) is_true_when_equal q.made

  pub compare_itself_ready : KeepsReady CompareItself
  compare_itself_ready m n x ready e =
      let q = ruled accepted CompareItself m n x ready.wellformed ready.sorted e in
      let c = compares_itself m n x q in
      number_ready CompareItself m n x q (truth_number CompareItself m n x q (λ n u v. same_value u v) is_true_when_equal c refl ready (itself_bits c.number)) ready

  pub compare_itself_computing : KeepsComputing CompareItself
  unfolding truth_number
  compare_itself_computing m n x a done ready computing e =
      let q = ruled accepted CompareItself m n x ready.wellformed ready.sorted e in
      let c = compares_itself m n x q in
      let g = truth_number CompareItself m n x q (λ n u v. same_value u v) is_true_when_equal c refl ready (itself_bits c.number) in
      let s = site_of m a done x q.here ready.wellformed ready.kinded computing q.found (root_has q ready.wellformed ready.kinded refl) in
      number_improves CompareItself m n x q g a done
      (λ d. comparison_refined m a done x q.here s c.number (is_true_when_equal c.number) c.first c.second c.name c.requested_for c.operands d
      (λ p y w i j l.
      let both : y ≡ w = same_Some _ _ (sym j ∙ ap a (same_value_true c.first c.second c.passed) ∙ l) in
      ap (λ (w : Known). truth (comparison_of (width_of y.0) p y.1 w.1)) (sym both) ∙ ap truth (with_itself p (width_of y.0) y.1) ∙ itself_number c.number p i))
      ready refl (compare_itself_ready m n x ready e).kinded computing

  -- an unsigned comparison with 0
  zero_truth : ℕ → ℕ
  zero_truth n = if eqb n 9 then 1 else 0

  zero_bits : (n : ℕ) → is_bits (kind.Int 1) (if eqb n 9 then 1 else 0) ≡ true
  zero_bits n = go (eqb n 9)
    where
      go : (b : Bool) → is_bits (kind.Int 1) (if b then 1 else 0) ≡ true
      go true = refl
      go false = refl

  below_number : (p : Predicate) (w y n : ℕ) → (eqb n 6 || eqb n 9) ≡ true → slice_get predicates n ≡ Some p → truth (comparison_of w p y 0) ≡ (if eqb n 9 then 1 else 0)
  unfolding predicates
  below_number p w y n e i = elim (or_cases (eqb n 6) (eqb n 9) e) [
    | inl h ↦
        let six = eqb-true n 6 h in
        let is : asks.UnsignedLess ≡ p = same_Some _ _ (ap (slice_get predicates) (sym six) ∙ i) in
        ap (λ p. truth (comparison_of w p y 0)) (sym is) ∙ ap truth (below_zero w y) ∙ ap (λ n. if eqb n 9 then 1 else 0) (sym six)
    | inr h ↦
        let nine = eqb-true n 9 h in
        let is : asks.UnsignedGreaterOrEqual ≡ p = same_Some _ _ (ap (slice_get predicates) (sym nine) ∙ i) in
        ap (λ p. truth (comparison_of w p y 0)) (sym is) ∙ ap truth (not_below_zero w y) ∙ ap (λ n. if eqb n 9 then 1 else 0) (sym nine)
  ]

  compares_zero : (m n : Module) (x : ℕ) (q : Ruled CompareZero m n x) → OfComparison CompareZero m n x q (λ n u v. is_number m.tree 0 v && (eqb n 6 || eqb n 9)) (λ n. if eqb n 9 then 1 else 0)
  unfolding rule
  compares_zero m n x q = comparison CompareZero m n x q (λ n u v. is_number m.tree 0 v && (eqb n 6 || eqb n 9)) (λ n. if eqb n 9 then 1 else 0) q.made

  pub compare_zero_ready : KeepsReady CompareZero
  compare_zero_ready m n x ready e =
      let q = ruled accepted CompareZero m n x ready.wellformed ready.sorted e in
      let c = compares_zero m n x q in
      number_ready CompareZero m n x q (truth_number CompareZero m n x q (λ n u v. is_number m.tree 0 v && (eqb n 6 || eqb n 9)) (λ n. if eqb n 9 then 1 else 0) c refl ready (zero_bits c.number)) ready

  pub compare_zero_computing : KeepsComputing CompareZero
  unfolding truth_number
  compare_zero_computing m n x a done ready computing e =
      let q = ruled accepted CompareZero m n x ready.wellformed ready.sorted e in
      let c = compares_zero m n x q in
      let g = truth_number CompareZero m n x q (λ n u v. is_number m.tree 0 v && (eqb n 6 || eqb n 9)) (λ n. if eqb n 9 then 1 else 0) c refl ready (zero_bits c.number) in
      let s = site_of m a done x q.here ready.wellformed ready.kinded computing q.found (root_has q ready.wellformed ready.kinded refl) in
      let two = of_two_is m a done x q.here s c.first c.second c.operands in
      let tests = and_parts (is_number m.tree 0 c.second) (eqb c.number 6 || eqb c.number 9) c.passed in
      let number = known_test (λ k. eqb k.1 0) (known m.tree c.second) tests.0 in
      number_improves CompareZero m n x q g a done
      (λ d. comparison_refined m a done x q.here s c.number (if eqb c.number 9 then 1 else 0) c.first c.second c.name c.requested_for c.operands d
      (λ p y w i j l.
      let zero_is : w.1 ≡ 0 = ap (λ (w : Known). w.1) (sym (known_is m a done ready.wellformed ready.kinded computing c.second number.0 w two.second (two.second_there d) number.1 l)) ∙ eqb-true number.0.1 0 number.2 in
      ap (λ b. truth (comparison_of (width_of y.0) p y.1 b)) zero_is ∙ below_number p (width_of y.0) y.1 c.number tests.1 i))
      ready refl (compare_zero_ready m n x ready e).kinded computing
