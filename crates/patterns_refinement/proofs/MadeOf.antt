-- The outcome of an operation has the kind of its result, and is in range.
use Rattle.std.proofs.Common.{◌≡◌, refl, ap, sym, ◌∙◌, subst, List, [], ◌∷◌, true, true≢false, ◌&&◌, Option, Some, None}
use Rattle.std.specs.Prelude.{codes}
use Rattle.std.proofs.lemmas.Bool.{and_parts}
use Rattle.std.proofs.lemmas.Option.{none-some, same_Some}
use Rattle.ir_types.specs.declared.bits.BitsKind.{BitsKind}
use Rattle.ir_types.specs.declared.bits.BitsKind.TheVariants as kind
use Rattle.ir_types.specs.Bits.{is_bits, width_of}
use Rattle.ir_types.specs.Reasons.{is_width}
use Rattle.dialects_int.specs.declared.operations.Arithmetic.{Arithmetic}
use Rattle.dialects_int.specs.declared.operations.Cast.{Cast}
use Rattle.dialects_int.specs.declared.operations.Predicate.{Predicate}
use Rattle.dialects_int.specs.declared.operations.Rule.{Rule}
use Rattle.dialects_int.specs.declared.operations.Rule.TheVariants as rule
use Rattle.dialects_int.specs.Folds.{Known, requested, fold_of, property_of, rule_of, same_kind}
use Rattle.user_patterns_check.specs.Outcomes.{Outcome, compare_outcome, given, resize_outcome}
use Rattle.user_patterns_check.proofs.Keeping.{same_kinds}
use Rattle.patterns_laws.proofs.KnownFolds.{given_some}
use Rattle.user_patterns_data.specs.Matching.{Header}
use Rattle.patterns_refinement.specs.Meaning.{makes, makes_by, of_one, of_two, result_kind}
use Rattle.patterns_refinement.specs.Better.{AreOf, are_its_bits, compares, is_kind, takes, takes_its}
use Rattle.patterns_refinement.proofs.Forms.{fold_kind}
use Rattle.patterns_refinement.proofs.OfKinds.{IsKind, OfKinds, compare_kind, pair_kind, resize_kind, select_kind}
use Rattle.patterns_refinement.proofs.OfBits.{IsOfBits, compare_bits, pair_bits, resize_bits, select_bits}
use Rattle.patterns_refinement.proofs.Monotone.{kind_of_operand}

-- known outcomes are in range of the operands' kinds
abbrev pub HaveBits : List (Option BitsKind) → List Outcome → Type 0
HaveBits [] ys = Unit {0}
HaveBits (j ∷ js) [] = Unit {0}
HaveBits (j ∷ js) (y ∷ ys) = ((k : BitsKind) → j ≡ Some k → IsOfBits y) × HaveBits js ys

bits_of_operand : (k : BitsKind) (j : Option BitsKind) (y : Outcome) → is_kind k j ≡ true → ((l : BitsKind) → j ≡ Some l → IsOfBits y) → IsOfBits y
bits_of_operand k None y e h = absurd (true≢false (sym e))
bits_of_operand k (Some j) y e h = h j refl

-- an outcome has a kind, and is in range
abbrev pub IsMadeOf : BitsKind → Outcome → Type 0
IsMadeOf k o = IsKind k o × IsOfBits o

pub compares_kind : (k : BitsKind) (i j : Option BitsKind) → compares k i j ≡ true → kind.Int 1 ≡ k
compares_kind k None j e = absurd (true≢false (sym e))
compares_kind k (Some l) j e = same_kinds (kind.Int 1) k (and_parts (is_kind l j) (same_kind (kind.Int 1) k) e).1

nothing : OfKinds [] []
nothing = record { long = refl; are = λ i x e. absurd (none-some (Some x) e) }

module _ (h : Header) (k : BitsKind) where
  abbrev Result : Rule → Type 0
  Result r = (js : List (Option BitsKind)) (ys : List Outcome) (x : Outcome) → takes r h k js ≡ true → AreOf js ys → HaveBits js ys → makes_by r h k ys ≡ Some x → IsMadeOf k x

  by_constant : result_kind h ≡ Some k → Result rule.Constant
  by_constant is js ys x t of b m = go (fold_of h.name h.properties [] h.results) refl t m
    where
      go : (o : Option Known) → fold_of h.name h.properties [] h.results ≡ o → are_its_bits o ≡ true → given o (λ x. Some (Some x)) ≡ Some x → IsMadeOf k x
      go None e t m = absurd (none-some x m)
      go (Some y) e t m =
          let same : k ≡ y.0 = same_Some _ _ (sym is ∙ fold_kind h.name h.properties [] h.results y e) in (
            (λ z g. let s : y ≡ z = same_Some _ _ (same_Some _ _ m ∙ g) in ap (λ (w : Known). w.0) (sym s) ∙ sym same),
            (λ z g. let s : y ≡ z = same_Some _ _ (same_Some _ _ m ∙ g) in subst (λ (w : Known). is_bits w.0 w.1 ≡ true) s t),
          )

  by_pair : (o : Arithmetic) → Result (rule.Binary o)
  by_pair o [] ys x t of b m = absurd (true≢false (sym t))
  by_pair o (i ∷ []) ys x t of b m = absurd (true≢false (sym t))
  by_pair o (i ∷ j ∷ l ∷ js) ys x t of b m = absurd (true≢false (sym t))
  by_pair o (i ∷ j ∷ []) [] x t of b m = absurd (none-some x m)
  by_pair o (i ∷ j ∷ []) (u ∷ []) x t of b m = absurd (none-some x m)
  by_pair o (i ∷ j ∷ []) (u ∷ v ∷ w ∷ ys) x t of b m = absurd (none-some x m)
  by_pair o (i ∷ j ∷ []) (u ∷ v ∷ []) x t of b m =
      let g = and_parts (is_kind k i) (is_kind k j) t in
      (pair_kind o k u v x (kind_of_operand k i u g.0 of.0) m, pair_bits o u v x (bits_of_operand k i u g.0 b.0) (bits_of_operand k j v g.1 b.1.0) m)

  by_compare : Result rule.Compare
  by_compare [] ys x t of b m = absurd (true≢false (sym t))
  by_compare (i ∷ []) ys x t of b m = absurd (true≢false (sym t))
  by_compare (i ∷ j ∷ l ∷ js) ys x t of b m = absurd (true≢false (sym t))
  by_compare (i ∷ j ∷ []) ys x t of b m =
      let a = given_some (requested (property_of (codes "predicate") h.properties)) (λ p. of_two (compare_outcome p) ys) x m in
      go a.0 ys a.2
    where
      go : (p : Predicate) (ys : List Outcome) → of_two (compare_outcome p) ys ≡ Some x → IsMadeOf k x
      go p [] m = absurd (none-some x m)
      go p (u ∷ []) m = absurd (none-some x m)
      go p (u ∷ v ∷ w ∷ ys) m = absurd (none-some x m)
      go p (u ∷ v ∷ []) m = (subst (λ k. IsKind k x) (compares_kind k i j t) (compare_kind p u v x m), compare_bits p u v x m)

  by_select : Result rule.Select
  by_select [] ys x t of b m = absurd (true≢false (sym t))
  by_select (i ∷ []) ys x t of b m = absurd (true≢false (sym t))
  by_select (i ∷ j ∷ []) ys x t of b m = absurd (true≢false (sym t))
  by_select (i ∷ j ∷ l ∷ n ∷ js) ys x t of b m = absurd (true≢false (sym t))
  by_select (i ∷ j ∷ l ∷ []) [] x t of b m = absurd (none-some x m)
  by_select (i ∷ j ∷ l ∷ []) (d ∷ []) x t of b m = absurd (none-some x m)
  by_select (i ∷ j ∷ l ∷ []) (d ∷ u ∷ []) x t of b m = absurd (none-some x m)
  by_select (i ∷ j ∷ l ∷ []) (d ∷ u ∷ v ∷ w ∷ ys) x t of b m = absurd (none-some x m)
  by_select (i ∷ j ∷ l ∷ []) (d ∷ u ∷ v ∷ []) x t of b m =
      let g = and_parts (is_kind (kind.Int 1) i) (is_kind k j && is_kind k l) t in
      let f = and_parts (is_kind k j) (is_kind k l) g.1 in (
        select_kind [] [] nothing k d u v x (kind_of_operand k j u f.0 of.1.0) (kind_of_operand k l v f.1 of.1.1.0) m,
        select_bits d u v x (bits_of_operand k j u f.0 b.1.0) (bits_of_operand k l v f.1 b.1.1.0) m,
      )

  by_resize : (c : Cast) (ys : List Outcome) (x : Outcome) → of_one (resize_outcome c k) ys ≡ Some x → IsMadeOf k x
  by_resize c [] x m = absurd (none-some x m)
  by_resize c (u ∷ v ∷ ys) x m = absurd (none-some x m)
  by_resize c (u ∷ []) x m = (resize_kind [] [] nothing c k u x m, resize_bits c k u x m)

  by_rule : result_kind h ≡ Some k → (r : Rule) → Result r
  by_rule is rule.Constant js ys x t of b m = by_constant is js ys x t of b m
  by_rule is (rule.Binary o) js ys x t of b m = by_pair o js ys x t of b m
  by_rule is rule.Compare js ys x t of b m = by_compare js ys x t of b m
  by_rule is rule.Select js ys x t of b m = by_select js ys x t of b m
  by_rule is (rule.IntegerCast c) js ys x t of b m = by_resize c ys x m
  by_rule is (rule.IndexCast c) js ys x t of b m = by_resize c ys x m

pub record MadeOfKind (h : Header) (x : Outcome) : Type 0 where
  pub kind : BitsKind
  pub is : result_kind h ≡ Some kind
  pub of : IsKind kind x
  pub bits : IsOfBits x

pub made_of : (h : Header) (js : List (Option BitsKind)) (ys : List Outcome) (x : Outcome) → takes_its (rule_of h.name) (result_kind h) h js ≡ true → AreOf js ys → HaveBits js ys → makes h ys ≡ Some x → MadeOfKind h x
made_of h js ys x t of b m =
    let r = given_some (rule_of h.name) (λ r. given (result_kind h) (λ k. makes_by r h k ys)) x m in
    let k = given_some (result_kind h) (λ k. makes_by r.0 h k ys) x r.2 in
    let g = by_rule h k.0 k.1 r.0 js ys x (and_parts (is_width (width_of k.0)) (takes r.0 h k.0 js) (subst (λ q. takes_its (Some r.0) q h js ≡ true) k.1 (subst (λ q. takes_its q (result_kind h) h js ≡ true) r.1 t))).1 of b k.2 in
    record { kind = k.0; is = k.1; of = g.0; bits = g.1 }
