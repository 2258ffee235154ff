-- The numbers of a pattern are computed from constants only, so they are the same if only the constants are known and
-- if all variables are.
use Rattle.std.proofs.Common.{◌≡◌, ℕ, ◌+◌, ◌-◌, ◌<◌, ◌≤◌, refl, ap, sym, ◌∙◌, subst, List, [], ◌∷◌, ◌++◌, length, map, true, ◌&&◌, Some, slice_get, ◌⊎◌, inl, inr, arith}
use Rattle.std.specs.Prelude.{nat_le, nat_lt}
use Rattle.std.specs.List.{list_all}
use Rattle.std.proofs.lemmas.Bool.{and_parts, or_cases, cases_eq, cases_lt}
use Rattle.std.proofs.lemmas.Bool.Decides.{nat_tests}
use Rattle.std.proofs.lemmas.List.{length_push}
use Rattle.ir_types.specs.declared.bits.BitsKind.{BitsKind}
use Rattle.user_patterns_check.specs.declared.step.Step.{Step}
use Rattle.user_patterns_check.specs.declared.step.Step.TheVariants as step
use Rattle.user_patterns_check.specs.Outcomes.{Outcome, compare_outcome, given, log_outcome, pair_outcome, required, resize_outcome, run, select_outcome, step_of}
use Rattle.patterns_laws.proofs.KnownFolds.{given_some, given_at}
use Rattle.user_patterns_data.specs.declared.pattern.ExtraConstant.{ExtraConstant}
use Rattle.user_patterns_data.specs.declared.pattern.ExtraConstant.TheVariants as extra
use Rattle.user_patterns_data.specs.declared.pattern.ConstantExpression.{ConstantExpression}
use Rattle.user_patterns_data.specs.declared.pattern.ConstantExpression.TheVariants as number
use Rattle.user_patterns_data.specs.Fitting.{extra_step, number_step}
use Rattle.user_patterns_data.specs.Shapes.{PatternModel}
use Rattle.user_patterns_data.specs.WellFormed.{extra_is_valid, is_constant, is_number, is_within, numbers_are_valid, number_is_valid}
use Rattle.patterns_refinement.proofs.Steps.{push_below, push_last, push_past}

pub within_parts : (low end i : ℕ) → is_within low end i ≡ true → (low ≤ i) × (i < end)
within_parts low end i e = let h = and_parts (nat_le low i) (nat_lt i end) e in (at_least h.0, below h.1)
  where
    at_least : nat_le low i ≡ true → low ≤ i
    at_least h = grind (arith, nat_tests)

    below : nat_lt i end ≡ true → i < end
    below h = grind (arith, nat_tests)

module _ (p : PatternModel) where
  -- the place of a constant, or a place after the variables
  abbrev pub IsFixed : ℕ → Type 0
  IsFixed k = (is_constant p k ≡ true) ⊎ (length p.values ≤ k)

  pub number_fixed : (end i : ℕ) → is_number p end i ≡ true → IsFixed i
  number_fixed end i e = elim (or_cases (is_constant p i) (is_within (length p.values) end i) e) [
    | inl h ↦ inl h
    | inr h ↦ inr (within_parts (length p.values) end i h).0
  ]

  -- two environments agree on such places
  pub record Alike (e f : List Outcome) : Type 0 where
    pub long : length e ≡ length f
    pub same : (k : ℕ) → IsFixed k → slice_get e k ≡ slice_get f k

  push_alike : (e f : List Outcome) (v : Outcome) → Alike e f → Alike (e ++ (v ∷ [])) (f ++ (v ∷ []))
  push_alike e f v a = record {
    long = length_push e v ∙ ap (λ n. n + 1) a.long ∙ sym (length_push f v);
    same = λ k h. elim (cases_lt k (length e)) [
      | inl l ↦ push_below e v k l ∙ a.same k h ∙ sym (push_below f v k (omega (arith, l, a.long)))
      | inr l ↦ elim (cases_eq k (length e)) [
        | inl i ↦ ap (λ n. slice_get (e ++ (v ∷ [])) n) i ∙ push_last e v ∙ sym (ap (λ n. slice_get (f ++ (v ∷ [])) n) (i ∙ a.long) ∙ push_last f v)
        | inr n ↦ push_past e v k (omega (arith, l, n)) ∙ sym (push_past f v k (omega (arith, l, n, a.long)))
      ]
    ];
  }

  -- all operands of a step are such places
  abbrev pub Speaks : Step → Type 0
  Speaks (step.Constant k v) = Unit {0}
  Speaks (step.Binary o i j) = IsFixed i × IsFixed j
  Speaks (step.Compare q i j) = IsFixed i × IsFixed j
  Speaks (step.Select c i j) = IsFixed c × IsFixed i × IsFixed j
  Speaks (step.IntegerCast c k i) = IsFixed i
  Speaks (step.Log2 i) = IsFixed i
  Speaks (step.Require i) = IsFixed i

  abbrev pub AllSpeak : List Step → Type 0
  AllSpeak [] = Unit {0}
  AllSpeak (s ∷ ss) = Speaks s × AllSpeak ss

  step_alike : (e f : List Outcome) → Alike e f → (s : Step) → Speaks s → step_of s e ≡ step_of s f
  step_alike e f a (step.Constant k v) s = refl
  step_alike e f a (step.Binary o i j) s = λ z. given (a.same i s.0 z) (λ x. given (a.same j s.1 z) (λ y. pair_outcome o x y))
  step_alike e f a (step.Compare q i j) s = λ z. given (a.same i s.0 z) (λ x. given (a.same j s.1 z) (λ y. compare_outcome q x y))
  step_alike e f a (step.Select c i j) s = λ z. given (a.same c s.0 z) (λ b. given (a.same i s.1 z) (λ x. given (a.same j s.2 z) (λ y. select_outcome b x y)))
  step_alike e f a (step.IntegerCast c k i) s = λ z. given (a.same i s z) (λ x. resize_outcome c k x)
  step_alike e f a (step.Log2 i) s = λ z. given (a.same i s z) log_outcome
  step_alike e f a (step.Require i) s = λ z. given (a.same i s z) required

  pub run_alike : (ss : List Step) (e f new : List Outcome) → AllSpeak ss → Alike e f → run ss e ≡ Some new → (other : List Outcome) × (run ss f ≡ Some other) × Alike new other
  run_alike [] e f new s a r = (f, refl, subst (λ d. Alike d f) (same e new r) a)
    where
      same : (e new : List Outcome) → Some e ≡ Some new → e ≡ new
      same e new r = cc
  run_alike (s ∷ ss) e f new h a r =
      let g = given_some (step_of s e) (λ v. run ss (e ++ (v ∷ []))) new r in
      let ih = run_alike ss (e ++ (g.0 ∷ [])) (f ++ (g.0 ∷ [])) new h.1 (push_alike e f g.0 a) g.2 in
      (ih.0, given_at (step_of s f) g.0 (λ v. run ss (f ++ (v ∷ []))) (Some ih.0) (sym (step_alike e f a s h.0) ∙ g.1) ih.1, ih.2)

  all_after : (ss rs : List Step) → AllSpeak ss → AllSpeak rs → AllSpeak (ss ++ rs)
  all_after [] rs s r = r
  all_after (x ∷ ss) rs s r = (s.0, all_after ss rs s.1 r)

  extras_speak : (ks : List BitsKind) (fs : List ExtraConstant) → list_all (extra_is_valid p) fs ≡ true → AllSpeak (map (extra_step ks) fs)
  extras_speak ks [] e = tt
  extras_speak ks (f ∷ fs) e = let h = and_parts (extra_is_valid p f) (list_all (extra_is_valid p) fs) e in (one f h.0, extras_speak ks fs h.1)
    where
      one : (f : ExtraConstant) → extra_is_valid p f ≡ true → Speaks (extra_step ks f)
      one (extra.Literal l) e = tt
      one (extra.SameAs i) e = (inl e, inl e)

  numbers_speak : (ks : List BitsKind) (end : ℕ) (ns : List ConstantExpression) → numbers_are_valid p end ns ≡ true → AllSpeak (map (number_step ks) ns)
  numbers_speak ks end [] e = tt
  numbers_speak ks end (n ∷ ns) e = let h = and_parts (number_is_valid p (end - length (n ∷ ns)) n) (numbers_are_valid p end ns) e in (one (end - length (n ∷ ns)) n h.0, numbers_speak ks end ns h.1)
    where
      two : (k i j : ℕ) → (is_number p k i && is_number p k j) ≡ true → IsFixed i × IsFixed j
      two k i j e = let h = and_parts (is_number p k i) (is_number p k j) e in (number_fixed k i h.0, number_fixed k j h.1)

      one : (k : ℕ) (n : ConstantExpression) → number_is_valid p k n ≡ true → Speaks (number_step ks n)
      one k (number.Literal l) e = tt
      one k (number.Width t) e = tt
      one k (number.Binary o i j) e = two k i j e
      one k (number.Compare q i j) e = two k i j e
      one k (number.Log2 i) e = number_fixed k i e
      one k (number.Require i) e = number_fixed k i e

  pub given_speak : (ks : List BitsKind) (end : ℕ) → list_all (extra_is_valid p) p.extra ≡ true → numbers_are_valid p end p.given ≡ true
      → AllSpeak (map (extra_step ks) p.extra ++ map (number_step ks) p.given)
  given_speak ks end f n = all_after (map (extra_step ks) p.extra) (map (number_step ks) p.given) (extras_speak ks p.extra f) (numbers_speak ks end p.given n)
