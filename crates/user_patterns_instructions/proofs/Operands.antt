-- Operands that represent outcomes, and the translation of operations on them.
use Rattle.std.proofs.Common.{◌≡◌, ◌∙◌, ℕ, zero, suc, ◌%◌, ◌^◌, ◌<◌, ◌≤◌, ◌==◌, List, [], ◌∷◌, map, Bool, true, false, true≢false, ◌||◌, ◌&&◌, not, nat_lt, if◌then◌else◌, Option, Some, None, ◌⊎◌, inl, inr, bit_and, refl, sym, ap, subst, arith}
use Rattle.std.specs.Int.Bits.{and_self}
use Rattle.std.proofs.lemmas.Bool.{and_parts, eqb-true}
use Rattle.std.proofs.lemmas.Bool.Decides.{nat_tests}
use Rattle.ir_types.specs.declared.bits.BitsKind.{BitsKind}
use Rattle.ir_types.specs.declared.bits.BitsKind.TheVariants as kind
use Rattle.ir_types.specs.Bits.{width_of}
use Rattle.ir_types.specs.Reasons.{is_width}
use Rattle.dialects_int.specs.declared.operations.Arithmetic.{Arithmetic}
use Rattle.dialects_int.specs.declared.operations.Arithmetic.TheVariants as op
use Rattle.dialects_int.specs.declared.operations.Predicate.{Predicate}
use Rattle.dialects_int.specs.declared.operations.Cast.{Cast}
use Rattle.dialects_int.specs.declared.operations.Cast.TheVariants as cast
use Rattle.dialects_int.specs.Arithmetic.{cast_of, choice_of, comparison_of, sign_extended, truncated, truth, value_of, zero_extended}
use Rattle.dialects_int.proofs.KnownOperands.{same_itself}
use Rattle.dialects_int.proofs.PairLaws.{one_ignored}
use Rattle.ir_types.proofs.Widths.{literal_low}
use Rattle.user_patterns_check.specs.Outcomes.{Outcome, checked, compare_outcome, divides, given, is_signed_remainder, is_some_number, no_value, pair_outcome, resize_any, resize_outcome, select_outcome}
use Rattle.ir_types.specs.Readings.{literal_number, wrapped}
use Rattle.user_patterns_data.specs.declared.pattern.Literal.{Literal}
use Rattle.user_patterns_data.specs.Fitting.{kind_at}
use Rattle.width_claims.specs.declared.form.Form.TheVariants as form
use Rattle.width_claims.specs.declared.form.Expr.{Expr}
use Rattle.width_claims.specs.declared.width.Narrower.{Narrower}
use Rattle.width_claims.specs.PatternOpValues.{at}
use Rattle.width_claims.specs.Right.{AreNarrower, IsBelow}
use Rattle.user_patterns_instructions.specs.declared.operand.Poison.{Poison}
use Rattle.user_patterns_instructions.specs.declared.operand.Poison.TheVariants as poison
use Rattle.user_patterns_instructions.specs.declared.operand.Operand.{Operand}
use Rattle.user_patterns_instructions.specs.Expressions.{Flagged, Made, Result, cast_value, chosen_poison, compare_result, compare_value, divide_by, divide_result, either, first_result, first_there, is_narrower, is_number, is_shift, left_literal, literal_times, operand, operands_value, other_result, pair_result, pair_value, push_expr, resize_result, result, right_literal, select_made, select_poison, select_result, shift, shift_by, shift_result, shifted, strict, too_far, with_literal}
use Rattle.user_patterns_instructions.proofs.PatternOps.{Base, Grown, Is, Makes, base_on, grown_next, makes_next, makes_same, same}
use Rattle.user_patterns_instructions.proofs.Ranges.{value_below}
use Rattle.user_patterns_instructions.proofs.Shifting.{Shifts, ShiftsSome, far_is, shifts}
use Rattle.user_patterns_instructions.proofs.Forms.{PairMakes, compare_makes, pair_makes, put_cut, put_equal, put_number, put_resize, put_select}
use Rattle.user_patterns_instructions.proofs.Multiples.{LiteralMakes, TurnedMakes, times_value, with_makes}
use Rattle.user_patterns_instructions.proofs.Flags.{Flags, PoisonIs, also_is, chosen_is, either_is, or_false, poison_kept}

-- poison, or a number of a kind
abbrev pub outcome_by : BitsKind → ℕ → Bool → Outcome
outcome_by k v b = if b then None else Some (k, v)

pub width_is : (js : List BitsKind) (t : ℕ) → at (map width_of js) t ≡ width_of (kind_at js t)
width_is [] t = refl
width_is (j ∷ js) zero = refl
width_is (j ∷ js) (suc t) = width_is js t

-- a literal is its number, and isn't poison
abbrev pub WrittenIs : Option Literal → ℕ → ℕ → Bool → Type 0
WrittenIs None w n b = Unit {0}
WrittenIs (Some l) w n b = (n ≡ wrapped w (literal_number l.negative l.magnitude)) × (l.magnitude < 2 ^ w) × (b ≡ false)

-- ---- outcomes of operations

pub again : (x : Outcome) → pair_outcome op.And x x ≡ Some x
again None = refl
again (Some x) = ap (λ b. if b then Some (Some (x.0, bit_and x.1 x.1)) else None) (same_itself x.0) ∙ ap (λ n. Some (Some (x.0, n))) (and_self x.1)

undivided : (o : Arithmetic) (k : BitsKind) (u v r : ℕ) → divides o ≡ false → checked o k v (value_of o (width_of k) u v) ≡ Some (Some (k, r)) → (b c : Bool)
    → pair_outcome o (outcome_by k u b) (outcome_by k v c) ≡ Some (outcome_by k r (b || c))
undivided o k u v r t e true c = ap (λ d. if d && not (is_some_number (outcome_by k v c)) then None else Some None) t
undivided o k u v r t e false true = ap (λ d. if d then None else Some None) t
undivided o k u v r t e false false = ap (λ d. if d then checked o k v (value_of o (width_of k) u v) else None) (same_itself k) ∙ e

-- a division by a known number that isn't 0
divided : (o : Arithmetic) (k : BitsKind) (u v r : ℕ) → (v == 0) ≡ false → checked o k v (value_of o (width_of k) u v) ≡ Some (Some (k, r)) → (b : Bool) → pair_outcome o (outcome_by k u b) (Some (k, v)) ≡ Some (outcome_by k r b)
divided o k u v r t e true = ap (λ d. if divides o && not (not d) then None else Some None) t ∙ ap (λ d. if d then None else Some None) (and_false (divides o))
  where
    and_false : (d : Bool) → (d && false) ≡ false
    and_false true = refl
    and_false false = refl
divided o k u v r t e false = ap (λ d. if d then checked o k v (value_of o (width_of k) u v) else None) (same_itself k) ∙ e

pair_of : (o : Arithmetic) (k : BitsKind) (u v r : ℕ) (b c : Bool) → (divides o ≡ false) ⊎ (((v == 0) ≡ false) × (c ≡ false)) → checked o k v (value_of o (width_of k) u v) ≡ Some (Some (k, r))
    → pair_outcome o (outcome_by k u b) (outcome_by k v c) ≡ Some (outcome_by k r (b || c))
pair_of o k u v r b c (inl t) e = undivided o k u v r t e b c
pair_of o k u v r b c (inr t) e =
    ap (λ d. pair_outcome o (outcome_by k u b) (outcome_by k v d)) t.1 ∙ divided o k u v r t.0 e b ∙ ap (λ d. Some (outcome_by k r d)) (sym (ap (λ d. b || d) t.1 ∙ or_false b))

-- a shift, which is poison if the amount is the width or more
shift_of : (o : Arithmetic) (k : BitsKind) (u v r : ℕ) (b : Bool) → divides o ≡ false → is_signed_remainder o ≡ false → value_of o (width_of k) u v ≡ (if nat_lt v (width_of k) then Some r else None)
    → pair_outcome o (outcome_by k u b) (Some (k, v)) ≡ Some (outcome_by k r (b || not (nat_lt v (width_of k))))
shift_of o k u v r true t m e = ap (λ d. if d && not (is_some_number (Some (k, v))) then None else Some None) t
shift_of o k u v r false t m e = ap (λ d. if d then checked o k v (value_of o (width_of k) u v) else None) (same_itself k) ∙ ap (checked o k v) e ∙ go (nat_lt v (width_of k))
  where
    go : (c : Bool) → checked o k v (if c then Some r else None) ≡ Some (outcome_by k r (not c))
    go true = refl
    go false = ap (λ d. if d && not (v == 0) then Some (Some (k, 0)) else no_value o) m ∙ ap (λ d. if d then None else Some None) t

-- the signed quotient by 1 is the dividend, where it is defined
quotient_of_one : (k : BitsKind) (u : ℕ) (b : Bool) → 1 ≤ width_of k → u < 2 ^ width_of k
    → (pair_outcome op.DivideSigned (outcome_by k u b) (Some (k, 1)) ≡ None) ⊎ (pair_outcome op.DivideSigned (outcome_by k u b) (Some (k, 1)) ≡ Some (outcome_by k u b))
quotient_of_one k u true some below = inr refl
quotient_of_one k u false some below = go (value_of op.DivideSigned (width_of k) u 1) refl
  where
    first : pair_outcome op.DivideSigned (Some (k, u)) (Some (k, 1)) ≡ checked op.DivideSigned k 1 (value_of op.DivideSigned (width_of k) u 1)
    first = ap (λ d. if d then checked op.DivideSigned k 1 (value_of op.DivideSigned (width_of k) u 1) else None) (same_itself k)

    go : (r : Option ℕ) → value_of op.DivideSigned (width_of k) u 1 ≡ r
        → (pair_outcome op.DivideSigned (Some (k, u)) (Some (k, 1)) ≡ None) ⊎ (pair_outcome op.DivideSigned (Some (k, u)) (Some (k, 1)) ≡ Some (Some (k, u)))
    go None e = inl (first ∙ ap (checked op.DivideSigned k 1) e)
    go (Some v) e = inr (first ∙ ap (checked op.DivideSigned k 1) e ∙ ap (λ n. Some (Some (k, n))) (one_ignored op.DivideSigned (width_of k) u v some below refl e))

literal_one : (w : ℕ) (l : Literal) → l.magnitude < 2 ^ w → is_number 1 l ≡ true → wrapped w (literal_number l.negative l.magnitude) ≡ 1
literal_one w l low e =
    let f = and_parts (not l.negative) (l.magnitude == 1) e in
    (λ r. wrapped w (literal_number (positive l.negative f.0 r) l.magnitude)) ∙ sym (literal_low w l.magnitude low) ∙ eqb-true l.magnitude 1 f.1
  where
    positive : (c : Bool) → not c ≡ true → c ≡ false
    positive true g = absurd (true≢false (sym g))
    positive false g = refl

compare_of : (q : Predicate) (k : BitsKind) (u v : ℕ) (b c : Bool) → compare_outcome q (outcome_by k u b) (outcome_by k v c) ≡ Some (outcome_by (kind.Int 1) (truth (comparison_of (width_of k) q u v)) (b || c))
compare_of q k u v true c = refl
compare_of q k u v false true = refl
compare_of q k u v false false = ap (λ d. if d then Some (Some (kind.Int 1, truth (comparison_of (width_of k) q u v))) else None) (same_itself k)

select_of : (k : BitsKind) (n u v : ℕ) (a b c : Bool)
    → select_outcome (outcome_by (kind.Int 1) n a) (outcome_by k u b) (outcome_by k v c) ≡ Some (outcome_by k (choice_of n u v) (a || choice_of n b c))
select_of k n u v true b c = refl
select_of k n u v false b c = go (n == 0)
  where
    go : (d : Bool) → Some (if d then outcome_by k v c else outcome_by k u b) ≡ Some (outcome_by k (if d then v else u) (if d then c else b))
    go true = refl
    go false = refl

resize_of : (c : Cast) (k j : BitsKind) (u r : ℕ) → is_width (width_of k) ≡ true → cast_of c (width_of j) (width_of k) u ≡ Some r → (b : Bool) → resize_outcome c k (outcome_by j u b) ≡ Some (outcome_by k r b)
resize_of c k j u r wide e true = ap (λ d. if d then Some None else None) wide
resize_of c k j u r wide e false =
    ap (λ d. if d then resize_any c k (Some (j, u)) else None) wide
    ∙ ap (λ o. given o (λ n. Some (Some (k, n)))) e

-- a type with a narrower constraint is narrower
narrower_is : (ws : List ℕ) (ns : List Narrower) (s t : ℕ) → AreNarrower ws ns → is_narrower ns s t ≡ true → at ws s < at ws t
narrower_is ws [] s t a e = absurd (true≢false (sym e))
narrower_is ws (n ∷ ns) s t a e = go (narrower_is ws ns s t a.1) ((n.narrow == s) && (n.wide == t)) refl e
  where
    go : (is_narrower ns s t ≡ true → at ws s < at ws t) → (b : Bool) → ((n.narrow == s) && (n.wide == t)) ≡ b → (b || is_narrower ns s t) ≡ true → at ws s < at ws t
    go ih true i f =
        let h = and_parts (n.narrow == s) (n.wide == t) i in
        subst (λ (j : ℕ). at ws j < at ws t) (eqb-true n.narrow s h.0) (subst (λ (j : ℕ). at ws n.narrow < at ws j) (eqb-true n.wide t h.1) a.0)
    go ih false i f = ih f

less_test : (n m : ℕ) → n < m → nat_lt n m ≡ true
less_test n m l = grind (arith, nat_tests)

module _ (W : ℕ) (vs : List ℕ) (js : List BitsKind) (first : kind_at js 0 ≡ kind.Int 1) where
  abbrev pub widths : List ℕ
  widths = map width_of js

  -- an operand represents an outcome
  pub record Stands (ps : List Expr) (o : Operand) (x : Outcome) : Type 0 where
    pub number : ℕ
    pub poisoned : Bool
    pub number_is : Is W vs widths ps o.value o.ty number
    pub poison_is : PoisonIs W vs widths ps o.poison poisoned
    pub is : x ≡ outcome_by (kind_at js o.ty) number poisoned
    pub written_is : WrittenIs o.written (at widths o.ty) number poisoned

  pub stands_still : (ps qs : List Expr) (o : Operand) (x : Outcome) → Grown W vs widths ps qs → Stands ps o x → Stands qs o x
  stands_still ps qs o x g s =
      record {
        number = s.number;
        poisoned = s.poisoned;
        number_is = g.kept o.value o.ty s.number s.number_is;
        poison_is = poison_kept W vs widths ps qs o.poison s.poisoned g s.poison_is;
        is = s.is;
        written_is = s.written_is;
      }

  -- the translation of an operation represents its outcome
  pub record Gives (ps : List Expr) (r : Option Outcome) (q : Result) : Type 0 where
    pub outcome : Outcome
    pub is : r ≡ Some outcome
    pub grown : Grown W vs widths ps q.0
    pub stands : Stands q.0 q.1 outcome

  abbrev pub GivesSome : List Expr → Option Outcome → Option Result → Type 0
  GivesSome ps r None = Unit {0}
  GivesSome ps r (Some q) = Gives ps r q

  gives_flagged : (ps : List Expr) (r : Option Outcome) (m : Made) (f : Flagged) (t v : ℕ) (b : Bool) → Makes W vs widths ps m t v → Flags W vs widths m.0 f b
      → r ≡ Some (outcome_by (kind_at js t) v b) → Gives ps r (result m.1 t f)
  gives_flagged ps r m f t v b a h e =
      record {
        outcome = outcome_by (kind_at js t) v b;
        is = e;
        grown = grown_next W vs widths ps m.0 f.0 a.grown h.grown;
        stands = record { number = v; poisoned = b; number_is = h.grown.kept m.1 t v a.is; poison_is = h.is; is = refl; written_is = tt };
      }

  gives_strict : (ps : List Expr) (base : Base W vs widths ps) (r : Option Outcome) (m : Made) (t v : ℕ) (f g : Poison) (b c : Bool)
      → Makes W vs widths ps m t v → PoisonIs W vs widths ps f b → PoisonIs W vs widths ps g c
      → r ≡ Some (outcome_by (kind_at js t) v (b || c)) → Gives ps r (strict m t f g)
  gives_strict ps base r m t v f g b c a p q e =
      gives_flagged ps r m (either f g m.0) t v (b || c) a
      (either_is W vs widths f g m.0 b c (base_on W vs widths ps m.0 base a.grown) (poison_kept W vs widths ps m.0 f b a.grown p) (poison_kept W vs widths ps m.0 g c a.grown q)) e

  module _ (ps : List Expr) (base : Base W vs widths ps) where
    -- operands of one type
    module _ (x y : Operand) (p q : Outcome) (s : Stands ps x p) (u : Stands ps y q) where
      of_type : (x.ty == y.ty) ≡ true → Is W vs widths ps y.value x.ty u.number
      of_type e = subst (λ (t : ℕ). Is W vs widths ps y.value t u.number) (sym (eqb-true x.ty y.ty e)) u.number_is

      same_kind_of : (x.ty == y.ty) ≡ true → q ≡ outcome_by (kind_at js x.ty) u.number u.poisoned
      same_kind_of e = u.is ∙ ap (λ t. outcome_by (kind_at js t) u.number u.poisoned) (sym (eqb-true x.ty y.ty e))

      -- the expression of both operands
      record IsMade (o : Arithmetic) (m : Made) : Type 0 where
        total : (divides o ≡ false) ⊎ (((u.number == 0) ≡ false) × (u.poisoned ≡ false))
        value : ℕ
        value_is : (k : BitsKind) → checked o k u.number (value_of o (at widths x.ty) s.number u.number) ≡ Some (Some (k, value))
        makes : Makes W vs widths ps m x.ty value

      abbrev IsMadeSome : Arithmetic → Option Made → Type 0
      IsMadeSome o None = Unit {0}
      IsMadeSome o (Some m) = IsMade o m

      first_made : (o : Arithmetic) (m n : Option Made) → IsMadeSome o m → IsMadeSome o n → IsMadeSome o (first_there m n)
      first_made o None n a b = b
      first_made o (Some m) n a b = a

      plain_made : (e : (x.ty == y.ty) ≡ true) (o : Arithmetic) (m : Option Made) → PairMakes W vs widths ps base x.value y.value x.ty s.number u.number s.number_is (of_type e) o m → IsMadeSome o m
      plain_made e o None i = tt
      plain_made e o (Some m) i = record { total = inl i.total; value = i.value; value_is = λ k. ap (checked o k u.number) i.value_is; makes = i.makes }

      right_made : (e : (x.ty == y.ty) ≡ true) (o : Arithmetic) (l : Option Literal) → WrittenIs l (at widths x.ty) u.number u.poisoned → IsMadeSome o (given l (λ l. with_literal o x.ty x.value l ps))
      right_made e o None w = tt
      right_made e o (Some l) w = on (with_literal o x.ty x.value l ps) (with_makes W vs widths x.ty x.value s.number l u.number w.0 w.1 ps base s.number_is o)
        where
          known : (t : (divides o ≡ false) ⊎ ((u.number == 0) ≡ false)) → (divides o ≡ false) ⊎ (((u.number == 0) ≡ false) × (u.poisoned ≡ false))
          known (inl t) = inl t
          known (inr t) = inr (t, w.2)

          on : (m : Option Made) → LiteralMakes W vs widths x.ty x.value s.number l u.number w.0 w.1 ps base s.number_is o m → IsMadeSome o m
          on None i = tt
          on (Some m) i = record { total = known i.total; value = i.value; value_is = i.value_is; makes = i.makes }

      left_made : (e : (x.ty == y.ty) ≡ true) (o : Arithmetic) (l : Option Literal) → WrittenIs l (at widths x.ty) s.number s.poisoned → IsMadeSome o (given l (λ l. literal_times o x.ty y.value l ps))
      left_made e o None w = tt
      left_made e o (Some l) w = on (literal_times o x.ty y.value l ps) (times_value W vs widths x.ty y.value u.number l s.number w.0 w.1 ps base (of_type e) o)
        where
          on : (m : Option Made) → TurnedMakes W vs widths x.ty y.value u.number l s.number w.0 w.1 ps base (of_type e) o m → IsMadeSome o m
          on None i = tt
          on (Some m) i = record { total = inl i.total; value = i.value; value_is = λ k. ap (checked o k u.number) i.value_is; makes = i.makes }

      written_of : (x.ty == y.ty) ≡ true → WrittenIs y.written (at widths x.ty) u.number u.poisoned
      written_of e = subst (λ (t : ℕ). WrittenIs y.written (at widths t) u.number u.poisoned) (sym (eqb-true x.ty y.ty e)) u.written_is

      operands_made : (e : (x.ty == y.ty) ≡ true) (o : Arithmetic) → IsMadeSome o (operands_value o x y ps)
      unfolding operands_value
      operands_made e o =
          first_made o (right_literal o x y ps) (first_there (left_literal o x y ps) (pair_value o x.ty x.value y.value ps))
          (right_made e o y.written (written_of e))
          (first_made o (left_literal o x y ps) (pair_value o x.ty x.value y.value ps) (left_made e o x.written s.written_is)
          (plain_made e o (pair_value o x.ty x.value y.value ps) (pair_makes W vs widths ps base x.value y.value x.ty s.number u.number s.number_is (of_type e) o)))

      other_made : (e : (x.ty == y.ty) ≡ true) (o : Arithmetic) (m : Option Made) → IsMadeSome o m → GivesSome ps (pair_outcome o p q) (given m (λ m. Some (strict m x.ty x.poison y.poison)))
      other_made e o None i = tt
      other_made e o (Some m) i =
          gives_strict ps base (pair_outcome o p q) m x.ty i.value x.poison y.poison s.poisoned u.poisoned i.makes s.poison_is u.poison_is
          ((λ r. pair_outcome o (s.is r) (same_kind_of e r))
          ∙ pair_of o (kind_at js x.ty) s.number u.number i.value s.poisoned u.poisoned i.total
          (ap (λ w. checked o (kind_at js x.ty) u.number (value_of o w s.number u.number)) (sym (width_is js x.ty)) ∙ i.value_is (kind_at js x.ty)))

      -- the truth that a shift is poison
      far_makes : (qs : List Expr) (n : ℕ) → Base W vs widths qs → Makes W vs widths qs (too_far n x.ty qs) 0 (truth (not (nat_lt n (at widths x.ty))))
      far_makes qs n b =
          let w = at widths x.ty in
          let m = push_expr qs x.ty (form.Literal (2 ^ n)) in
          let a = put_number W vs widths qs b x.ty (2 ^ n) s.number_is.low in
          let c = base_on W vs widths qs m.0 b a.grown in
          let power = wrapped w (literal_number false (2 ^ n)) in
          let equal = put_equal W vs widths m.0 c 0 m.1 0 x.ty 0 power c.zero_is a.is in
          makes_next W vs widths qs m (too_far n x.ty qs) x.ty 0 power (truth (not (nat_lt n w))) a
          (makes_same W vs widths m.0 (too_far n x.ty qs) 0 (truth (0 == power)) (truth (not (nat_lt n w))) (ap truth (far_is w n)) equal)

      shift_strict : (o : Arithmetic) (n : ℕ) (m : Made) → Shifts W vs widths x.ty s.number n ps o m → pair_outcome o p q ≡ pair_outcome o (outcome_by (kind_at js x.ty) s.number s.poisoned) (Some (kind_at js x.ty, n))
          → Gives ps (pair_outcome o p q) (shift_result x.ty x.poison m (too_far n x.ty m.0))
      shift_strict o n m i both =
          let k = kind_at js x.ty in
          let far = too_far n x.ty m.0 in
          let b = base_on W vs widths ps m.0 base i.makes.grown in
          let a = far_makes m.0 n b in
          let c = base_on W vs widths m.0 far.0 b a.grown in
          let up = grown_next W vs widths ps m.0 far.0 i.makes.grown a.grown in
          let w = width_is js x.ty in
          let gives = gives_strict far.0 c (pair_outcome o p q) (far.0, m.1) x.ty i.value x.poison (poison.When far.1) s.poisoned (not (nat_lt n (at widths x.ty)))
          (record { grown = same W vs widths far.0 c.right; is = a.grown.kept m.1 x.ty i.value i.makes.is })
          (poison_kept W vs widths ps far.0 x.poison s.poisoned up s.poison_is) a.is
          (both ∙ shift_of o k s.number n i.value s.poisoned i.total i.remains ((λ r. value_of o (sym w r) s.number n) ∙ i.value_is ∙ (λ r. if nat_lt n (w r) then Some i.value else None))
          ∙ (λ r. Some (outcome_by k i.value (s.poisoned || not (nat_lt n (sym w r)))))) in
          record {
            outcome = gives.outcome;
            is = gives.is;
            grown = grown_next W vs widths ps far.0 (shift_result x.ty x.poison m far).0 up gives.grown;
            stands = gives.stands;
          }

      shift_gives : (e : (x.ty == y.ty) ≡ true) (o : Arithmetic) → GivesSome ps (pair_outcome o p q) (shift o x y ps)
      shift_gives e o = on y.written (written_of e)
        where
          by : (l : Literal) → WrittenIs (Some l) (at widths x.ty) u.number u.poisoned → l.negative ≡ false → (m : Option Made) → ShiftsSome W vs widths x.ty s.number l.magnitude ps o m
              → GivesSome ps (pair_outcome o p q) (given m (λ m. Some (shift_result x.ty x.poison m (too_far l.magnitude x.ty m.0))))
          by l w positive None i = tt
          by l w positive (Some m) i =
              let number : u.number ≡ l.magnitude = w.0 ∙ (λ r. wrapped (at widths x.ty) (literal_number (positive r) l.magnitude)) ∙ sym (literal_low (at widths x.ty) l.magnitude w.1) in
              shift_strict o l.magnitude m i
              ((λ r. pair_outcome o (s.is r) (same_kind_of e r)) ∙ (λ r. pair_outcome o (outcome_by (kind_at js x.ty) s.number s.poisoned) (outcome_by (kind_at js x.ty) (number r) (w.2 r))))

          fits : (l : Literal) → WrittenIs (Some l) (at widths x.ty) u.number u.poisoned → (c : Bool) → is_shift l ≡ c
              → GivesSome ps (pair_outcome o p q) (if c then given (shifted o l.magnitude x.ty x.value ps) (λ m. Some (shift_result x.ty x.poison m (too_far l.magnitude x.ty m.0))) else None)
          fits l w false f = tt
          fits l w true f =
              let h = and_parts (not l.negative) (nat_lt 0 l.magnitude && nat_lt l.magnitude 32) f in
              by l w (positive l.negative h.0) (shifted o l.magnitude x.ty x.value ps) (shifts W vs widths x.ty l.magnitude x.value s.number ps base s.number_is o)
            where
              positive : (c : Bool) → not c ≡ true → c ≡ false
              positive true g = absurd (true≢false (sym g))
              positive false g = refl

          on : (l : Option Literal) → WrittenIs l (at widths x.ty) u.number u.poisoned → GivesSome ps (pair_outcome o p q) (given l (λ l. shift_by o x l ps))
          on None w = tt
          on (Some l) w = fits l w (is_shift l) refl

      pub pair_gives : (o : Arithmetic) → GivesSome ps (pair_outcome o p q) (pair_result o x y ps)
      pair_gives o = go (x.ty == y.ty) refl
        where
          earlier : (a b : Option Result) → GivesSome ps (pair_outcome o p q) a → GivesSome ps (pair_outcome o p q) b → GivesSome ps (pair_outcome o p q) (first_result a b)
          earlier None b g h = h
          earlier (Some r) b g h = g

          go : (b : Bool) → (x.ty == y.ty) ≡ b → GivesSome ps (pair_outcome o p q) (if b then first_result (shift o x y ps) (other_result o x y ps) else None)
          go false e = tt
          go true e = earlier (shift o x y ps) (other_result o x y ps) (shift_gives e o) (other_made e o (operands_value o x y ps) (operands_made e o))

      -- a signed division that is undefined, or has a quotient
      abbrev pub Divides : Option Outcome → Option Operand → Type 0
      Divides r None = Unit {0}
      Divides r (Some d) = (r ≡ None) ⊎ Gives ps r (ps, d)

      pub divide_gives : Divides (pair_outcome op.DivideSigned p q) (divide_result x y)
      divide_gives = go (x.ty == y.ty) refl
        where
          by_one : (e : (x.ty == y.ty) ≡ true) → u.number ≡ 1 → u.poisoned ≡ false → Divides (pair_outcome op.DivideSigned p q) (Some (operand x.value x.poison x.ty))
          by_one e one known =
              let k = kind_at js x.ty in
              let w = width_is js x.ty in
              let some = s.number_is.low.0 in
              let below = value_below W vs widths ps x.value x.ty s.number base.right s.number_is in
              let both : pair_outcome op.DivideSigned p q ≡ pair_outcome op.DivideSigned (outcome_by k s.number s.poisoned) (Some (k, 1)) =
              (λ r. pair_outcome op.DivideSigned (s.is r) (same_kind_of e r)) ∙ (λ r. pair_outcome op.DivideSigned (outcome_by k s.number s.poisoned) (outcome_by k (one r) (known r))) in
              elim (quotient_of_one k s.number s.poisoned (subst (λ (n : ℕ). 1 ≤ n) w some) (subst (λ (n : ℕ). s.number < 2 ^ n) w below)) [
                | inl f ↦ inl (both ∙ f)
                | inr f ↦ inr (record {
                  outcome = outcome_by k s.number s.poisoned;
                  is = both ∙ f;
                  grown = same W vs widths ps base.right;
                  stands = record { number = s.number; poisoned = s.poisoned; number_is = s.number_is; poison_is = s.poison_is; is = refl; written_is = tt };
                })
              ]

          with_one : (e : (x.ty == y.ty) ≡ true) (l : Literal) → WrittenIs (Some l) (at widths x.ty) u.number u.poisoned → (c : Bool) → is_number 1 l ≡ c
              → Divides (pair_outcome op.DivideSigned p q) (if c then Some (operand x.value x.poison x.ty) else None)
          with_one e l w false f = tt
          with_one e l w true f = by_one e (w.0 ∙ literal_one (at widths x.ty) l w.1 f) w.2

          on : (e : (x.ty == y.ty) ≡ true) (l : Option Literal) → WrittenIs l (at widths x.ty) u.number u.poisoned → Divides (pair_outcome op.DivideSigned p q) (given l (divide_by x))
          on e None w = tt
          on e (Some l) w = with_one e l w (is_number 1 l) refl

          go : (b : Bool) → (x.ty == y.ty) ≡ b → Divides (pair_outcome op.DivideSigned p q) (if b then given y.written (divide_by x) else None)
          go false e = tt
          go true e = on e y.written (written_of e)

      pub compare_gives : (o : Predicate) → GivesSome ps (compare_outcome o p q) (compare_result o x y ps)
      compare_gives o = go (x.ty == y.ty) refl
        where
          go : (b : Bool) → (x.ty == y.ty) ≡ b → GivesSome ps (compare_outcome o p q) (if b then Some (strict (compare_value o x.ty x.value y.value ps) 0 x.poison y.poison) else None)
          go false e = tt
          go true e =
              gives_strict ps base (compare_outcome o p q) (compare_value o x.ty x.value y.value ps) 0 (truth (comparison_of (at widths x.ty) o s.number u.number)) x.poison y.poison s.poisoned u.poisoned
              (compare_makes W vs widths ps base x.value y.value x.ty s.number u.number s.number_is (of_type e) o) s.poison_is u.poison_is
              ((λ r. compare_outcome o (s.is r) (same_kind_of e r))
              ∙ compare_of o (kind_at js x.ty) s.number u.number s.poisoned u.poisoned
              ∙ (λ r. Some (outcome_by (sym first r) (truth (comparison_of (sym (width_is js x.ty) r) o s.number u.number)) (s.poisoned || u.poisoned))))

      pub select_gives : (c : Operand) (d : Outcome) → Stands ps c d → GivesSome ps (select_outcome d p q) (select_result c x y ps)
      select_gives c d k = go ((c.ty == 0) && (x.ty == y.ty)) refl
        where
          made_is : (c.ty == 0) ≡ true → (x.ty == y.ty) ≡ true → Gives ps (select_outcome d p q) (select_made c x y (push_expr ps x.ty (form.Select c.value x.value y.value)))
          made_is z e =
              let m = push_expr ps x.ty (form.Select c.value x.value y.value) in
              let a = put_select W vs widths ps base x.value y.value x.ty s.number u.number s.number_is (of_type e) c.value c.ty k.number k.number_is in
              let b = base_on W vs widths ps m.0 base a.grown in
              let chosen = chosen_is W vs widths m.0 b c.value c.ty k.number (a.grown.kept c.value c.ty k.number k.number_is) x.poison y.poison s.poisoned u.poisoned
              (poison_kept W vs widths ps m.0 x.poison s.poisoned a.grown s.poison_is) (poison_kept W vs widths ps m.0 y.poison u.poisoned a.grown u.poison_is) in
              let flags = also_is W vs widths c.poison m.0 (chosen_poison c.value x.poison y.poison m.0) k.poisoned (choice_of k.number s.poisoned u.poisoned) b
              (poison_kept W vs widths ps m.0 c.poison k.poisoned a.grown k.poison_is) chosen in
              let condition : d ≡ outcome_by (kind.Int 1) k.number k.poisoned = k.is ∙ ap (λ t. outcome_by (kind_at js t) k.number k.poisoned) (eqb-true c.ty 0 z) ∙ ap (λ i. outcome_by i k.number k.poisoned) first in
              gives_flagged ps (select_outcome d p q) m (select_poison c x y m.0) x.ty (choice_of k.number s.number u.number) (k.poisoned || choice_of k.number s.poisoned u.poisoned) a flags
              ((λ r. select_outcome (condition r) (s.is r) (same_kind_of e r)) ∙ select_of (kind_at js x.ty) k.number s.number u.number k.poisoned s.poisoned u.poisoned)

          go : (b : Bool) → ((c.ty == 0) && (x.ty == y.ty)) ≡ b → GivesSome ps (select_outcome d p q) (if b then Some (select_made c x y (push_expr ps x.ty (form.Select c.value x.value y.value))) else None)
          go false e = tt
          go true e = let h = and_parts (c.ty == 0) (x.ty == y.ty) e in made_is h.0 h.1

    -- casts
    record IsCast (c : Cast) (t u n : ℕ) (m : Made) : Type 0 where
      value : ℕ
      value_is : cast_of c (at widths u) (at widths t) n ≡ Some value
      makes : Makes W vs widths ps m t value

    abbrev CastMakes : Cast → ℕ → ℕ → ℕ → Option Made → Type 0
    CastMakes c t u n None = Unit {0}
    CastMakes c t u n (Some m) = IsCast c t u n m

    module _ (ns : List Narrower) (narrow : AreNarrower widths ns) (t : ℕ) (low : IsBelow W (at widths t)) where
      cut_makes : (u i n : ℕ) → Is W vs widths ps i u n → (b : Bool) → is_narrower ns t u ≡ b → CastMakes cast.Truncate t u n (if b then Some (push_expr ps t (form.Cut i)) else None)
      unfolding truncated
      cut_makes u i n is false e = tt
      cut_makes u i n is true e =
          record {
            value = n % 2 ^ at widths t;
            value_is = ap (λ b. if b then Some (n % 2 ^ at widths t) else None) (less_test (at widths t) (at widths u) (narrower_is widths ns t u narrow e));
            makes = put_cut W vs widths ps base i t u n low is;
          }

      cast_makes : (c : Cast) (u i n : ℕ) → Is W vs widths ps i u n → CastMakes c t u n (cast_value ns c t u i ps)
      unfolding zero_extended
      cast_makes cast.ExtendSigned u i n is = record { value = sign_extended (at widths u) (at widths t) n; value_is = refl; makes = put_resize W vs widths ps base i t u n low is }
      cast_makes cast.ExtendUnsigned u i n is = record { value = n % 2 ^ at widths t; value_is = refl; makes = put_cut W vs widths ps base i t u n low is }
      cast_makes cast.Truncate u i n is = cut_makes u i n is (is_narrower ns t u) refl

      pub resize_gives : (c : Cast) (x : Operand) (p : Outcome) → Stands ps x p → is_width (width_of (kind_at js t)) ≡ true → GivesSome ps (resize_outcome c (kind_at js t) p) (resize_result ns c t x ps)
      resize_gives c x p s wide = on (cast_value ns c t x.ty x.value ps) (cast_makes c x.ty x.value s.number s.number_is)
        where
          on : (m : Option Made) → CastMakes c t x.ty s.number m → GivesSome ps (resize_outcome c (kind_at js t) p) (given m (λ m. Some (result m.1 t (m.0, x.poison))))
          on None i = tt
          on (Some m) i =
              gives_flagged ps (resize_outcome c (kind_at js t) p) m (m.0, x.poison) t i.value s.poisoned i.makes
              (record { grown = same W vs widths m.0 (i.makes.grown.right); is = poison_kept W vs widths ps m.0 x.poison s.poisoned i.makes.grown s.poison_is })
              (ap (resize_outcome c (kind_at js t)) s.is
              ∙ resize_of c (kind_at js t) (kind_at js x.ty) s.number i.value wide ((λ r. cast_of c (sym (width_is js x.ty) r) (sym (width_is js t) r) s.number) ∙ i.value_is) s.poisoned)
