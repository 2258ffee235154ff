-- The values of expressions, by form.
use Rattle.std.proofs.Common.{◌≡◌, ℕ, suc, ◌<◌, ◌/◌, ◌%◌, ◌^◌, ◌==◌, List, Bool, true, false, not, nat_lt, nat_le, bit_and, bit_or, bit_xor, if◌then◌else◌, ℤ, refl, ap, arith, Option, Some, None}
use Rattle.std.specs.Prelude.{int_lt, int_le}
use Rattle.std.proofs.lemmas.Bool.Decides.{nat_tests}
use Rattle.std.proofs.lemmas.Int.{ints}
use Rattle.dialects_int.specs.declared.operations.Arithmetic.{Arithmetic}
use Rattle.dialects_int.specs.declared.operations.Arithmetic.TheVariants as op
use Rattle.dialects_int.specs.declared.operations.Predicate.{Predicate}
use Rattle.dialects_int.specs.declared.operations.Predicate.TheVariants as asks
use Rattle.dialects_int.specs.Arithmetic.{choice_of, comparison_of, difference_of, maximum_of, minimum_of, sign_extended, signed_maximum_of, signed_minimum_of, sum_of, truth, value_of}
use Rattle.ir_types.specs.Readings.{literal_number, signed_of, wrapped}
use Rattle.user_patterns_check.specs.Outcomes.{divides}
use Rattle.width_claims.specs.declared.form.Form.TheVariants as form
use Rattle.width_claims.specs.declared.form.Expr.{Expr}
use Rattle.width_claims.specs.PatternOpValues.{at}
use Rattle.width_claims.specs.Right.{IsBelow}
use Rattle.user_patterns_instructions.specs.Expressions.{Made, chosen, compare_value, negated, pair_value, push_expr}
use Rattle.user_patterns_instructions.proofs.PatternOps.{Base, Is, Makes, base_on, has, inside, made, makes_next, makes_same}

pub not_truth : (b : Bool) → bit_xor (truth b) 1 ≡ truth (not b)
not_truth true = refl
not_truth false = refl

choice_truth : (b : Bool) (x y : ℕ) → choice_of (truth b) x y ≡ (if b then x else y)
choice_truth true x y = refl
choice_truth false x y = refl

at_most : (a b : ℕ) → not (nat_lt b a) ≡ nat_le a b
at_most a b = grind (arith, nat_tests)

at_most_signed : (a b : ℤ) → not (int_lt b a) ≡ int_le a b
at_most_signed a b = grind (arith, ints)

module _ (W : ℕ) (vs ws : List ℕ) where
  module _ (ps : List Expr) (b : Base W vs ws ps) (i j t x y : ℕ) (p : Is W vs ws ps i t x) (q : Is W vs ws ps j t y) where
    pub put_add : Makes W vs ws ps (push_expr ps t (form.Add i j)) t (sum_of (at ws t) x y)
    put_add = made W vs ws ps t (form.Add i j) (sum_of (at ws t) x y) b.right p.low (has W vs ws ps i t x p, has W vs ws ps j t y q) (λ r. sum_of (at ws t) (p.value r) (q.value r))

    pub put_subtract : Makes W vs ws ps (push_expr ps t (form.Subtract i j)) t (difference_of (at ws t) x y)
    put_subtract = made W vs ws ps t (form.Subtract i j) (difference_of (at ws t) x y) b.right p.low (has W vs ws ps i t x p, has W vs ws ps j t y q) (λ r. difference_of (at ws t) (p.value r) (q.value r))

    pub put_and : Makes W vs ws ps (push_expr ps t (form.And i j)) t (bit_and x y)
    put_and = made W vs ws ps t (form.And i j) (bit_and x y) b.right p.low (has W vs ws ps i t x p, has W vs ws ps j t y q) (λ r. bit_and (p.value r) (q.value r))

    pub put_or : Makes W vs ws ps (push_expr ps t (form.Or i j)) t (bit_or x y)
    put_or = made W vs ws ps t (form.Or i j) (bit_or x y) b.right p.low (has W vs ws ps i t x p, has W vs ws ps j t y q) (λ r. bit_or (p.value r) (q.value r))

    pub put_xor : Makes W vs ws ps (push_expr ps t (form.ExclusiveOr i j)) t (bit_xor x y)
    put_xor = made W vs ws ps t (form.ExclusiveOr i j) (bit_xor x y) b.right p.low (has W vs ws ps i t x p, has W vs ws ps j t y q) (λ r. bit_xor (p.value r) (q.value r))

    pub put_same : Makes W vs ws ps (push_expr ps 0 (form.Same i j)) 0 (truth (x == y))
    put_same = made W vs ws ps 0 (form.Same i j) (truth (x == y)) b.right b.zero_is.low (inside W vs ws ps i t x p, inside W vs ws ps j t y q) (λ r. truth (p.value r == q.value r))

    pub put_less_signed : Makes W vs ws ps (push_expr ps 0 (form.LessSigned t i j)) 0 (truth (comparison_of (at ws t) asks.SignedLess x y))
    put_less_signed =
        made W vs ws ps 0 (form.LessSigned t i j) (truth (comparison_of (at ws t) asks.SignedLess x y)) b.right b.zero_is.low (p.low, has W vs ws ps i t x p, has W vs ws ps j t y q)
        (λ r. truth (comparison_of (at ws t) asks.SignedLess (p.value r) (q.value r)))

    -- the one of two values that a truth selects
    pub put_select : (c u n : ℕ) → Is W vs ws ps c u n → Makes W vs ws ps (push_expr ps t (form.Select c i j)) t (choice_of n x y)
    put_select c u n o =
        made W vs ws ps t (form.Select c i j) (choice_of n x y) b.right p.low (inside W vs ws ps c u n o, has W vs ws ps i t x p, has W vs ws ps j t y q)
        (λ r. choice_of (o.value r) (p.value r) (q.value r))

  pub put_less : (ps : List Expr) → Base W vs ws ps → (i j t u x y : ℕ) → Is W vs ws ps i t x → Is W vs ws ps j u y → Makes W vs ws ps (push_expr ps 0 (form.Less i j)) 0 (truth (nat_lt x y))
  put_less ps b i j t u x y p q =
      made W vs ws ps 0 (form.Less i j) (truth (nat_lt x y)) b.right b.zero_is.low (inside W vs ws ps i t x p, inside W vs ws ps j u y q) (λ r. truth (nat_lt (p.value r) (q.value r)))

  pub put_resize : (ps : List Expr) → Base W vs ws ps → (i t u x : ℕ) → IsBelow W (at ws t) → Is W vs ws ps i u x → Makes W vs ws ps (push_expr ps t (form.Resize u i)) t (sign_extended (at ws u) (at ws t) x)
  put_resize ps b i t u x low p =
      made W vs ws ps t (form.Resize u i) (sign_extended (at ws u) (at ws t) x) b.right low (p.low, has W vs ws ps i u x p) (λ r. sign_extended (at ws u) (at ws t) (p.value r))

  pub put_cut : (ps : List Expr) → Base W vs ws ps → (i t u x : ℕ) → IsBelow W (at ws t) → Is W vs ws ps i u x → Makes W vs ws ps (push_expr ps t (form.Cut i)) t (x % 2 ^ at ws t)
  put_cut ps b i t u x low p = made W vs ws ps t (form.Cut i) (x % 2 ^ at ws t) b.right low (inside W vs ws ps i u x p) (λ r. p.value r % 2 ^ at ws t)

  pub put_number : (ps : List Expr) → Base W vs ws ps → (t n : ℕ) → IsBelow W (at ws t) → Makes W vs ws ps (push_expr ps t (form.Literal n)) t (wrapped (at ws t) (literal_number false n))
  put_number ps b t n low = made W vs ws ps t (form.Literal n) (wrapped (at ws t) (literal_number false n)) b.right low tt refl

  pub put_negative : (ps : List Expr) → Base W vs ws ps → (t n : ℕ) → IsBelow W (at ws t) → n < 2 ^ at ws t → Makes W vs ws ps (push_expr ps t (form.Negative n)) t (wrapped (at ws t) (literal_number true n))
  put_negative ps b t n low l = made W vs ws ps t (form.Negative n) (wrapped (at ws t) (literal_number true n)) b.right low l refl

  pub put_equal : (ps : List Expr) → Base W vs ws ps → (i j t u x y : ℕ) → Is W vs ws ps i t x → Is W vs ws ps j u y → Makes W vs ws ps (push_expr ps 0 (form.Same i j)) 0 (truth (x == y))
  put_equal ps b i j t u x y p q = made W vs ws ps 0 (form.Same i j) (truth (x == y)) b.right b.zero_is.low (inside W vs ws ps i t x p, inside W vs ws ps j u y q) (λ r. truth (p.value r == q.value r))

  pub put_quotient : (ps : List Expr) → Base W vs ws ps → (i t n x : ℕ) → Is W vs ws ps i t x → Makes W vs ws ps (push_expr ps t (form.Quotient i n)) t (x / suc n)
  put_quotient ps b i t n x p = made W vs ws ps t (form.Quotient i n) (x / suc n) b.right p.low (has W vs ws ps i t x p) (λ r. p.value r / suc n)

  -- the negation of a truth
  pub makes_not : (ps : List Expr) (m : Made) (c : Bool) → Base W vs ws ps → Makes W vs ws ps m 0 (truth c) → Makes W vs ws ps (negated m) 0 (truth (not c))
  makes_not ps m c b a =
      let d = base_on W vs ws ps m.0 b a.grown in
      makes_next W vs ws ps m (negated m) 0 0 (truth c) (truth (not c)) a
      (makes_same W vs ws m.0 (negated m) 0 (bit_xor (truth c) 1) (truth (not c)) (not_truth c) (put_xor m.0 d m.1 1 0 (truth c) 1 a.is d.one_is))

  makes_chosen : (ps : List Expr) (m : Made) (c : Bool) (i j t x y : ℕ) → Base W vs ws ps → Makes W vs ws ps m 0 (truth c) → Is W vs ws ps i t x → Is W vs ws ps j t y
      → Makes W vs ws ps (chosen m t i j) t (if c then x else y)
  makes_chosen ps m c i j t x y b a p q =
      let d = base_on W vs ws ps m.0 b a.grown in
      makes_next W vs ws ps m (chosen m t i j) 0 t (truth c) (if c then x else y) a
      (makes_same W vs ws m.0 (chosen m t i j) t (choice_of (truth c) x y) (if c then x else y) (choice_truth c x y)
      (put_select m.0 d i j t x y (a.grown.kept i t x p) (a.grown.kept j t y q) m.1 0 (truth c) a.is))

  module _ (ps : List Expr) (b : Base W vs ws ps) (i j t x y : ℕ) (p : Is W vs ws ps i t x) (q : Is W vs ws ps j t y) where
    less_signed : Makes W vs ws ps (push_expr ps 0 (form.LessSigned t i j)) 0 (truth (int_lt (signed_of (at ws t) x) (signed_of (at ws t) y)))
    unfolding comparison_of
    less_signed = put_less_signed ps b i j t x y p q

    more_signed : Makes W vs ws ps (push_expr ps 0 (form.LessSigned t j i)) 0 (truth (int_lt (signed_of (at ws t) y) (signed_of (at ws t) x)))
    unfolding comparison_of
    more_signed = put_less_signed ps b j i t y x q p

    pub compare_makes : (o : Predicate) → Makes W vs ws ps (compare_value o t i j ps) 0 (truth (comparison_of (at ws t) o x y))
    unfolding comparison_of
    compare_makes asks.Equal = put_same ps b i j t x y p q
    compare_makes asks.NotEqual = makes_not ps (push_expr ps 0 (form.Same i j)) (x == y) b (put_same ps b i j t x y p q)
    compare_makes asks.SignedLess = less_signed
    compare_makes asks.SignedLessOrEqual =
        makes_same W vs ws ps (compare_value asks.SignedLessOrEqual t i j ps) 0 (truth (not (int_lt (signed_of (at ws t) y) (signed_of (at ws t) x)))) (truth (int_le (signed_of (at ws t) x) (signed_of (at ws t) y)))
        (ap truth (at_most_signed (signed_of (at ws t) x) (signed_of (at ws t) y)))
        (makes_not ps (push_expr ps 0 (form.LessSigned t j i)) (int_lt (signed_of (at ws t) y) (signed_of (at ws t) x)) b more_signed)
    compare_makes asks.SignedGreater = more_signed
    compare_makes asks.SignedGreaterOrEqual =
        makes_same W vs ws ps (compare_value asks.SignedGreaterOrEqual t i j ps) 0 (truth (not (int_lt (signed_of (at ws t) x) (signed_of (at ws t) y)))) (truth (int_le (signed_of (at ws t) y) (signed_of (at ws t) x)))
        (ap truth (at_most_signed (signed_of (at ws t) y) (signed_of (at ws t) x)))
        (makes_not ps (push_expr ps 0 (form.LessSigned t i j)) (int_lt (signed_of (at ws t) x) (signed_of (at ws t) y)) b less_signed)
    compare_makes asks.UnsignedLess = put_less ps b i j t t x y p q
    compare_makes asks.UnsignedLessOrEqual =
        makes_same W vs ws ps (compare_value asks.UnsignedLessOrEqual t i j ps) 0 (truth (not (nat_lt y x))) (truth (nat_le x y)) (ap truth (at_most x y))
        (makes_not ps (push_expr ps 0 (form.Less j i)) (nat_lt y x) b (put_less ps b j i t t y x q p))
    compare_makes asks.UnsignedGreater = put_less ps b j i t t y x q p
    compare_makes asks.UnsignedGreaterOrEqual =
        makes_same W vs ws ps (compare_value asks.UnsignedGreaterOrEqual t i j ps) 0 (truth (not (nat_lt x y))) (truth (nat_le y x)) (ap truth (at_most y x))
        (makes_not ps (push_expr ps 0 (form.Less i j)) (nat_lt x y) b (put_less ps b i j t t x y p q))

    -- a binary operation that always has a value
    pub record IsPair (o : Arithmetic) (m : Made) : Type 0 where
      pub total : divides o ≡ false
      pub value : ℕ
      pub value_is : value_of o (at ws t) x y ≡ Some value
      pub makes : Makes W vs ws ps m t value

    abbrev pub PairMakes : Arithmetic → Option Made → Type 0
    PairMakes o None = Unit {0}
    PairMakes o (Some m) = IsPair o m

    pub pair_makes : (o : Arithmetic) → PairMakes o (pair_value o t i j ps)
    unfolding signed_maximum_of maximum_of signed_minimum_of minimum_of
    pair_makes op.Add = record { total = refl; value = sum_of (at ws t) x y; value_is = refl; makes = put_add ps b i j t x y p q }
    pair_makes op.Subtract = record { total = refl; value = difference_of (at ws t) x y; value_is = refl; makes = put_subtract ps b i j t x y p q }
    pair_makes op.And = record { total = refl; value = bit_and x y; value_is = refl; makes = put_and ps b i j t x y p q }
    pair_makes op.Or = record { total = refl; value = bit_or x y; value_is = refl; makes = put_or ps b i j t x y p q }
    pair_makes op.ExclusiveOr = record { total = refl; value = bit_xor x y; value_is = refl; makes = put_xor ps b i j t x y p q }
    pair_makes op.MaximumSigned = record {
      total = refl;
      value = if int_lt (signed_of (at ws t) x) (signed_of (at ws t) y) then y else x;
      value_is = refl;
      makes = makes_chosen ps (push_expr ps 0 (form.LessSigned t i j)) (int_lt (signed_of (at ws t) x) (signed_of (at ws t) y)) j i t y x b less_signed q p;
    }
    pair_makes op.MaximumUnsigned = record {
      total = refl;
      value = if nat_lt x y then y else x;
      value_is = refl;
      makes = makes_chosen ps (push_expr ps 0 (form.Less i j)) (nat_lt x y) j i t y x b (put_less ps b i j t t x y p q) q p;
    }
    pair_makes op.MinimumSigned = record {
      total = refl;
      value = if int_lt (signed_of (at ws t) y) (signed_of (at ws t) x) then y else x;
      value_is = refl;
      makes = makes_chosen ps (push_expr ps 0 (form.LessSigned t j i)) (int_lt (signed_of (at ws t) y) (signed_of (at ws t) x)) j i t y x b more_signed q p;
    }
    pair_makes op.MinimumUnsigned = record {
      total = refl;
      value = if nat_lt y x then y else x;
      value_is = refl;
      makes = makes_chosen ps (push_expr ps 0 (form.Less j i)) (nat_lt y x) j i t y x b (put_less ps b j i t t y x q p) q p;
    }
    pair_makes op.Multiply = tt
    pair_makes op.ShiftLeft = tt
    pair_makes op.DivideSigned = tt
    pair_makes op.DivideUnsigned = tt
    pair_makes op.RemainderSigned = tt
    pair_makes op.RemainderUnsigned = tt
    pair_makes op.ShiftRightSigned = tt
    pair_makes op.ShiftRightUnsigned = tt
