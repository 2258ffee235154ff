-- The outcome of an operation for refined operands is refined.
use Rattle.std.proofs.Common.{◌≡◌, ℕ, refl, ap, sym, ◌∙◌, subst, List, [], ◌∷◌, Bool, true, false, true≢false, ◌&&◌, not, eq-eqb, Option, Some, None}
use Rattle.std.specs.Prelude.{if◌then◌else◌, ◌==◌, ◌/◌, ◌%◌, ◌^◌, nat_lt, codes, int_div}
use Rattle.std.proofs.lemmas.Bool.{and_parts}
use Rattle.std.proofs.lemmas.Option.{none-some, same_Some}
use Rattle.ir_types.specs.declared.bits.BitsKind.{BitsKind}
use Rattle.ir_types.specs.declared.bits.BitsKind.TheVariants as kind
use Rattle.ir_types.specs.Bits.{width_of}
use Rattle.ir_types.specs.Readings.{signed_of, wrapped}
use Rattle.ir_types.specs.Reasons.{is_width}
use Rattle.dialects_int.specs.declared.operations.Arithmetic.{Arithmetic}
use Rattle.dialects_int.specs.declared.operations.Arithmetic.TheVariants as op
use Rattle.dialects_int.specs.declared.operations.Cast.{Cast}
use Rattle.dialects_int.specs.declared.operations.Cast.TheVariants as cast
use Rattle.dialects_int.specs.declared.operations.Predicate.{Predicate}
use Rattle.dialects_int.specs.declared.operations.Rule.{Rule}
use Rattle.dialects_int.specs.declared.operations.Rule.TheVariants as rule
use Rattle.dialects_int.specs.Arithmetic.{all_ones, cast_of, choice_of, comparison_of, least, quotient_of, remainder_of, signed_quotient_of, truncated, truth, value_of}
use Rattle.dialects_int.specs.Folds.{Known, requested, property_of, rule_of, same_kind}
use Rattle.dialects_int.proofs.KnownOperands.{same_itself}
use Rattle.user_patterns_check.specs.Outcomes.{Outcome, compare_outcome, divides, given, is_signed_remainder, is_some_number, checked, known_pair, no_value, pair_outcome, resize_any, resize_outcome, select_outcome}
use Rattle.user_patterns_check.specs.Checks.{refines}
use Rattle.user_patterns_check.proofs.Keeping.{one_known, same_kinds, value_refined}
use Rattle.patterns_laws.proofs.KnownFolds.{given_some}
use Rattle.user_patterns_data.specs.Matching.{Header}
use Rattle.patterns_refinement.specs.Meaning.{makes_by, of_one, of_two, result_kind}
use Rattle.patterns_refinement.specs.Better.{AllBetter, AreOf, Monotone, compares, is_kind, is_poison_by_ones, is_signed_quotient, narrows, takes, takes_its}
use Rattle.patterns_refinement.proofs.Forms.{makes_is}

-- ---- refined outcomes
pub itself : (x : Outcome) → refines x x ≡ true
itself None = refl
itself (Some k) = λ i. same_itself k.0 i && eq-eqb k.1 k.1 refl i

pub same_refined : (x y : Outcome) → x ≡ y → refines x y ≡ true
same_refined x y e = subst (λ z. refines x z ≡ true) e (itself x)

pub through : (x y z : Outcome) → refines x y ≡ true → refines y z ≡ true → refines x z ≡ true
through None y z e f = refl
through (Some k) y z e f = subst (λ w. refines w z ≡ true) (value_refined k y e) f

-- there is an outcome, and it refines x
abbrev pub Gives : Outcome → Option Outcome → Type 0
Gives x o = (z : Outcome) × (o ≡ Some z) × (refines x z ≡ true)

gives_same : (x : Outcome) (o q : Option Outcome) → o ≡ Some x → o ≡ q → Gives x q
gives_same x o q e s = (x, sym s ∙ e, itself x)

-- if x is poison, any outcome refines it
gives_some : (x : Outcome) (o : Option Outcome) → x ≡ None → ((z : Outcome) × (o ≡ Some z)) → Gives x o
gives_some x o e r = (r.0, r.1, subst (λ w. refines w r.0 ≡ true) (sym e) refl)

-- ---- two operands
pub none_made : (b : Bool) (z : Outcome) → (if b then None else Some None) ≡ Some z → (b ≡ false) × (z ≡ None)
none_made true z e = absurd (none-some z e)
none_made false z e = (refl, sym (same_Some _ _ e))

made_none : (b : Bool) → b ≡ false → (z : Outcome) × ((if b then None else Some None) ≡ Some z)
made_none true e = absurd (true≢false e)
made_none false e = (None, refl)

defined : (o : Arithmetic) (k : BitsKind) (b : ℕ) → divides o ≡ false → (r : Option ℕ) → (z : Outcome) × (checked o k b r ≡ Some z)
defined o k b e (Some v) = (Some (k, v), refl)
defined o k b e None = go (is_signed_remainder o && not (b == 0))
  where
    go : (c : Bool) → (z : Outcome) × ((if c then Some (Some (k, 0)) else no_value o) ≡ Some z)
    go true = (Some (k, 0), refl)
    go false = made_none (divides o) e

-- a division or remainder by a number that isn't 0, without overflow
abbrev Divides : Arithmetic → Type 0
Divides o =
    (k : BitsKind) (w a b : ℕ) → (b == 0) ≡ false → (is_signed_quotient (Some (rule.Binary o)) && (b == all_ones w)) ≡ false → divides o ≡ true → (z : Outcome) × (checked o k b (value_of o w a b) ≡ Some z)

quotient : Divides op.DivideSigned
unfolding signed_quotient_of
quotient k w a b e s d = go (b == 0) (a == least w) (b == all_ones w) (wrapped w (int_div (signed_of w a) (signed_of w b))) e s
  where
    go : (c l m : Bool) (q : ℕ) → c ≡ false → m ≡ false → (z : Outcome) × (checked op.DivideSigned k b (if not c && not (l && m) then Some q else None) ≡ Some z)
    go true l m q e s = absurd (true≢false e)
    go false l true q e s = absurd (true≢false s)
    go false true false q e s = (Some (k, q), refl)
    go false false false q e s = (Some (k, q), refl)

unsigned_quotient : Divides op.DivideUnsigned
unfolding quotient_of
unsigned_quotient k w a b e s d = go (b == 0) e
  where
    go : (c : Bool) → c ≡ false → (z : Outcome) × (checked op.DivideUnsigned k b (if c then None else Some (a / b)) ≡ Some z)
    go true e = absurd (true≢false e)
    go false e = (Some (k, a / b), refl)

unsigned_remainder : Divides op.RemainderUnsigned
unfolding remainder_of
unsigned_remainder k w a b e s d = go (b == 0) e
  where
    go : (c : Bool) → c ≡ false → (z : Outcome) × (checked op.RemainderUnsigned k b (if c then None else Some (a % b)) ≡ Some z)
    go true e = absurd (true≢false e)
    go false e = (Some (k, a % b), refl)

remainder : Divides op.RemainderSigned
remainder k w a b e s d = go (value_of op.RemainderSigned w a b)
  where
    by_test : (c : Bool) → c ≡ false → (z : Outcome) × ((if not c then Some (Some (k, 0)) else None) ≡ Some z)
    by_test true e = absurd (true≢false e)
    by_test false e = (Some (k, 0), refl)

    go : (r : Option ℕ) → (z : Outcome) × (checked op.RemainderSigned k b r ≡ Some z)
    go (Some v) = (Some (k, v), refl)
    go None = by_test (b == 0) e

divided : (o : Arithmetic) → Divides o
divided op.DivideSigned k w a b e s d = quotient k w a b e s d
divided op.DivideUnsigned k w a b e s d = unsigned_quotient k w a b e s d
divided op.RemainderSigned k w a b e s d = remainder k w a b e s d
divided op.RemainderUnsigned k w a b e s d = unsigned_remainder k w a b e s d
divided op.Add k w a b e s d = absurd (true≢false (sym d))
divided op.Subtract k w a b e s d = absurd (true≢false (sym d))
divided op.Multiply k w a b e s d = absurd (true≢false (sym d))
divided op.ShiftLeft k w a b e s d = absurd (true≢false (sym d))
divided op.And k w a b e s d = absurd (true≢false (sym d))
divided op.Or k w a b e s d = absurd (true≢false (sym d))
divided op.ExclusiveOr k w a b e s d = absurd (true≢false (sym d))
divided op.ShiftRightSigned k w a b e s d = absurd (true≢false (sym d))
divided op.ShiftRightUnsigned k w a b e s d = absurd (true≢false (sym d))
divided op.MaximumSigned k w a b e s d = absurd (true≢false (sym d))
divided op.MaximumUnsigned k w a b e s d = absurd (true≢false (sym d))
divided op.MinimumSigned k w a b e s d = absurd (true≢false (sym d))
divided op.MinimumUnsigned k w a b e s d = absurd (true≢false (sym d))

pub kinds_agree : (j k l : BitsKind) → j ≡ l → k ≡ l → same_kind j k ≡ true
kinds_agree j k l e f = ap (same_kind j) (f ∙ sym e) ∙ same_itself j

abbrev IsOf : BitsKind → Outcome → Type 0
IsOf k y = (x : Known) → y ≡ Some x → x.0 ≡ k

known_defined : (o : Arithmetic) (k : BitsKind) (x y : Known) → x.0 ≡ k → y.0 ≡ k → ((z : Outcome) × (checked o x.0 y.1 (value_of o (width_of x.0) x.1 y.1) ≡ Some z)) → (z : Outcome) × (known_pair o x y ≡ Some z)
known_defined o k x y e f r = go (same_kind x.0 y.0) (kinds_agree x.0 y.0 k e f)
  where
    go : (c : Bool) → c ≡ true → (z : Outcome) × ((if c then checked o x.0 y.1 (value_of o (width_of x.0) x.1 y.1) else None) ≡ Some z)
    go true e = r
    go false e = absurd (true≢false (sym e))

module _ (o : Arithmetic) (k : BitsKind) where
  -- a poison operand becomes known
  raised_first : (u y v z : Outcome) → IsOf k u → IsOf k v → refines y v ≡ true → (is_signed_quotient (Some (rule.Binary o)) && is_poison_by_ones (None ∷ y ∷ [])) ≡ false
      → (divides o && not (is_some_number y)) ≡ false → (w : Outcome) × (pair_outcome o u v ≡ Some w)
  raised_first None y v z hu hv f s e = made_none (divides o && not (is_some_number v)) (by_number (divides o) y v f e)
    where
      by_number : (d : Bool) (y v : Outcome) → refines y v ≡ true → (d && not (is_some_number y)) ≡ false → (d && not (is_some_number v)) ≡ false
      by_number false y v f e = refl
      by_number true None v f e = absurd (true≢false e)
      by_number true (Some b) v f e = ap (λ w. not (is_some_number w)) (value_refined b v f) ∙ e
  raised_first (Some a) None None z hu hv f s e = made_none (divides o) (no_division (divides o) e)
    where
      no_division : (d : Bool) → (d && true) ≡ false → d ≡ false
      no_division true e = absurd (true≢false e)
      no_division false e = refl
  raised_first (Some a) (Some b) None z hu hv f s e = absurd (true≢false (sym f))
  raised_first (Some a) None (Some v) z hu hv f s e =
      known_defined o k a v (hu a refl) (hv v refl) (defined o a.0 v.1 (no_division (divides o) e) (value_of o (width_of a.0) a.1 v.1))
    where
      no_division : (d : Bool) → (d && true) ≡ false → d ≡ false
      no_division true e = absurd (true≢false e)
      no_division false e = refl
  raised_first (Some a) (Some b) (Some v) z hu hv f s e = known_defined o k a v (hu a refl) (hv v refl) (go (divides o) refl e)
    where
      same : b ≡ v
      same = one_known b v f

      widths : width_of a.0 ≡ width_of b.0
      widths = ap width_of (hu a refl ∙ sym (hv v refl) ∙ ap (λ (x : Known). x.0) (sym same))

      is_one : (c : Bool) → not (not c) ≡ false → c ≡ false
      is_one true e = absurd (true≢false e)
      is_one false e = refl

      go : (d : Bool) → divides o ≡ d → (d && not (not (b.1 == 0))) ≡ false → (w : Outcome) × (checked o a.0 v.1 (value_of o (width_of a.0) a.1 v.1) ≡ Some w)
      go false d e = defined o a.0 v.1 d (value_of o (width_of a.0) a.1 v.1)
      go true d e =
          divided o a.0 (width_of a.0) a.1 v.1 (subst (λ (x : Known). (x.1 == 0) ≡ false) same (is_one (b.1 == 0) e))
          (subst (λ (x : Known). (is_signed_quotient (Some (rule.Binary o)) && (x.1 == all_ones (width_of a.0))) ≡ false) same (subst (λ w. (is_signed_quotient (Some (rule.Binary o)) && (b.1 == all_ones w)) ≡ false) (sym widths) s)) d

  raised_second : (a : Known) (v z : Outcome) → a.0 ≡ k → IsOf k v → pair_outcome o (Some a) None ≡ Some z → Gives z (pair_outcome o (Some a) v)
  raised_second a None z h hv m = gives_same z (no_value o) (no_value o) m refl
  raised_second a (Some b) z h hv m =
      let n = none_made (divides o) z m in
      gives_some z (known_pair o a b) n.1 (known_defined o k a b h (hv b refl) (defined o a.0 b.1 n.0 (value_of o (width_of a.0) a.1 b.1)))

  pub pair_better : (x y u v z : Outcome) → IsOf k u → IsOf k v → refines x u ≡ true → refines y v ≡ true → (is_signed_quotient (Some (rule.Binary o)) && is_poison_by_ones (x ∷ y ∷ [])) ≡ false
      → pair_outcome o x y ≡ Some z → Gives z (pair_outcome o u v)
  pair_better (Some a) (Some b) u v z hu hv e f s m =
      let p = sym (value_refined a u e) in
      let q = sym (value_refined b v f) in
      gives_same z (pair_outcome o (Some a) (Some b)) (pair_outcome o u v) m (λ i. pair_outcome o (p i) (q i))
  pair_better (Some a) None u v z hu hv e f s m =
      let p = value_refined a u e in
      subst (λ w. Gives z (pair_outcome o w v)) (sym p) (raised_second a v z (hu a p) hv m)
  pair_better None y u v z hu hv e f s m =
      let n = none_made (divides o && not (is_some_number y)) z m in
      gives_some z (pair_outcome o u v) n.1 (raised_first u y v z hu hv f s n.0)

-- ---- comparisons
module _ (p : Predicate) where
  compared : (k : BitsKind) (u v : Outcome) → IsOf k u → IsOf k v → (z : Outcome) × (compare_outcome p u v ≡ Some z)
  compared k None v hu hv = (None, refl)
  compared k (Some a) None hu hv = (None, refl)
  compared k (Some a) (Some b) hu hv = go (same_kind a.0 b.0) (kinds_agree a.0 b.0 k (hu a refl) (hv b refl))
    where
      go : (c : Bool) → c ≡ true → (z : Outcome) × ((if c then Some (Some (kind.Int 1, truth (comparison_of (width_of a.0) p a.1 b.1))) else None) ≡ Some z)
      go true e = (_, refl)
      go false e = absurd (true≢false (sym e))

  compare_better : (k : BitsKind) (x y u v z : Outcome) → IsOf k u → IsOf k v → refines x u ≡ true → refines y v ≡ true → compare_outcome p x y ≡ Some z → Gives z (compare_outcome p u v)
  compare_better k (Some a) (Some b) u v z hu hv e f m =
      let g = sym (value_refined a u e) in
      let h = sym (value_refined b v f) in
      gives_same z (compare_outcome p (Some a) (Some b)) (compare_outcome p u v) m (λ i. compare_outcome p (g i) (h i))
  compare_better k (Some a) None u v z hu hv e f m = gives_some z (compare_outcome p u v) (sym (same_Some _ _ m)) (compared k u v hu hv)
  compare_better k None y u v z hu hv e f m = gives_some z (compare_outcome p u v) (sym (same_Some _ _ m)) (compared k u v hu hv)

-- ---- selects
chosen_better : (c : ℕ) (x y u v z : Outcome) → refines x u ≡ true → refines y v ≡ true → Some (choice_of c x y) ≡ Some z → Gives z (Some (choice_of c u v))
chosen_better c x y u v z e f m = (choice_of c u v, refl, subst (λ w. refines w (choice_of c u v) ≡ true) (same_Some _ _ m) (go (c == 0)))
  where
    go : (b : Bool) → refines (if b then y else x) (if b then v else u) ≡ true
    go true = f
    go false = e

select_known : (c : Known) (x y u v z : Outcome) → refines x u ≡ true → refines y v ≡ true → select_outcome (Some c) x y ≡ Some z → Gives z (select_outcome (Some c) u v)
select_known c x y u v z e f m = go (same_kind c.0 (kind.Int 1)) m
  where
    go : (b : Bool) → (if b then Some (choice_of c.1 x y) else None) ≡ Some z → Gives z (if b then Some (choice_of c.1 u v) else None)
    go true m = chosen_better c.1 x y u v z e f m
    go false m = absurd (none-some z m)

selected : (d u v : Outcome) → IsOf (kind.Int 1) d → (z : Outcome) × (select_outcome d u v ≡ Some z)
selected None u v h = (None, refl)
selected (Some d) u v h = go (same_kind d.0 (kind.Int 1)) (ap (λ k. same_kind k (kind.Int 1)) (h d refl))
  where
    go : (c : Bool) → c ≡ true → (z : Outcome) × ((if c then Some (choice_of d.1 u v) else None) ≡ Some z)
    go true e = (_, refl)
    go false e = absurd (true≢false (sym e))

select_better : (c x y d u v z : Outcome) → IsOf (kind.Int 1) d → refines c d ≡ true → refines x u ≡ true → refines y v ≡ true → select_outcome c x y ≡ Some z → Gives z (select_outcome d u v)
select_better None x y d u v z h g e f m = gives_some z (select_outcome d u v) (sym (same_Some _ _ m)) (selected d u v h)
select_better (Some c) x y d u v z h g e f m =
    subst (λ w. Gives z (select_outcome w u v)) (sym (value_refined c d g)) (select_known c x y u v z e f m)

-- ---- casts
cast_defined : (c : Cast) (k : BitsKind) (j : Option BitsKind) (a : Known) → narrows c j k ≡ true → ((i : BitsKind) → j ≡ Some i → a.0 ≡ i) → (z : Outcome) × (given (cast_of c (width_of a.0) (width_of k) a.1) (λ b. Some (Some (k, b))) ≡ Some z)
unfolding truncated
cast_defined c k None a n h = absurd (true≢false (sym n))
cast_defined cast.ExtendSigned k (Some j) a n h = (_, refl)
cast_defined cast.ExtendUnsigned k (Some j) a n h = (_, refl)
cast_defined cast.Truncate k (Some j) a n h = cut a.1 (width_of a.0) (width_of k) (subst (λ i. nat_lt (width_of k) (width_of i) ≡ true) (sym (h j refl)) n)
  where
    cut : (a v w : ℕ) → nat_lt w v ≡ true → (z : Outcome) × (given (truncated v w a) (λ b. Some (Some (k, b))) ≡ Some z)
    cut a v w n = go (nat_lt w v) n
      where
        go : (b : Bool) → b ≡ true → (z : Outcome) × (given (if b then Some (a % 2 ^ w) else None) (λ b. Some (Some (k, b))) ≡ Some z)
        go true e = (Some (k, a % 2 ^ w), refl)
        go false e = absurd (true≢false (sym e))

pub resize_better : (c : Cast) (k : BitsKind) (j : Option BitsKind) (x u z : Outcome) → narrows c j k ≡ true → ((i : BitsKind) (a : Known) → j ≡ Some i → u ≡ Some a → a.0 ≡ i) → refines x u ≡ true → resize_outcome c k x ≡ Some z → Gives z (resize_outcome c k u)
resize_better c k j (Some a) u z n h e m = let p = sym (value_refined a u e) in gives_same z (resize_outcome c k (Some a)) (resize_outcome c k u) m (λ i. resize_outcome c k (p i))
resize_better c k j None u z n h e m = go (is_width (width_of k)) m
  where
    any : (u : Outcome) → ((i : BitsKind) (a : Known) → j ≡ Some i → u ≡ Some a → a.0 ≡ i) → (z : Outcome) × (resize_any c k u ≡ Some z)
    any None h = (None, refl)
    any (Some a) h = cast_defined c k j a n (λ i g. h i a g refl)

    go : (b : Bool) → (if b then Some None else None) ≡ Some z → Gives z (if b then resize_any c k u else None)
    go true m = gives_some z (resize_any c k u) (sym (same_Some _ _ m)) (any u h)
    go false m = absurd (none-some z m)

-- ---- an operation
pub kind_of_operand : (k : BitsKind) (j : Option BitsKind) (y : Outcome) → is_kind k j ≡ true → ((l : BitsKind) (x : Known) → j ≡ Some l → y ≡ Some x → x.0 ≡ l) → IsOf k y
kind_of_operand k None y e h = absurd (true≢false (sym e))
kind_of_operand k (Some j) y e h = λ x g. h j x refl g ∙ same_kinds j k e

module _ (h : Header) (k : BitsKind) where
  abbrev Result : Rule → Type 0
  Result r =
      (js : List (Option BitsKind)) (xs ys : List Outcome) (x : Outcome) → takes r h k js ≡ true → AreOf js ys → (is_signed_quotient (Some r) && is_poison_by_ones xs) ≡ false → AllBetter xs ys
      → makes_by r h k xs ≡ Some x → Gives x (makes_by r h k ys)

  by_pair : (o : Arithmetic) → Result (rule.Binary o)
  by_pair o [] xs ys x t of s b m = absurd (true≢false (sym t))
  by_pair o (i ∷ []) xs ys x t of s b m = absurd (true≢false (sym t))
  by_pair o (i ∷ j ∷ l ∷ js) xs ys x t of s b m = absurd (true≢false (sym t))
  by_pair o (i ∷ j ∷ []) [] ys x t of s b m = absurd (none-some x m)
  by_pair o (i ∷ j ∷ []) (p ∷ []) ys x t of s b m = absurd (none-some x m)
  by_pair o (i ∷ j ∷ []) (p ∷ q ∷ r ∷ xs) ys x t of s b m = absurd (none-some x m)
  by_pair o (i ∷ j ∷ []) (p ∷ q ∷ []) [] x t of s b m = absurd b
  by_pair o (i ∷ j ∷ []) (p ∷ q ∷ []) (u ∷ []) x t of s b m = absurd b.1
  by_pair o (i ∷ j ∷ []) (p ∷ q ∷ []) (u ∷ v ∷ w ∷ ys) x t of s b m = absurd b.1.1
  by_pair o (i ∷ j ∷ []) (p ∷ q ∷ []) (u ∷ v ∷ []) x t of s b m =
      let g = and_parts (is_kind k i) (is_kind k j) t in
      pair_better o k p q u v x (kind_of_operand k i u g.0 of.0) (kind_of_operand k j v g.1 of.1.0) b.0 b.1.0 s m

  compares_parts : (i j : Option BitsKind) → compares k i j ≡ true → (l : BitsKind) × (i ≡ Some l) × (is_kind l j ≡ true)
  compares_parts None j e = absurd (true≢false (sym e))
  compares_parts (Some l) j e = (l, refl, (and_parts (is_kind l j) (same_kind (kind.Int 1) k) e).0)

  by_compare : Result rule.Compare
  by_compare [] xs ys x t of s b m = absurd (true≢false (sym t))
  by_compare (i ∷ []) xs ys x t of s b m = absurd (true≢false (sym t))
  by_compare (i ∷ j ∷ l ∷ js) xs ys x t of s b m = absurd (true≢false (sym t))
  by_compare (i ∷ j ∷ []) xs ys x t of s b m =
      let a = given_some (requested (property_of (codes "predicate") h.properties)) (λ p. of_two (compare_outcome p) xs) x m in
      subst (λ o. Gives x (given o (λ p. of_two (compare_outcome p) ys))) (sym a.1) (go a.0 xs ys of b a.2)
    where
      go : (p : Predicate) (xs ys : List Outcome) → AreOf (i ∷ j ∷ []) ys → AllBetter xs ys → of_two (compare_outcome p) xs ≡ Some x → Gives x (of_two (compare_outcome p) ys)
      go p [] ys of b m = absurd (none-some x m)
      go p (c ∷ []) ys of b m = absurd (none-some x m)
      go p (c ∷ q ∷ r ∷ xs) ys of b m = absurd (none-some x m)
      go p (c ∷ q ∷ []) [] of b m = absurd b
      go p (c ∷ q ∷ []) (u ∷ []) of b m = absurd b.1
      go p (c ∷ q ∷ []) (u ∷ v ∷ w ∷ ys) of b m = absurd b.1.1
      go p (c ∷ q ∷ []) (u ∷ v ∷ []) of b m =
          let g = compares_parts i j t in
          compare_better p g.0 c q u v x (kind_of_operand g.0 i u (ap (is_kind g.0) g.1 ∙ same_itself g.0) of.0) (kind_of_operand g.0 j v g.2 of.1.0) b.0 b.1.0 m

  by_select : Result rule.Select
  by_select [] xs ys x t of s b m = absurd (true≢false (sym t))
  by_select (i ∷ []) xs ys x t of s b m = absurd (true≢false (sym t))
  by_select (i ∷ j ∷ []) xs ys x t of s b m = absurd (true≢false (sym t))
  by_select (i ∷ j ∷ l ∷ n ∷ js) xs ys x t of s b m = absurd (true≢false (sym t))
  by_select (i ∷ j ∷ l ∷ []) [] ys x t of s b m = absurd (none-some x m)
  by_select (i ∷ j ∷ l ∷ []) (c ∷ []) ys x t of s b m = absurd (none-some x m)
  by_select (i ∷ j ∷ l ∷ []) (c ∷ p ∷ []) ys x t of s b m = absurd (none-some x m)
  by_select (i ∷ j ∷ l ∷ []) (c ∷ p ∷ q ∷ r ∷ xs) ys x t of s b m = absurd (none-some x m)
  by_select (i ∷ j ∷ l ∷ []) (c ∷ p ∷ q ∷ []) [] x t of s b m = absurd b
  by_select (i ∷ j ∷ l ∷ []) (c ∷ p ∷ q ∷ []) (d ∷ []) x t of s b m = absurd b.1
  by_select (i ∷ j ∷ l ∷ []) (c ∷ p ∷ q ∷ []) (d ∷ u ∷ []) x t of s b m = absurd b.1.1
  by_select (i ∷ j ∷ l ∷ []) (c ∷ p ∷ q ∷ []) (d ∷ u ∷ v ∷ w ∷ ys) x t of s b m = absurd b.1.1.1
  by_select (i ∷ j ∷ l ∷ []) (c ∷ p ∷ q ∷ []) (d ∷ u ∷ v ∷ []) x t of s b m =
      let g = and_parts (is_kind (kind.Int 1) i) (is_kind k j && is_kind k l) t in
      select_better c p q d u v x (kind_of_operand (kind.Int 1) i d g.0 of.0) b.0 b.1.0 b.1.1.0 m

  by_resize : (c : Cast) (js : List (Option BitsKind)) (xs ys : List Outcome) (x : Outcome) → takes (rule.IntegerCast c) h k js ≡ true → AreOf js ys → AllBetter xs ys → of_one (resize_outcome c k) xs ≡ Some x → Gives x (of_one (resize_outcome c k) ys)
  by_resize c [] xs ys x t of b m = absurd (true≢false (sym t))
  by_resize c (j ∷ l ∷ js) xs ys x t of b m = absurd (true≢false (sym t))
  by_resize c (j ∷ []) [] ys x t of b m = absurd (none-some x m)
  by_resize c (j ∷ []) (p ∷ q ∷ xs) ys x t of b m = absurd (none-some x m)
  by_resize c (j ∷ []) (p ∷ []) [] x t of b m = absurd b
  by_resize c (j ∷ []) (p ∷ []) (u ∷ v ∷ ys) x t of b m = absurd b.1
  by_resize c (j ∷ []) (p ∷ []) (u ∷ []) x t of b m = resize_better c k j p u x t of.0 b.0 m

  by_rule : (r : Rule) → Result r
  by_rule rule.Constant js xs ys x t of s b m = gives_same x (makes_by rule.Constant h k xs) (makes_by rule.Constant h k ys) m refl
  by_rule (rule.Binary o) js xs ys x t of s b m = by_pair o js xs ys x t of s b m
  by_rule rule.Compare js xs ys x t of s b m = by_compare js xs ys x t of s b m
  by_rule rule.Select js xs ys x t of s b m = by_select js xs ys x t of s b m
  by_rule (rule.IntegerCast c) js xs ys x t of s b m = by_resize c js xs ys x t of b m
  by_rule (rule.IndexCast c) js xs ys x t of s b m = by_index_cast c js xs ys x t of b m
    where
      by_index_cast : (c : Cast) (js : List (Option BitsKind)) (xs ys : List Outcome) (x : Outcome) → takes (rule.IndexCast c) h k js ≡ true → AreOf js ys → AllBetter xs ys → of_one (resize_outcome c k) xs ≡ Some x → Gives x (of_one (resize_outcome c k) ys)
      by_index_cast c [] xs ys x t of b m = absurd (true≢false (sym t))
      by_index_cast c (j ∷ l ∷ js) xs ys x t of b m = absurd (true≢false (sym t))
      by_index_cast c (j ∷ []) xs ys x t of b m = by_resize c (j ∷ []) xs ys x t of b m

pub monotone : Monotone
monotone h js xs ys x t of s b m =
    let r = given_some (rule_of h.name) (λ r. given (result_kind h) (λ k. makes_by r h k xs)) x m in
    let k = given_some (result_kind h) (λ k. makes_by r.0 h k xs) x r.2 in
    let g =
    by_rule h k.0 r.0 js xs ys x (and_parts (is_width (width_of k.0)) (takes r.0 h k.0 js) (subst (λ q. takes_its (Some r.0) q h js ≡ true) k.1 (subst (λ q. takes_its q (result_kind h) h js ≡ true) r.1 t))).1 of (subst (λ q. (is_signed_quotient q && is_poison_by_ones xs) ≡ false) r.1 s) b k.2 in
    record { outcome = g.0; is_made = makes_is h ys r.0 k.0 r.1 k.1 ∙ g.1; better = g.2 }
