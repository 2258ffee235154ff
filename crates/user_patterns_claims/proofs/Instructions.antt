-- Translated instructions compute what the steps of a pattern compute.
use Rattle.std.proofs.Common.{◌≡◌, ◌∙◌, inl, inr, ℕ, zero, suc, ◌+◌, ◌-◌, ◌*◌, ◌%◌, bit_and, bit_xor, ◌^◌, ◌<◌, ◌≤◌, ◌==◌, List, [], ◌∷◌, ◌++◌, map, Bool, true, false, true≢false, ◌||◌, nat_lt, if◌then◌else◌, Option, Some, None, slice_get, refl, sym, ap, subst, arith}
use Rattle.std.specs.List.{list_all, list_any}
use Rattle.std.proofs.lemmas.Bool.{and_parts, eqb-true, or_left}
use Rattle.std.proofs.lemmas.Nat.{and_mask, pow_pos}
use Rattle.std.specs.Int.Bits.{xor_add_and}
use Rattle.std.proofs.Math.Nat.{add-mul-mod_self_right, mod-eq_of_lt, mod_self}
use Rattle.std.proofs.Math.Pow.{pow-lt}
use Rattle.std.proofs.lemmas.Bool.Decides.{nat_tests}
use Rattle.std.proofs.lemmas.Option.{none-some, same_Some}
use Rattle.ir_types.specs.declared.bits.BitsKind.{BitsKind}
use Rattle.ir_types.specs.Bits.{width_of}
use Rattle.ir_types.specs.Limits.{most_width}
use Rattle.ir_types.specs.Readings.{literal_number, wrapped}
use Rattle.ir_types.proofs.Widths.{literal_low}
use Rattle.ir_types.specs.Reasons.{is_width}
use Rattle.dialects_int.specs.declared.operations.Arithmetic.TheVariants as op
use Rattle.dialects_int.specs.Arithmetic.{difference_of, truth}
use Rattle.dialects_int.proofs.Widths.{difference_is}
use Rattle.user_patterns_check.specs.declared.step.Step.{Step}
use Rattle.user_patterns_check.specs.declared.step.Step.TheVariants as step
use Rattle.user_patterns_check.specs.Outcomes as outcomes
use Rattle.user_patterns_check.specs.Outcomes.{Outcome, compare_outcome, given, log_of, log_outcome, pair_outcome, resize_outcome, run, select_outcome, step_of}
use Rattle.user_patterns_check.proofs.Found.{below_some}
use Rattle.user_patterns_data.specs.declared.pattern.PatternType.{PatternType}
use Rattle.user_patterns_data.specs.declared.pattern.Literal.{Literal}
use Rattle.user_patterns_data.specs.Fitting.{again_step, is_literal_of, kind_at, width_step, written_step}
use Rattle.width_claims.specs.declared.form.Form.TheVariants as form
use Rattle.width_claims.specs.declared.form.Expr.{Expr}
use Rattle.width_claims.specs.declared.width.Narrower.{Narrower}
use Rattle.width_claims.specs.PatternOpValues.{at, pattern_op_value}
use Rattle.width_claims.specs.Right.{AreNarrower, IsRight}
use Rattle.user_patterns_instructions.specs.declared.instruction.Instruction.{Instruction}
use Rattle.user_patterns_instructions.specs.declared.instruction.Instruction.TheVariants as instruction
use Rattle.user_patterns_instructions.specs.declared.operand.Operand.{Operand}
use Rattle.user_patterns_instructions.specs.declared.operand.Poison.{Poison}
use Rattle.user_patterns_instructions.specs.declared.operand.Poison.TheVariants as poison
use Rattle.user_patterns_claims.specs.Outcomes.{AreKindsOf, are_kinds}
use Rattle.user_patterns_instructions.specs.Expressions.{Result, compare_result, divide_result, literal_form, operand_at, pair_result, push_expr, resize_result, select_result, type_at, unknown}
use Rattle.user_patterns_claims.specs.Translation.{State, all_translated, literal_result, log_state, number_state, power_made, power_there, required, result_of, top_power, translated, unchanged, with_condition, with_fitting, with_number, with_result, with_some}
use Rattle.user_patterns_instructions.proofs.PatternOps.{Base, Grown, Is, base_on, grown_next, made, makes_next, makes_same, pattern_op_types, same, values}
use Rattle.user_patterns_instructions.proofs.Forms.{put_less, put_number, put_subtract, put_xor}
use Rattle.user_patterns_instructions.proofs.Flags.{PoisonIs}
use Rattle.user_patterns_instructions.proofs.Operands.{Divides, Gives, GivesSome, Stands, again, compare_gives, divide_gives, outcome_by, pair_gives, resize_gives, select_gives, stands_still, width_is}
use Rattle.user_patterns_claims.proofs.Typing.{top_low, top_some, TypeIs, claim_kinds, literal_is, type_is}

-- the step of an instruction
abbrev pub instruction_step : List BitsKind → Instruction → Step
instruction_step ks (instruction.Number l) = written_step ks l
instruction_step ks (instruction.Copy i) = again_step i
instruction_step ks (instruction.Pair o i j) = step.Binary o i j
instruction_step ks (instruction.Divide i j) = step.Binary op.DivideSigned i j
instruction_step ks (instruction.Compare q i j) = step.Compare q i j
instruction_step ks (instruction.Select c i j) = step.Select c i j
instruction_step ks (instruction.Resize c t i) = step.IntegerCast c (kind_at ks t) i
instruction_step ks (instruction.Require i) = step.Require i
instruction_step ks (instruction.Width t) = width_step (kind_at ks t)
instruction_step ks (instruction.Log i) = step.Log2 i

abbrev pub instruction_fits : List BitsKind → Instruction → Bool
instruction_fits ks (instruction.Number l) = is_literal_of ks l
instruction_fits ks _ = true

-- whether an instruction may be undefined although claims express it
abbrev pub is_partial : Instruction → Bool
is_partial (instruction.Require i) = true
is_partial (instruction.Log i) = true
is_partial (instruction.Divide i j) = true
is_partial _ = false

-- ---- powers of two

-- 2^k - 1 is less than the exclusive disjunction of 2^k and 2^k - 1
power_is : (w k : ℕ) → k < w → nat_lt (difference_of w (2 ^ k) 1) (bit_xor (2 ^ k) (difference_of w (2 ^ k) 1)) ≡ true
power_is w k l =
    let p = pow_pos k in
    let g = pow-lt l in
    let e : 2 ^ k + (2 ^ w - 1) ≡ (2 ^ k - 1) + 1 * 2 ^ w = omega (arith, p, g) in
    let less : difference_of w (2 ^ k) 1 ≡ 2 ^ k - 1 = difference_is w (2 ^ k) 1 (omega (arith, p, g)) ∙ ap (λ n. n % 2 ^ w) e ∙ add-mul-mod_self_right (2 ^ k - 1) 1 (2 ^ w) ∙ mod-eq_of_lt (omega (arith, g)) in
    let none : bit_and (2 ^ k) (2 ^ k - 1) ≡ 0 = and_mask (2 ^ k) k ∙ mod_self (2 ^ k) in
    let sum = xor_add_and (2 ^ k) (2 ^ k - 1) in
    (λ i. nat_lt (less i) (bit_xor (2 ^ k) (less i))) ∙ surely (2 ^ k - 1) (bit_xor (2 ^ k) (2 ^ k - 1)) (omega (arith, none, sum, p))
  where
    surely : (a b : ℕ) → a < b → nat_lt a b ≡ true
    surely a b h = grind (arith, nat_tests)

-- a number with a logarithm is a power of two
log_is : (w a k : ℕ) → log_of w a ≡ Some k → (k < w) × (a ≡ 2 ^ k)
unfolding log_of
log_is w a k e =
    let r = below_some (λ j. if a == 2 ^ j then Some j else None) w k e in
    let h = hit r.0 (a == 2 ^ r.0) refl r.2 in
    (subst (λ (j : ℕ). j < w) h.0 r.1, h.1 ∙ ap (λ j. 2 ^ j) h.0)
  where
    hit : (j : ℕ) (b : Bool) → (a == 2 ^ j) ≡ b → (if b then Some j else None) ≡ Some k → (j ≡ k) × (a ≡ 2 ^ j)
    hit j true f g = (same_Some j k g, eqb-true a (2 ^ j) f)
    hit j false f g = absurd (none-some k g)

module _ (W : ℕ) (most : most_width ≤ W) (vs : List ℕ) (value_types : List PatternType) (ks : List BitsKind) (aligned : AreKindsOf value_types ks) (wide : are_kinds ks ≡ true) where
  abbrev pub js : List BitsKind
  js = claim_kinds value_types ks

  abbrev pub ws : List ℕ
  ws = map width_of js

  abbrev pub EditsDenote : List Expr → Operand → Outcome → Type 0
  EditsDenote ps o x = Stands W vs js refl ps o x

  -- operands represent outcomes, if they are known
  abbrev pub StandsIf : Bool → List Expr → Operand → Outcome → Type 0
  StandsIf true ps o x = EditsDenote ps o x
  StandsIf false ps o x = Unit {0}

  abbrev pub AllStand : List Expr → List Operand → List Outcome → Type 0
  AllStand ps [] [] = Unit {0}
  AllStand ps (o ∷ os) (x ∷ xs) = StandsIf o.known ps o x × AllStand ps os xs
  AllStand ps _ _ = ⊥

  -- the expressions at these places are 1
  abbrev pub AllOnes : List Expr → List ℕ → Type 0
  AllOnes ps [] = Unit {0}
  AllOnes ps (h ∷ hs) = Is W vs ws ps h 0 1 × AllOnes ps hs

  pub record Holds (s : State) (env : List Outcome) : Type 0 where
    pub base : Base W vs ws s.exprs
    pub all : AllStand s.exprs s.operands env
    pub ones : AllOnes s.exprs s.conditions

  if_still : (ps qs : List Expr) (o : Operand) (x : Outcome) → Grown W vs ws ps qs → (b : Bool) → StandsIf b ps o x → StandsIf b qs o x
  if_still ps qs o x g true s = stands_still W vs js refl ps qs o x g s
  if_still ps qs o x g false s = tt

  if_stands : (ps : List Expr) (o : Operand) (x : Outcome) → EditsDenote ps o x → (b : Bool) → StandsIf b ps o x
  if_stands ps o x s true = s
  if_stands ps o x s false = tt

  all_still : (ps qs : List Expr) (os : List Operand) (xs : List Outcome) → Grown W vs ws ps qs → AllStand ps os xs → AllStand qs os xs
  all_still ps qs [] [] g a = tt
  all_still ps qs [] (x ∷ xs) g a = absurd a
  all_still ps qs (o ∷ os) [] g a = absurd a
  all_still ps qs (o ∷ os) (x ∷ xs) g a = (if_still ps qs o x g o.known a.0, all_still ps qs os xs g a.1)

  all_more : (ps : List Expr) (os : List Operand) (xs : List Outcome) (o : Operand) (x : Outcome) → AllStand ps os xs → StandsIf o.known ps o x → AllStand ps (os ++ o ∷ []) (xs ++ x ∷ [])
  all_more ps [] [] o x a s = (s, tt)
  all_more ps [] (y ∷ xs) o x a s = absurd a
  all_more ps (p ∷ os) [] o x a s = absurd a
  all_more ps (p ∷ os) (y ∷ xs) o x a s = (a.0, all_more ps os xs o x a.1 s)

  pub ones_still : (ps qs : List Expr) (hs : List ℕ) → Grown W vs ws ps qs → AllOnes ps hs → AllOnes qs hs
  ones_still ps qs [] g a = tt
  ones_still ps qs (h ∷ hs) g a = (g.kept h 0 1 a.0, ones_still ps qs hs g a.1)

  ones_more : (ps : List Expr) (hs : List ℕ) (h : ℕ) → AllOnes ps hs → Is W vs ws ps h 0 1 → AllOnes ps (hs ++ h ∷ [])
  ones_more ps [] h a s = (s, tt)
  ones_more ps (g ∷ hs) h a s = (a.0, ones_more ps hs h a.1 s)

  -- the operand at a place represents the outcome there
  pub record Found (ps : List Expr) (o : Operand) (x : Option Outcome) : Type 0 where
    pub outcome : Outcome
    pub is : x ≡ Some outcome
    pub stands : EditsDenote ps o outcome

  pub found : (ps : List Expr) (os : List Operand) (xs : List Outcome) (i : ℕ) (o : Operand) → AllStand ps os xs → operand_at os i ≡ Some o → Found ps o (slice_get xs i)
  found ps [] xs i o a e = absurd (none-some o e)
  found ps (p ∷ os) [] i o a e = absurd a
  found ps (p ∷ os) (x ∷ xs) zero o a e = here p.known a.0 e
    where
      here : (b : Bool) → StandsIf b ps p x → (if b then Some p else None) ≡ Some o → Found ps o (Some x)
      here true s f = record { outcome = x; is = refl; stands = subst (λ (q : Operand). EditsDenote ps q x) (same_Some p o f) s }
      here false s f = absurd (none-some o f)
  found ps (p ∷ os) (x ∷ xs) (suc i) o a e = found ps os xs i o a.1 e

  -- the state after a step
  pub record Reached (s next : State) (env : List Outcome) : Type 0 where
    pub grown : Grown W vs ws s.exprs next.exprs
    pub holds : Holds next env

  -- only a condition may be undefined
  abbrev pub Goes : Bool → State → List Outcome → Option Outcome → Option State → Type 0
  Goes may s env r None = Unit {0}
  Goes may s env None (Some next) = may ≡ true
  Goes may s env (Some x) (Some next) = Reached s next (env ++ x ∷ [])

  pub reached : (s : State) (env : List Outcome) (r : Result) (x : Outcome) → Holds s env → Grown W vs ws s.exprs r.0 → EditsDenote r.0 r.1 x → Reached s (with_result s r) (env ++ x ∷ [])
  reached s env r x h g a =
      record {
        grown = g;
        holds = record {
          base = base_on W vs ws s.exprs r.0 h.base g;
          all = all_more r.0 s.operands env r.1 x (all_still s.exprs r.0 s.operands env g h.all) (if_stands r.0 r.1 x a r.1.known);
          ones = ones_still s.exprs r.0 s.conditions g h.ones;
        };
      }

  gives_goes : (may : Bool) (s : State) (env : List Outcome) (r : Option Outcome) (q : Result) → Holds s env → Gives W vs js refl s.exprs r q → Goes may s env r (Some (with_result s q))
  gives_goes may s env r q h a = subst (λ (o : Option Outcome). Goes may s env o (Some (with_result s q))) (sym a.is) (reached s env q a.outcome h a.grown a.stands)

  some_goes : (may : Bool) (s : State) (env : List Outcome) (r : Option Outcome) (q : Option Result) → Holds s env → GivesSome W vs js refl s.exprs r q → Goes may s env r (with_some s q)
  some_goes may s env r None h a = tt
  some_goes may s env r (Some q) h a = gives_goes may s env r q h a

  abbrev GivesHere : List Expr → Option Outcome → Option Result → Type 0
  GivesHere ps r q = GivesSome W vs js refl ps r q

  module _ (s : State) (env : List Outcome) (h : Holds s env) where
    with_operand : {X : Type 0} (P : Option Outcome → Option X → Type 0) → ((r : Option Outcome) → P r None) → (i : ℕ) (f : Operand → Option X) (g : Outcome → Option Outcome)
        → ((o : Operand) (x : Outcome) → EditsDenote s.exprs o x → P (g x) (f o)) → P (given (slice_get env i) g) (given (operand_at s.operands i) f)
    with_operand P none i f g each = go (operand_at s.operands i) refl
      where
        go : (o : Option Operand) → operand_at s.operands i ≡ o → P (given (slice_get env i) g) (given o f)
        go None e = none (given (slice_get env i) g)
        go (Some o) e =
            let a = found s.exprs s.operands env i o h.all e in
            subst (λ (x : Option Outcome). P (given x g) (f o)) (sym a.is) (each o a.outcome a.stands)

    by_operand : (i : ℕ) (f : Operand → Option Result) (g : Outcome → Option Outcome) → ((o : Operand) (x : Outcome) → EditsDenote s.exprs o x → GivesHere s.exprs (g x) (f o))
        → GivesHere s.exprs (given (slice_get env i) g) (given (operand_at s.operands i) f)
    by_operand i f g each = with_operand (GivesHere s.exprs) (λ r. tt) i f g each

    with_type : {X : Type 0} (P : Option X → Type 0) → P None → (t : ℕ) (f : ℕ → Option X) → ((u : ℕ) → TypeIs W value_types ks t u → P (f u)) → P (given (type_at value_types t) f)
    with_type P none t f each = go (type_at value_types t) refl
      where
        go : (o : Option ℕ) → type_at value_types t ≡ o → P (given o f)
        go None e = none
        go (Some u) e = each u (type_is W most value_types ks t u aligned wide e)

    -- ---- literals
    literal_gives : (l : Literal) (u : ℕ) → TypeIs W value_types ks l.ty u → is_literal_of ks l ≡ true → Gives W vs js refl s.exprs (step_of (written_step ks l) env) (literal_result l s.exprs u)
    literal_gives l u t e =
        let is = literal_is W value_types ks l u t e in
        let w = at ws u in
        let w_is : w ≡ width_of (kind_at ks l.ty) = width_is js u ∙ ap width_of t.same in
        let x = wrapped w (literal_number l.negative l.magnitude) in
        let low : l.magnitude < 2 ^ w = subst (λ (n : ℕ). l.magnitude < 2 ^ n) (sym w_is) is.below in
        let a = made W vs ws s.exprs u (literal_form l) x h.base.right t.low (right l.negative w low) (value l.negative w) in
        record {
          outcome = Some (kind_at js u, x);
          is = is.outcome ∙ (λ r. Some (Some (sym t.same r, wrapped (sym w_is r) (literal_number l.negative l.magnitude))));
          grown = a.grown;
          stands = record { number = x; poisoned = false; number_is = a.is; poison_is = refl; is = refl; written_is = (refl, low, refl) };
        }
      where
        right : (b : Bool) (w : ℕ) → l.magnitude < 2 ^ w → IsRight W ws (pattern_op_types s.exprs) w (if b then form.Negative l.magnitude else form.Literal l.magnitude)
        right true w g = g
        right false w g = tt

        value : (b : Bool) (w : ℕ) → pattern_op_value ws vs w (if b then form.Negative l.magnitude else form.Literal l.magnitude) (values W vs ws s.exprs) ≡ wrapped w (literal_number b l.magnitude)
        value true w = refl
        value false w = refl

  -- a literal, and the condition that it is in range
  module _ (s : State) (env : List Outcome) (h : Holds s env) (l : Literal) (u : ℕ) (t : TypeIs W value_types ks l.ty u) (fits_in : is_literal_of ks l ≡ true) where
    abbrev made_literal : Result
    made_literal = literal_result l s.exprs u

    power_there_is : nat_lt l.magnitude 2 ≡ false → Reached s (with_fitting s made_literal (power_there (push_expr made_literal.0 u (form.Literal (top_power l.magnitude l.magnitude))))) (env ++ (literal_gives s env h l u t fits_in).outcome ∷ [])
    power_there_is e =
        let r = made_literal in
        let g = literal_gives s env h l u t fits_in in
        let is = literal_is W value_types ks l u t fits_in in
        let w = at ws u in
        let w_is : w ≡ width_of (kind_at ks l.ty) = width_is js u ∙ ap width_of t.same in
        let p = top_power l.magnitude l.magnitude in
        let below = is.below in
        let some = two l.magnitude e in
        let least = top_low l.magnitude l.magnitude (omega (arith, some)) in
        let low : p < 2 ^ w = subst (λ (n : ℕ). p < 2 ^ n) (sym w_is) (omega (arith, below, least)) in
        let b = base_on W vs ws s.exprs r.0 h.base g.grown in
        let m = push_expr r.0 u (form.Literal p) in
        let one = makes_same W vs ws r.0 m u (wrapped w (literal_number false p)) p (sym (literal_low w p low)) (put_number W vs ws r.0 b u p t.low) in
        let c = base_on W vs ws r.0 m.0 b one.grown in
        let n = power_there m in
        let last = makes_same W vs ws m.0 n 0 (truth (nat_lt 0 p)) 1 (ap truth (positive p (top_some l.magnitude l.magnitude))) (put_less W vs ws m.0 c 0 m.1 0 u 0 p c.zero_is one.is) in
        let more = grown_next W vs ws r.0 m.0 n.0 one.grown last.grown in
        let all = grown_next W vs ws s.exprs r.0 n.0 g.grown more in
        record {
          grown = all;
          holds = record {
            base = base_on W vs ws s.exprs n.0 h.base all;
            all = all_more n.0 s.operands env r.1 g.outcome (all_still s.exprs n.0 s.operands env all h.all) (if_stands n.0 r.1 g.outcome (stands_still W vs js refl r.0 n.0 r.1 g.outcome more g.stands) r.1.known);
            ones = ones_more n.0 s.conditions n.1 (ones_still s.exprs n.0 s.conditions all h.ones) last.is;
          };
        }
      where
        two : (n : ℕ) → nat_lt n 2 ≡ false → 2 ≤ n
        two n f = grind (arith, nat_tests)

        positive : (n : ℕ) → 1 ≤ n → nat_lt 0 n ≡ true
        positive n f = grind (arith, nat_tests)

    number_goes : Goes false s env (step_of (written_step ks l) env) (Some (number_state s l u))
    number_goes = go (nat_lt l.magnitude 2) refl
      where
        go : (b : Bool) → nat_lt l.magnitude 2 ≡ b → Goes false s env (step_of (written_step ks l) env) (Some (with_number b s l u made_literal))
        go true e = gives_goes false s env (step_of (written_step ks l) env) made_literal h (literal_gives s env h l u t fits_in)
        go false e =
            subst (λ (o : Option Outcome). Goes false s env o (Some (with_fitting s made_literal (power_there (push_expr made_literal.0 u (form.Literal (top_power l.magnitude l.magnitude))))))) (sym (literal_gives s env h l u t fits_in).is) (power_there_is e)

  -- ---- conditions
  some_number : (n : ℕ) → (n == 0) ≡ false → nat_lt 0 n ≡ true
  some_number n e = grind (arith, nat_tests)

  module _ (s : State) (env : List Outcome) (h : Holds s env) where
    -- a condition that isn't 0
    visited : (o : Operand) (n : ℕ) → Is W vs ws s.exprs o.value o.ty n → (n == 0) ≡ false → EditsDenote s.exprs o (Some (kind_at js o.ty, n))
        → Reached s (with_condition s o (push_expr s.exprs 0 (form.Less 0 o.value))) (env ++ Some (kind_at js o.ty, n) ∷ [])
    visited o n is e a =
        let m = push_expr s.exprs 0 (form.Less 0 o.value) in
        let less = put_less W vs ws s.exprs h.base 0 o.value 0 o.ty 0 n h.base.zero_is is in
        let one = makes_same W vs ws s.exprs m 0 (truth (nat_lt 0 n)) 1 (ap truth (some_number n e)) less in
        let g = one.grown in
        record {
          grown = g;
          holds = record {
            base = base_on W vs ws s.exprs m.0 h.base g;
            all = all_more m.0 s.operands env o (Some (kind_at js o.ty, n)) (all_still s.exprs m.0 s.operands env g h.all) (if_stands m.0 o (Some (kind_at js o.ty, n)) (stands_still W vs js refl s.exprs m.0 o (Some (kind_at js o.ty, n)) g a) o.known);
            ones = ones_more m.0 s.conditions m.1 (ones_still s.exprs m.0 s.conditions g h.ones) one.is;
          };
        }

    require_goes : (o : Operand) (x : Outcome) → EditsDenote s.exprs o x → Goes true s env (outcomes.required x) (required s o o.poison)
    require_goes o x a = go o.poison a.poison_is
      where
        known : (b : Bool) → (a.number == 0) ≡ b → x ≡ Some (kind_at js o.ty, a.number)
            → Goes true s env (if b then None else Some (Some (kind_at js o.ty, a.number))) (Some (with_condition s o (push_expr s.exprs 0 (form.Less 0 o.value))))
        known true e i = refl
        known false e i = visited o a.number a.number_is e (subst (λ (y : Outcome). EditsDenote s.exprs o y) i a)

        go : (f : Poison) → PoisonIs W vs ws s.exprs f a.poisoned → Goes true s env (outcomes.required x) (required s o f)
        go poison.Never e =
            let i : x ≡ Some (kind_at js o.ty, a.number) = a.is ∙ ap (outcome_by (kind_at js o.ty) a.number) e in
            subst (λ (y : Outcome). Goes true s env (outcomes.required y) (Some (with_condition s o (push_expr s.exprs 0 (form.Less 0 o.value))))) (sym i) (known (a.number == 0) refl i)
        go poison.Always e = tt
        go (poison.When k) e = tt

    -- a logarithm, which isn't known: the number is a power of two
    power_visited : (o : Operand) (n k : ℕ) → Is W vs ws s.exprs o.value o.ty n → (k < at ws o.ty) × (n ≡ 2 ^ k) → (x : Outcome)
        → Reached s (with_condition s unknown (power_made o.value o.ty s.exprs)) (env ++ x ∷ [])
    power_visited o n k is power x =
        let i = o.value in
        let t = o.ty in
        let w = at ws t in
        let p = pow_pos k in
        let one = push_expr s.exprs t (form.Literal 1) in
        let small : 1 < 2 ^ w = (let l = is.low.0 in let g = pow-lt {i = 0} {j = w} l in omega (arith, g)) in
        let one_made = makes_same W vs ws s.exprs one t (wrapped w (literal_number false 1)) 1 (sym (literal_low w 1 small)) (put_number W vs ws s.exprs h.base t 1 is.low) in
        let b1 = base_on W vs ws s.exprs one.0 h.base one_made.grown in
        let n1 = one_made.grown.kept i t n is in
        let less = push_expr one.0 t (form.Subtract i one.1) in
        let d = difference_of w n 1 in
        let less_made = put_subtract W vs ws one.0 b1 i one.1 t n 1 n1 one_made.is in
        let b2 = base_on W vs ws one.0 less.0 b1 less_made.grown in
        let bits = push_expr less.0 t (form.ExclusiveOr i less.1) in
        let bits_made = put_xor W vs ws less.0 b2 i less.1 t n d (less_made.grown.kept i t n n1) less_made.is in
        let b3 = base_on W vs ws less.0 bits.0 b2 bits_made.grown in
        let m = power_made i t s.exprs in
        let test = nat_lt d (bit_xor n d) in
        let yes : test ≡ true = ap (λ v. nat_lt (difference_of w v 1) (bit_xor v (difference_of w v 1))) power.1 ∙ power_is w k power.0 in
        let last = makes_same W vs ws bits.0 m 0 (truth test) 1 (ap truth yes) (put_less W vs ws bits.0 b3 less.1 bits.1 t t d (bit_xor n d) (bits_made.grown.kept less.1 t d less_made.is) bits_made.is) in
        let made_all = makes_next W vs ws s.exprs one m t 0 1 1 one_made (makes_next W vs ws one.0 less m t 0 d 1 less_made (makes_next W vs ws less.0 bits m t 0 (bit_xor n d) 1 bits_made last)) in
        let g = made_all.grown in
        record {
          grown = g;
          holds = record {
            base = base_on W vs ws s.exprs m.0 h.base g;
            all = all_more m.0 s.operands env unknown x (all_still s.exprs m.0 s.operands env g h.all) tt;
            ones = ones_more m.0 s.conditions m.1 (ones_still s.exprs m.0 s.conditions g h.ones) made_all.is;
          };
        }

    log_goes : (o : Operand) (x : Outcome) → EditsDenote s.exprs o x → Goes true s env (log_outcome x) (log_state s o o.poison)
    log_goes o x a = go o.poison a.poison_is
      where
        known : (r : Option ℕ) → log_of (width_of (kind_at js o.ty)) a.number ≡ r
            → Goes true s env (given r (λ k. Some (Some (kind_at js o.ty, k)))) (Some (with_condition s unknown (power_made o.value o.ty s.exprs)))
        known None e = refl
        known (Some k) e =
            let l = log_is (width_of (kind_at js o.ty)) a.number k e in
            power_visited o a.number k a.number_is (subst (λ (v : ℕ). k < v) (sym (width_is js o.ty)) l.0, l.1) (Some (kind_at js o.ty, k))

        go : (f : Poison) → PoisonIs W vs ws s.exprs f a.poisoned → Goes true s env (log_outcome x) (log_state s o f)
        go poison.Never e =
            let i : x ≡ Some (kind_at js o.ty, a.number) = a.is ∙ ap (outcome_by (kind_at js o.ty) a.number) e in
            subst (λ (y : Outcome). Goes true s env (log_outcome y) (Some (with_condition s unknown (power_made o.value o.ty s.exprs)))) (sym i) (known (log_of (width_of (kind_at js o.ty)) a.number) refl)
        go poison.Always e = tt
        go (poison.When k) e = tt

    -- a signed division
    abbrev DivideGoes : Option Outcome → Option Result → Type 0
    DivideGoes r q = Goes true s env r (with_some s q)

    divide_goes : (x y : Operand) (p q : Outcome) → EditsDenote s.exprs x p → EditsDenote s.exprs y q → DivideGoes (pair_outcome op.DivideSigned p q) (unchanged s.exprs (divide_result x y))
    divide_goes x y p q a b = on (divide_result x y) (divide_gives W vs js refl s.exprs h.base x y p q a b)
      where
        on : (d : Option Operand) → Divides W vs js refl s.exprs h.base x y p q a b (pair_outcome op.DivideSigned p q) d → DivideGoes (pair_outcome op.DivideSigned p q) (unchanged s.exprs d)
        on None i = tt
        on (Some d) i = elim i [
          | inl e ↦ (subst (λ (r : Option Outcome). Goes true s env r (Some (with_result s (s.exprs, d)))) (sym e) refl)
          | inr g ↦ (gives_goes true s env (pair_outcome op.DivideSigned p q) (s.exprs, d) h g)
        ]

    divides_at : (i j : ℕ) → DivideGoes (given (slice_get env i) (λ x. given (slice_get env j) (λ y. pair_outcome op.DivideSigned x y)))
        (given (operand_at s.operands i) (λ x. given (operand_at s.operands j) (λ y. unchanged s.exprs (divide_result x y))))
    divides_at i j =
        with_operand s env h DivideGoes (λ r. tt) i (λ x. given (operand_at s.operands j) (λ y. unchanged s.exprs (divide_result x y))) (λ x. given (slice_get env j) (λ y. pair_outcome op.DivideSigned x y))
        (λ x p a. with_operand s env h DivideGoes (λ r. tt) j (λ y. unchanged s.exprs (divide_result x y)) (λ y. pair_outcome op.DivideSigned p y) (λ y q b. divide_goes x y p q a b))

  copied : (o : Option Outcome) → given o (λ x. given o (λ y. pair_outcome op.And x y)) ≡ given o Some
  copied None = refl
  copied (Some x) = again x

  -- ---- one instruction
  module _ (ns : List Narrower) (narrow : AreNarrower ws ns) where
    gives : (n : Instruction) (s : State) (env : List Outcome) → Holds s env → instruction_fits ks n ≡ true → is_partial n ≡ false → GivesHere s.exprs (step_of (instruction_step ks n) env) (result_of value_types ns n s.operands s.exprs)
    gives (instruction.Number l) s env h fits_in total = tt
    gives (instruction.Copy i) s env h fits_in total =
        subst (λ (r : Option Outcome). GivesHere s.exprs r (given (operand_at s.operands i) (λ x. Some (s.exprs, x)))) (sym (copied (slice_get env i)))
        (by_operand s env h i (λ x. Some (s.exprs, x)) Some (λ o x a. record { outcome = x; is = refl; grown = same W vs ws s.exprs h.base.right; stands = a }))
    gives (instruction.Pair o i j) s env h fits_in total =
        by_operand s env h i (λ x. given (operand_at s.operands j) (λ y. pair_result o x y s.exprs)) (λ x. given (slice_get env j) (λ y. pair_outcome o x y))
        (λ x p a. by_operand s env h j (λ y. pair_result o x y s.exprs) (λ y. pair_outcome o p y) (λ y q b. pair_gives W vs js refl s.exprs h.base x y p q a b o))
    gives (instruction.Compare o i j) s env h fits_in total =
        by_operand s env h i (λ x. given (operand_at s.operands j) (λ y. compare_result o x y s.exprs)) (λ x. given (slice_get env j) (λ y. compare_outcome o x y))
        (λ x p a. by_operand s env h j (λ y. compare_result o x y s.exprs) (λ y. compare_outcome o p y) (λ y q b. compare_gives W vs js refl s.exprs h.base x y p q a b o))
    gives (instruction.Select c i j) s env h fits_in total =
        by_operand s env h c (λ d. given (operand_at s.operands i) (λ x. given (operand_at s.operands j) (λ y. select_result d x y s.exprs)))
        (λ d. given (slice_get env i) (λ x. given (slice_get env j) (λ y. select_outcome d x y)))
        (λ d r k. by_operand s env h i (λ x. given (operand_at s.operands j) (λ y. select_result d x y s.exprs)) (λ x. given (slice_get env j) (λ y. select_outcome r x y))
        (λ x p a. by_operand s env h j (λ y. select_result d x y s.exprs) (λ y. select_outcome r p y) (λ y q b. select_gives W vs js refl s.exprs h.base x y p q a b d r k)))
    gives (instruction.Resize c u i) s env h fits_in total =
        by_operand s env h i (λ x. given (type_at value_types u) (λ t. resize_result ns c t x s.exprs)) (λ x. resize_outcome c (kind_at ks u) x)
        (λ x p a. with_type s env h (GivesHere s.exprs (resize_outcome c (kind_at ks u) p)) tt u (λ t. resize_result ns c t x s.exprs)
        (λ t is. subst (λ (k : BitsKind). GivesHere s.exprs (resize_outcome c k p) (resize_result ns c t x s.exprs)) is.same
        (resize_gives W vs js refl s.exprs h.base ns narrow t is.low c x p a (ap (λ k. is_width (width_of k)) is.same ∙ is.wide))))
    gives (instruction.Divide i j) s env h fits_in total = absurd (true≢false total)
    gives (instruction.Require i) s env h fits_in total = tt
    gives (instruction.Width t) s env h fits_in total = tt
    gives (instruction.Log i) s env h fits_in total = tt

    simple : (n : Instruction) (s : State) (env : List Outcome) → Holds s env → instruction_fits ks n ≡ true → is_partial n ≡ false → Goes false s env (step_of (instruction_step ks n) env) (with_some s (result_of value_types ns n s.operands s.exprs))
    simple n s env h fits_in total = some_goes false s env (step_of (instruction_step ks n) env) (result_of value_types ns n s.operands s.exprs) h (gives n s env h fits_in total)

    pub goes : (n : Instruction) (s : State) (env : List Outcome) → Holds s env → instruction_fits ks n ≡ true → Goes (is_partial n) s env (step_of (instruction_step ks n) env) (translated value_types ns n s)
    unfolding translated
    goes (instruction.Number l) s env h fits_in = with_type s env h (Goes false s env (step_of (written_step ks l) env)) tt l.ty (λ t. Some (number_state s l t)) (λ u t. number_goes s env h l u t fits_in)
    goes (instruction.Copy i) s env h fits_in = simple (instruction.Copy i) s env h fits_in refl
    goes (instruction.Pair o i j) s env h fits_in = simple (instruction.Pair o i j) s env h fits_in refl
    goes (instruction.Divide i j) s env h fits_in = divides_at s env h i j
    goes (instruction.Compare o i j) s env h fits_in = simple (instruction.Compare o i j) s env h fits_in refl
    goes (instruction.Select c i j) s env h fits_in = simple (instruction.Select c i j) s env h fits_in refl
    goes (instruction.Resize c u i) s env h fits_in = simple (instruction.Resize c u i) s env h fits_in refl
    goes (instruction.Require i) s env h fits_in = with_operand s env h (Goes true s env) (λ r. tt) i (λ x. required s x x.poison) outcomes.required (λ o x a. require_goes s env h o x a)
    goes (instruction.Width t) s env h fits_in = tt
    goes (instruction.Log i) s env h fits_in = with_operand s env h (Goes true s env) (λ r. tt) i (λ x. log_state s x x.poison) log_outcome (λ o x a. log_goes s env h o x a)

    -- ---- all
    abbrev pub AllGo : Bool → State → Option (List Outcome) → Option State → Type 0
    AllGo may s r None = Unit {0}
    AllGo may s None (Some next) = may ≡ true
    AllGo may s (Some env) (Some next) = Reached s next env

    later : (may b : Bool) (s mid : State) (r : Option (List Outcome)) (o : Option State) → Grown W vs ws s.exprs mid.exprs → AllGo may mid r o → AllGo (b || may) s r o
    later may b s mid r None g a = tt
    later may b s mid None (Some next) g a = or_right b may a
      where
        or_right : (c d : Bool) → d ≡ true → (c || d) ≡ true
        or_right true d e = refl
        or_right false d e = e
    later may b s mid (Some env) (Some next) g a = record { grown = grown_next W vs ws s.exprs mid.exprs next.exprs g a.grown; holds = a.holds }

    pub all_go : (is : List Instruction) (s : State) (env : List Outcome) → Holds s env → list_all (instruction_fits ks) is ≡ true
        → AllGo (list_any is_partial is) s (run (map (instruction_step ks) is) env) (all_translated value_types ns is s)
    all_go [] s env h fits_in = record { grown = same W vs ws s.exprs h.base.right; holds = h }
    all_go (n ∷ is) s env h fits_in =
        let f = and_parts (instruction_fits ks n) (list_all (instruction_fits ks) is) fits_in in
        on (λ mid xs k. all_go is mid xs k f.1) (step_of (instruction_step ks n) env) (translated value_types ns n s) (goes n s env h f.0)
      where
        on : ((mid : State) (xs : List Outcome) → Holds mid xs → AllGo (list_any is_partial is) mid (run (map (instruction_step ks) is) xs) (all_translated value_types ns is mid))
            → (r : Option Outcome) (o : Option State) → Goes (is_partial n) s env r o
            → AllGo (is_partial n || list_any is_partial is) s (given r (λ v. run (map (instruction_step ks) is) (env ++ v ∷ []))) (given o (all_translated value_types ns is))
        on ih r None a = tt
        on ih None (Some mid) a = none_left (all_translated value_types ns is mid)
          where
            none_left : (o : Option State) → AllGo (is_partial n || list_any is_partial is) s None o
            none_left None = tt
            none_left (Some next) = or_left (is_partial n) (list_any is_partial is) a
        on ih (Some x) (Some mid) a =
            later (list_any is_partial is) (is_partial n) s mid (run (map (instruction_step ks) is) (env ++ x ∷ [])) (all_translated value_types ns is mid) a.grown (ih mid (env ++ x ∷ []) a.holds)
