-- The outcomes of both sides, given two values that are claimed to be equal.
use Rattle.std.proofs.Common.{◌≡◌, ◌∙◌, ℕ, ◌<◌, ◌==◌, List, length, Bool, true, false, ◌||◌, ◌&&◌, not, bit_and, bit_or, bit_xor, Option, Some, None, refl, sym, ap, subst, arith, eq-eqb}
use Rattle.std.proofs.lemmas.Bool.{eqb-true}
use Rattle.ir_types.specs.declared.bits.BitsKind.{BitsKind}
use Rattle.ir_types.specs.declared.bits.BitsKind.TheVariants as kind
use Rattle.dialects_int.specs.Arithmetic.{truth}
use Rattle.dialects_int.proofs.KnownOperands.{same_itself}
use Rattle.user_patterns_check.specs.Checks.{refines}
use Rattle.user_patterns_check.specs.Outcomes.{Outcome}
use Rattle.user_patterns_data.specs.Fitting.{kind_at}
use Rattle.width_claims.specs.declared.form.Form.TheVariants as form
use Rattle.width_claims.specs.declared.form.Expr.{Expr}
use Rattle.width_claims.specs.PatternOpValues.{at}
use Rattle.user_patterns_instructions.specs.declared.operand.Operand.{Operand}
use Rattle.user_patterns_instructions.specs.declared.operand.Poison.{Poison}
use Rattle.user_patterns_instructions.specs.declared.operand.Poison.TheVariants as poison
use Rattle.user_patterns_instructions.specs.Expressions.{Made, push_expr}
use Rattle.user_patterns_claims.specs.Translation.{Sides, both_true, is_one, known_and, poison_or, refined, sides, sides_by}
use Rattle.user_patterns_instructions.proofs.PatternOps.{Base, Grown, Is, Makes, base_on, makes_next, makes_same, same, values}
use Rattle.user_patterns_instructions.proofs.Forms.{not_truth, put_and, put_or, put_same, put_xor}
use Rattle.user_patterns_instructions.proofs.Flags.{PoisonIs, or_truth}
use Rattle.user_patterns_instructions.proofs.Operands.{Stands, outcome_by, widths}

-- the old outcome is poison, or the new outcome is known and equal
refines_by : (k : BitsKind) (u v : ℕ) (b c : Bool) → refines (outcome_by k u b) (outcome_by k v c) ≡ (b || (not c && (u == v)))
refines_by k u v true c = refl
refines_by k u v false true = refl
refines_by k u v false false = ap (λ d. d && (u == v)) (same_itself k)

and_truth : (b c : Bool) → bit_and (truth b) (truth c) ≡ truth (c && b)
and_truth true true = refl
and_truth true false = refl
and_truth false true = refl
and_truth false false = refl

pub truth_one : (b : Bool) → truth b ≡ 1 → b ≡ true
truth_one true e = refl
truth_one false e = absurd (omega (arith, e))

module _ (W : ℕ) (vs : List ℕ) (js : List BitsKind) (first : kind_at js 0 ≡ kind.Int 1) where
  abbrev ws : List ℕ
  ws = widths W vs js first

  -- a claim that two expressions are equal implies the goal
  pub record Claims (ps : List Expr) (r : Sides) (goal : Type 0) : Type 0 where
    pub grown : Grown W vs ws ps r.0
    pub left_in : r.1 < length r.0
    pub right_in : r.2 < length r.0
    pub follows : at (values W vs ws r.0) r.1 ≡ at (values W vs ws r.0) r.2 → goal

  abbrev pub ClaimsSome : List Expr → Option Sides → Type 0 → Type 0
  ClaimsSome ps None goal = goal
  ClaimsSome ps (Some r) goal = Claims ps r goal

  module _ (ps : List Expr) (base : Base W vs ws ps) (x y : Operand) (p q : Outcome) (s : Stands W vs js first ps x p) (t : Stands W vs js first ps y q) (alike : (x.ty == y.ty) ≡ true) where
    abbrev b : Bool
    b = s.poisoned

    abbrev c : Bool
    c = t.poisoned

    abbrev e : Bool
    e = s.number == t.number

    y_is : Is W vs ws ps y.value x.ty t.number
    y_is = subst (λ (u : ℕ). Is W vs ws ps y.value u t.number) (sym (eqb-true x.ty y.ty alike)) t.number_is

    equal : Made
    equal = push_expr ps 0 (form.Same x.value y.value)

    equal_makes : Makes W vs ws ps (push_expr ps 0 (form.Same x.value y.value)) 0 (truth e)
    equal_makes = put_same W vs ws ps base x.value y.value x.ty s.number t.number s.number_is y_is

    known_makes : (g : Poison) → PoisonIs W vs ws ps g c → Makes W vs ws ps (known_and g (push_expr ps 0 (form.Same x.value y.value))) 0 (truth (not c && e))
    known_makes poison.Never i = makes_same W vs ws ps (push_expr ps 0 (form.Same x.value y.value)) 0 (truth e) (truth (not c && e)) (ap (λ d. truth (not d && e)) (sym i)) equal_makes
    known_makes poison.Always i =
        let a = equal_makes in
        makes_same W vs ws ps ((push_expr ps 0 (form.Same x.value y.value)).0, 0) 0 0 (truth (not c && e)) (ap (λ d. truth (not d && e)) (sym i)) (record { grown = a.grown; is = a.grown.kept 0 0 0 base.zero_is })
    known_makes (poison.When g) i =
        let m = push_expr ps 0 (form.Same x.value y.value) in
        let a = equal_makes in
        let d = base_on W vs ws ps m.0 base a.grown in
        let n = push_expr m.0 0 (form.ExclusiveOr g 1) in
        let flip = makes_same W vs ws m.0 n 0 (bit_xor (truth c) 1) (truth (not c)) (not_truth c) (put_xor W vs ws m.0 d g 1 0 (truth c) 1 (a.grown.kept g 0 (truth c) i) d.one_is) in
        let f = base_on W vs ws m.0 n.0 d flip.grown in
        let both = put_and W vs ws n.0 f m.1 n.1 0 (truth e) (truth (not c)) (flip.grown.kept m.1 0 (truth e) a.is) flip.is in
        makes_same W vs ws ps (both_true m n) 0 (bit_and (truth e) (truth (not c))) (truth (not c && e)) (and_truth e (not c))
        (makes_next W vs ws ps m (both_true m n) 0 0 (truth e) (bit_and (truth e) (truth (not c))) a
        (makes_next W vs ws m.0 n (both_true m n) 0 0 (truth (not c)) (bit_and (truth e) (truth (not c))) flip both))

    refined_makes : Makes W vs ws ps (refined x y ps) 0 (truth (not c && e))
    refined_makes = known_makes y.poison t.poison_is

    follows_from : (b || (not c && e)) ≡ true → refines p q ≡ true
    follows_from i =
        (λ r. refines (s.is r) (new_is r)) ∙ refines_by (kind_at js x.ty) s.number t.number b c ∙ i
      where
        new_is : q ≡ outcome_by (kind_at js x.ty) t.number t.poisoned
        new_is = t.is ∙ ap (λ u. outcome_by (kind_at js u) t.number t.poisoned) (sym (eqb-true x.ty y.ty alike))

    -- a truth that is claimed to be 1
    truth_claims : (m : Made) (d : Bool) → Makes W vs ws ps m 0 (truth d) → (d ≡ true → refines p q ≡ true) → Claims ps (is_one m) (refines p q ≡ true)
    truth_claims m d a f =
        let one = a.grown.kept 1 0 1 base.one_is in
        record {
          grown = a.grown;
          left_in = a.is.below;
          right_in = one.below;
          follows = λ i. f (truth_one d (sym a.is.value ∙ i ∙ one.value));
        }

    refined_claims : b ≡ false → Claims ps (is_one (refined x y ps)) (refines p q ≡ true)
    refined_claims i = truth_claims (refined x y ps) (not c && e) refined_makes (λ j. follows_from (ap (λ d. d || (not c && e)) i ∙ j))

    by_poison : (f g : Poison) → PoisonIs W vs ws ps f b → PoisonIs W vs ws ps g c → ClaimsSome ps (sides_by f g x y ps) (refines p q ≡ true)
    by_poison poison.Always g i j = follows_from (ap (λ d. d || (not c && e)) i)
    by_poison (poison.When f) g i j =
        let m = refined x y ps in
        let a = refined_makes in
        let d = base_on W vs ws ps m.0 base a.grown in
        let n = poison_or f m in
        let last = makes_same W vs ws m.0 n 0 (bit_or (truth b) (truth (not c && e))) (truth (b || (not c && e))) (or_truth b (not c && e)) (put_or W vs ws m.0 d f m.1 0 (truth b) (truth (not c && e)) (a.grown.kept f 0 (truth b) i) a.is) in
        truth_claims n (b || (not c && e)) (makes_next W vs ws ps m n 0 0 (truth (not c && e)) (truth (b || (not c && e))) a last) follows_from
    by_poison poison.Never poison.Never i j =
        record {
          grown = same W vs ws ps base.right;
          left_in = s.number_is.below;
          right_in = t.number_is.below;
          follows = λ r. follows_from ((λ k. i k || (not (j k) && (s.number == t.number))) ∙ eq-eqb s.number t.number (sym s.number_is.value ∙ r ∙ t.number_is.value));
        }
    by_poison poison.Never poison.Always i j = refined_claims i
    by_poison poison.Never (poison.When g) i j = refined_claims i

    pub sides_claim : ClaimsSome ps (sides x y ps) (refines p q ≡ true)
    sides_claim = by_poison x.poison y.poison s.poison_is t.poison_is
