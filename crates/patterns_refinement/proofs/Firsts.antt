-- Operations whose outcome is one of their operands.
use Rattle.std.proofs.Common.{◌≡◌, ℕ, refl, ap, sym, ◌∙◌, subst, List, Bool, true, false, ◌&&◌, not, Option, Some, None}
use Rattle.std.specs.Prelude.{codes, if◌then◌else◌, ◌==◌}
use Rattle.std.proofs.lemmas.Option.{none-some, same_Some}
use Rattle.ir_types.specs.declared.bits.BitsKind.{BitsKind}
use Rattle.ir_types.specs.declared.bits.BitsKind.TheVariants as kind
use Rattle.ir_types.specs.Bits.{is_bits, width_of}
use Rattle.dialects_int.specs.declared.operations.Arithmetic.{Arithmetic}
use Rattle.dialects_int.specs.declared.operations.Arithmetic.TheVariants as op
use Rattle.dialects_int.specs.declared.operations.Rule.TheVariants as how
use Rattle.dialects_int.specs.Arithmetic.{all_ones, choice_of, value_of}
use Rattle.dialects_int.specs.Folds.{Known, rule_of, rules, same_kind}
use Rattle.dialects_int.specs.Laws.{ignores_one, ignores_zero, keeps_itself}
use Rattle.dialects_int.proofs.PairLaws.{itself_kept, one_ignored, ones_ignored, zero_ignored}
use Rattle.user_patterns_check.specs.Outcomes.{Outcome, divides, is_signed_remainder, is_some_number, checked, no_value, pair_outcome, select_outcome}
use Rattle.user_patterns_check.specs.Checks.{refines}
use Rattle.user_patterns_check.proofs.Keeping.{same_kinds}
use Rattle.patterns_laws.specs.Words.{with_one_as_right_identity, with_zero_as_right_identity, idempotent}
use Rattle.patterns_laws.specs.Keeps.{Each}
use Rattle.patterns_laws.proofs.KnownFolds.{below, some_bits}
use Rattle.patterns_refinement.proofs.Monotone.{none_made, same_refined}
use Rattle.patterns_refinement.proofs.OfBits.{IsOfBits}

-- if the second operand is this number of its kind, the outcome is the first operand or no number
abbrev pub Firsts : Arithmetic → (BitsKind → ℕ) → Type 0
Firsts o b = (k : BitsKind) (x n : ℕ) → is_bits k x ≡ true → value_of o (width_of k) x (b k) ≡ Some n → n ≡ x

pub poison_refined : (z y : Outcome) → z ≡ None → refines z y ≡ true
poison_refined z y e = subst (λ z. refines z y ≡ true) (sym e) refl

checked_first : (o : Arithmetic) (x : Known) (b : ℕ) (z : Outcome) → is_signed_remainder o ≡ false → (r : Option ℕ) → ((n : ℕ) → r ≡ Some n → n ≡ x.1) → checked o x.0 b r ≡ Some z → refines z (Some x) ≡ true
checked_first o x b z s (Some n) f m = same_refined z (Some x) (sym (same_Some _ _ m) ∙ ap (λ n. Some (x.0, n)) (f n refl))
checked_first o x b z s None f m =
    let n : (if divides o then None else Some None) ≡ Some z = sym (ap (λ c. if c && not (b == 0) then Some (Some (x.0, 0)) else no_value o) s) ∙ m in
    poison_refined z (Some x) (none_made (divides o) z n).1

pub first_kept : (o : Arithmetic) (b : BitsKind → ℕ) → is_signed_remainder o ≡ false → Firsts o b → (p q z : Outcome) → IsOfBits p → ((y : Known) → q ≡ Some y → y.1 ≡ b y.0) → pair_outcome o p q ≡ Some z → refines z p ≡ true
first_kept o b s f None q z h g m = poison_refined z None (none_made (divides o && not (is_some_number q)) z m).1
first_kept o b s f (Some x) None z h g m = poison_refined z (Some x) (none_made (divides o) z m).1
first_kept o b s f (Some x) (Some y) z h g m = go (same_kind x.0 y.0) refl m
  where
    go : (c : Bool) → same_kind x.0 y.0 ≡ c → (if c then checked o x.0 y.1 (value_of o (width_of x.0) x.1 y.1) else None) ≡ Some z → refines z (Some x) ≡ true
    go false i m = absurd (none-some z m)
    go true i m =
        let number : y.1 ≡ b x.0 = g y refl ∙ ap b (sym (same_kinds x.0 y.0 i)) in
        checked_first o x y.1 z s (value_of o (width_of x.0) x.1 y.1) (λ n e. f x.0 x.1 n (h x refl) (ap (value_of o (width_of x.0) x.1) (sym number) ∙ e)) m

pub both_kept : (o : Arithmetic) → is_signed_remainder o ≡ false → keeps_itself o ≡ true → (p z : Outcome) → pair_outcome o p p ≡ Some z → refines z p ≡ true
both_kept o s k None z m = poison_refined z None (none_made (divides o && true) z m).1
both_kept o s k (Some x) z m = go (same_kind x.0 x.0) m
  where
    go : (c : Bool) → (if c then checked o x.0 x.1 (value_of o (width_of x.0) x.1 x.1) else None) ≡ Some z → refines z (Some x) ≡ true
    go false m = absurd (none-some z m)
    go true m = checked_first o x x.1 z s (value_of o (width_of x.0) x.1 x.1) (λ n e. same_Some n x.1 (sym e ∙ itself_kept o (width_of x.0) x.1 k)) m

-- ---- the operations with this property
pub zero_first : (o : Arithmetic) → ignores_zero o ≡ true → Firsts o (λ k. 0)
zero_first o z k x n h e = same_Some n x (sym e ∙ zero_ignored o (width_of k) x (some_bits k x h) (below k x h) z)

pub one_first : (o : Arithmetic) → ignores_one o ≡ true → Firsts o (λ k. 1)
one_first o z k x n h e = one_ignored o (width_of k) x n (some_bits k x h) (below k x h) z e

pub ones_first : Firsts op.And (λ k. all_ones (width_of k))
ones_first k x n h e = same_Some n x (sym e ∙ ones_ignored (width_of k) x (below k x h))

-- an operation with that name is a binary operation, passes a test, and isn't a signed remainder
abbrev pub IsPair : (Arithmetic → Bool) → List ℕ → Type 0
IsPair f name = (o : Arithmetic) × (rule_of name ≡ Some (how.Binary o)) × (f o ≡ true) × (is_signed_remainder o ≡ false)

pub zero_pairs : Each (IsPair ignores_zero) with_zero_as_right_identity
unfolding rule_of rules with_zero_as_right_identity
zero_pairs =
    ((op.Add, refl, refl, refl), ((op.Subtract, refl, refl, refl), ((op.Or, refl, refl, refl), ((op.ExclusiveOr, refl, refl, refl), ((op.ShiftLeft, refl, refl, refl), ((op.ShiftRightSigned, refl, refl, refl), ((op.ShiftRightUnsigned, refl, refl, refl), tt)))))))

pub one_pairs : Each (IsPair ignores_one) with_one_as_right_identity
unfolding rule_of rules with_one_as_right_identity
one_pairs = ((op.Multiply, refl, refl, refl), ((op.DivideSigned, refl, refl, refl), ((op.DivideUnsigned, refl, refl, refl), tt)))

pub keeping_pairs : Each (IsPair keeps_itself) idempotent
unfolding rule_of rules idempotent
keeping_pairs =
    ((op.And, refl, refl, refl), ((op.Or, refl, refl, refl), ((op.MaximumSigned, refl, refl, refl), ((op.MaximumUnsigned, refl, refl, refl), ((op.MinimumSigned, refl, refl, refl), ((op.MinimumUnsigned, refl, refl, refl), tt))))))

pub by_and : rule_of (codes "arith.andi") ≡ Some (how.Binary op.And)
unfolding rule_of rules
by_and = refl

pub by_select : rule_of (codes "arith.select") ≡ Some how.Select
unfolding rule_of rules
by_select = refl

-- ---- selects
-- a value refines the outcome of a `select` if it refines both operands, or the selected one
pub chosen_kept : (c p q y z : Outcome) → ((k : Known) → c ≡ Some k → same_kind k.0 (kind.Int 1) ≡ true → refines (choice_of k.1 p q) y ≡ true) → select_outcome c p q ≡ Some z → refines z y ≡ true
chosen_kept None p q y z f m = poison_refined z y (sym (same_Some _ _ m))
chosen_kept (Some c) p q y z f m = go (same_kind c.0 (kind.Int 1)) refl m
  where
    go : (b : Bool) → same_kind c.0 (kind.Int 1) ≡ b → (if b then Some (choice_of c.1 p q) else None) ≡ Some z → refines z y ≡ true
    go false i m = absurd (none-some z m)
    go true i m = subst (λ z. refines z y ≡ true) (same_Some _ _ m) (f c refl i)
