-- The rules on two values.
use Rattle.std.proofs.Common.{◌≡◌, ℕ, ◌<◌, ◌≤◌, ◌^◌, List, [], ◌∷◌, true, Some, refl, sym, ap, ◌∙◌, arith, lit<}
use Rattle.std.specs.Prelude.{codes}
use Rattle.std.proofs.Math.Nat.{pow-le-pow_right}
use Rattle.std.proofs.lemmas.Nat.{pow_pos}
use Rattle.ir_types.specs.declared.bits.BitsKind.{BitsKind}
use Rattle.ir_types.specs.Bits.{width_of, type_of}
use Rattle.dialects_int.specs.declared.operations.Arithmetic.{Arithmetic}
use Rattle.dialects_int.specs.declared.operations.Arithmetic.TheVariants as op
use Rattle.dialects_int.specs.declared.operations.Rule.TheVariants as rule
use Rattle.dialects_int.specs.Arithmetic.{value_of, all_ones}
use Rattle.dialects_int.specs.Laws.{commutes, ignores_zero, ignores_one, keeps_itself}
use Rattle.dialects_int.specs.Folds.{Known, rule_of, rules}
use Rattle.dialects_int.proofs.PairLaws.{swaps, zero_ignored, one_ignored, nothing_left, nothing_left_unsigned, itself_kept, itself_gone, itself_cleared, ones_ignored}
use Rattle.patterns_laws.specs.Words.{commutative, with_zero_as_right_identity, with_one_as_right_identity, self_inverse, idempotent, remainders}
use Rattle.patterns_laws.specs.Made.{Entries, constant, given_by, gives}
use Rattle.patterns_laws.specs.Keeps.{Each, Swapping, Ignoring, IgnoringOnes, Cancelling, KeepingItself, LeavingNothing}
use Rattle.patterns_laws.proofs.KnownFolds.{some_bits, below, pair_gives, pair_gave, constant_gives}
use Rattle.std.proofs.lemmas.Option.{same_Some}

pub one_below : (w : ℕ) → 1 ≤ w → 1 < 2 ^ w
one_below w h = omega (arith, pow-le-pow_right {n = 2} (lit< tt) {i = 1} {j = w} h)

-- ---- `swap-constant`
swapped : (name : List ℕ) (o : Arithmetic) → rule_of name ≡ Some (rule.Binary o) → commutes o ≡ true → Swapping name
swapped name o r c k p a b v ha hb h =
    let g = pair_gave name o p k a b v r (below k a ha) (below k b hb) h in
    pair_gives name o p k b a g.number r g.fine (below k b hb) (below k a ha) (sym (swaps o (width_of k) a b (some_bits k a ha) (below k a ha) (below k b hb) c) ∙ g.is) ∙ ap Some g.whole

pub all_swapped : Each Swapping commutative
unfolding rule_of rules commutative
all_swapped = (
  swapped (codes "arith.addi") op.Add refl refl,
  (
    swapped (codes "arith.muli") op.Multiply refl refl,
    (
      swapped (codes "arith.andi") op.And refl refl,
      (
        swapped (codes "arith.ori") op.Or refl refl,
        (
          swapped (codes "arith.xori") op.ExclusiveOr refl refl,
          (
            swapped (codes "arith.maxsi") op.MaximumSigned refl refl,
            (
              swapped (codes "arith.maxui") op.MaximumUnsigned refl refl,
              (
                swapped (codes "arith.minsi") op.MinimumSigned refl refl,
                (swapped (codes "arith.minui") op.MinimumUnsigned refl refl, tt),
              ),
            ),
          ),
        ),
      ),
    ),
  ),
)

-- ---- `drop-zero`, `drop-one`, `drop-all-ones`, `keep-itself`: the first operand the arithmetic gives the first
-- operand whenever it is defined
keeps_first : (name : List ℕ) (o : Arithmetic) (k : BitsKind) (p : Entries) (a b : ℕ) (v : Known) → rule_of name ≡ Some (rule.Binary o) → a < 2 ^ width_of k → b < 2 ^ width_of k
    → ((n : ℕ) → value_of o (width_of k) a b ≡ Some n → n ≡ a) → given_by name p (type_of k) ((k, a) ∷ (k, b) ∷ []) ≡ Some v → (k, a) ≡ v
keeps_first name o k p a b v r ha hb first h =
    let g = pair_gave name o p k a b v r ha hb h in
    ap (λ n. (k, n)) (sym (first g.number g.is)) ∙ g.whole

zero_kept : (name : List ℕ) (o : Arithmetic) → rule_of name ≡ Some (rule.Binary o) → ignores_zero o ≡ true → Ignoring 0 name
zero_kept name o r z k p a v ha h =
    keeps_first name o k p a 0 v r (below k a ha) (pow_pos (width_of k)) (λ n e. same_Some n a (sym e ∙ zero_ignored o (width_of k) a (some_bits k a ha) (below k a ha) z)) h

pub all_zero_kept : Each (Ignoring 0) with_zero_as_right_identity
unfolding rule_of rules with_zero_as_right_identity
all_zero_kept = (
  zero_kept (codes "arith.addi") op.Add refl refl,
  (
    zero_kept (codes "arith.subi") op.Subtract refl refl,
    (
      zero_kept (codes "arith.ori") op.Or refl refl,
      (
        zero_kept (codes "arith.xori") op.ExclusiveOr refl refl,
        (
          zero_kept (codes "arith.shli") op.ShiftLeft refl refl,
          (
            zero_kept (codes "arith.shrsi") op.ShiftRightSigned refl refl,
            (zero_kept (codes "arith.shrui") op.ShiftRightUnsigned refl refl, tt),
          ),
        ),
      ),
    ),
  ),
)

one_kept : (name : List ℕ) (o : Arithmetic) → rule_of name ≡ Some (rule.Binary o) → ignores_one o ≡ true → Ignoring 1 name
one_kept name o r z k p a v ha h =
    keeps_first name o k p a 1 v r (below k a ha) (one_below (width_of k) (some_bits k a ha)) (λ n e. one_ignored o (width_of k) a n (some_bits k a ha) (below k a ha) z e) h

pub all_one_kept : Each (Ignoring 1) with_one_as_right_identity
unfolding rule_of rules with_one_as_right_identity
all_one_kept = (
  one_kept (codes "arith.muli") op.Multiply refl refl,
  (
    one_kept (codes "arith.divsi") op.DivideSigned refl refl,
    (one_kept (codes "arith.divui") op.DivideUnsigned refl refl, tt),
  ),
)

by_and : rule_of (codes "arith.andi") ≡ Some (rule.Binary op.And)
unfolding rule_of rules
by_and = refl

pub ones_kept : IgnoringOnes
ones_kept k p a v ha h =
    keeps_first (codes "arith.andi") op.And k p a (all_ones (width_of k)) v by_and (below k a ha) (omega (arith, pow_pos (width_of k)))
    (λ n e. same_Some n a (sym e ∙ ones_ignored (width_of k) a (below k a ha))) h

itself_given : (name : List ℕ) (o : Arithmetic) → rule_of name ≡ Some (rule.Binary o) → keeps_itself o ≡ true → KeepingItself name
itself_given name o r z k p a v ha h = keeps_first name o k p a a v r (below k a ha) (below k a ha) (λ n e. same_Some n a (sym e ∙ itself_kept o (width_of k) a z)) h

pub all_itself_given : Each KeepingItself idempotent
unfolding rule_of rules idempotent
all_itself_given = (
  itself_given (codes "arith.andi") op.And refl refl,
  (
    itself_given (codes "arith.ori") op.Or refl refl,
    (
      itself_given (codes "arith.maxsi") op.MaximumSigned refl refl,
      (
        itself_given (codes "arith.maxui") op.MaximumUnsigned refl refl,
        (
          itself_given (codes "arith.minsi") op.MinimumSigned refl refl,
          (itself_given (codes "arith.minui") op.MinimumUnsigned refl refl, tt),
        ),
      ),
    ),
  ),
)

-- ---- `cancel-itself`, `zero-remainder`: 0
gives_number : (name : List ℕ) (o : Arithmetic) (k : BitsKind) (p : Entries) (a b c : ℕ) (v : Known) → rule_of name ≡ Some (rule.Binary o) → a < 2 ^ width_of k → b < 2 ^ width_of k
    → ((n : ℕ) → value_of o (width_of k) a b ≡ Some n → n ≡ c) → given_by name p (type_of k) ((k, a) ∷ (k, b) ∷ []) ≡ Some v → gives (constant (type_of k) c) [] ≡ Some v
gives_number name o k p a b c v r ha hb number h =
    let g = pair_gave name o p k a b v r ha hb h in
    constant_gives k c ∙ ap Some (ap (λ n. (k, n)) (sym (number g.number g.is)) ∙ g.whole)

pub all_cancelled : Each Cancelling self_inverse
unfolding rule_of rules self_inverse
all_cancelled = (
  λ k p a v ha h. gives_number (codes "arith.subi") op.Subtract k p a a 0 v refl (below k a ha) (below k a ha) (λ n e. same_Some n 0 (sym e ∙ itself_gone (width_of k) a)) h,
  (λ k p a v ha h. gives_number (codes "arith.xori") op.ExclusiveOr k p a a 0 v refl (below k a ha) (below k a ha) (λ n e. same_Some n 0 (sym e ∙ itself_cleared (width_of k) a)) h, tt),
)

pub all_left_nothing : Each LeavingNothing remainders
unfolding rule_of rules remainders
all_left_nothing = (
  λ k p a v ha h. gives_number (codes "arith.remsi") op.RemainderSigned k p a 1 0 v refl (below k a ha) (one_below (width_of k) (some_bits k a ha)) (λ n e. nothing_left (width_of k) a n (some_bits k a ha) (below k a ha) e) h,
  (λ k p a v ha h. gives_number (codes "arith.remui") op.RemainderUnsigned k p a 1 0 v refl (below k a ha) (one_below (width_of k) (some_bits k a ha)) (λ n e. same_Some n 0 (sym e ∙ nothing_left_unsigned (width_of k) a)) h, tt),
)
