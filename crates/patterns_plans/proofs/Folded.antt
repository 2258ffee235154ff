-- Folding over the known bits of operands.
use Rattle.std.proofs.Common.{◌≡◌, refl, ap, sym, ◌∙◌, Bool, true, false, ◌&&◌, ◌||◌, not, List, [], ◌∷◌, ◌++◌, append-nil, append_assoc, map, Option, Some, None, option_map}
use Rattle.std.specs.Prelude.{codes, is_some}
use Rattle.std.specs.List.{list_all}
use Rattle.ir_event.specs.trees.declared.value.Value.{Value}
use Rattle.ir_event.specs.trees.Meaning.{Operation}
use Rattle.dialects_int.specs.Folds.{Known}
use Rattle.patterns_matchers.proofs.Cleaned.{known_not}
use Rattle.patterns_matchers.specs.Looks.{Header, is_constant, is_known, known, when}
use Rattle.patterns_matchers.specs.Words.{named}
use Rattle.patterns_plans.specs.declared.reason.Reason.{Reason}
use Rattle.patterns_plans.specs.declared.reason.Reason.TheVariants.{ConstantNotVerified, DoesNotFold, OperandNotConstant, WrongOperation}
use Rattle.patterns_plans.specs.Conditions.{first_failed_test, unless_holds}
use Rattle.patterns_plans.specs.Numbers.{is_readable, known_each, readable}
use Rattle.patterns_plans.specs.RuleTests.{fold_to_constant, unfolded_reason}

-- a value that isn't a constant
pub not_constant : (t : Operation) (v : Value) (b : Bool) → b ≡ is_constant t v → b ≡ false → Some None ≡ readable t v
not_constant t v b e f = ap Some (known_not t v b e f) ∙ sym (ap (λ c. when (not c || is_known t v) (Some (known t v))) (sym e ∙ f))

-- a value with known bits, and a constant without known bits
pub readable_known : (t : Operation) (v : Value) (k : Known) → Some k ≡ known t v → Some (Some k) ≡ readable t v
readable_known t v k e = go (is_constant t v)
  where
    go : (c : Bool) → Some (Some k) ≡ when (not c || is_known t v) (Some (known t v))
    go true = ap (λ z. when (is_some z) (Some z)) e
    go false = ap Some e

pub unreadable : (t : Operation) (v : Value) (b : Bool) → None ≡ known t v → b ≡ is_constant t v → b ≡ true → None ≡ readable t v
unreadable t v b e f g = ap (λ z. when (is_some z) (Some z)) e ∙ ap (λ c. when (not c || is_known t v) (Some (known t v))) (sym g ∙ f)

-- values, one after another
each_read : {X : Type 0} (b : Bool) (k q : X) → Some k ≡ when b (Some q) → (b ≡ true) × (k ≡ q)
each_read true k q e = (refl, cc)
each_read false k q e = absurd cc

none_read : {X : Type 0} (b : Bool) (q : X) → None ≡ when b (Some q) → b ≡ false
none_read true q e = absurd cc
none_read false q e = refl

-- two readable values, and two values with one that isn't readable
pub two_read : (t : Operation) (a b : Value) (k q : Option Known) → Some k ≡ readable t a → Some q ≡ readable t b → Some (k ∷ q ∷ []) ≡ known_each t (a ∷ b ∷ [])
two_read t a b k q e f =
    let one = each_read (is_readable t a) k (known t a) e in
    let two = each_read (is_readable t b) q (known t b) f in
    λ i. when (sym one.0 i && (sym two.0 i && true)) (Some (one.1 i ∷ two.1 i ∷ []))

pub first_unparsed : (t : Operation) (a b : Value) → None ≡ readable t a → None ≡ known_each t (a ∷ b ∷ [])
first_unparsed t a b e = sym (ap (λ c. when (c && (is_readable t b && true)) (Some (known t a ∷ known t b ∷ []))) (none_read (is_readable t a) (known t a) e))

pub second_unparsed : (t : Operation) (a b : Value) → None ≡ readable t b → None ≡ known_each t (a ∷ b ∷ [])
second_unparsed t a b e = no (is_readable t a) ∙ sym (ap (λ c. when (is_readable t a && (c && true)) (Some (known t a ∷ known t b ∷ []))) (none_read (is_readable t b) (known t b) e))
  where
    no : (c : Bool) → None ≡ when (c && false) (Some (known t a ∷ known t b ∷ []))
    no true = refl
    no false = refl

joined : (b : Bool) (xs ys : List (Option Known)) (k : Option Known) → option_map (λ r. (xs ++ k ∷ []) ++ r) (when b (Some ys)) ≡ option_map (λ r. xs ++ r) (when b (Some (k ∷ ys)))
joined true xs ys k = ap Some (append_assoc xs (k ∷ []) ys)
joined false xs ys k = refl

pub read_on : (t : Operation) (v : Value) (vs : List Value) (xs : List (Option Known)) (k : Option Known) (whole : Option (List (Option Known))) → Some k ≡ readable t v
    → option_map (λ r. xs ++ r) (known_each t (v ∷ vs)) ≡ whole → option_map (λ r. (xs ++ k ∷ []) ++ r) (known_each t vs) ≡ whole
read_on t v vs xs k whole e w =
    let one = each_read (is_readable t v) k (known t v) e in
    joined (list_all (is_readable t) vs) xs (map (known t) vs) k
    ∙ (λ i. option_map (λ r. xs ++ r) (when (sym one.0 i && list_all (is_readable t) vs) (Some (one.1 i ∷ map (known t) vs))))
    ∙ w

pub read_stop : (t : Operation) (v : Value) (vs : List Value) (xs : List (Option Known)) (whole : Option (List (Option Known))) → None ≡ readable t v → option_map (λ r. xs ++ r) (known_each t (v ∷ vs)) ≡ whole → None ≡ whole
read_stop t v vs xs whole e w = sym (ap (λ b. option_map (λ r. xs ++ r) (when (b && list_all (is_readable t) vs) (Some (map (known t) (v ∷ vs))))) (none_read (is_readable t v) (known t v) e)) ∙ w

pub read_end : (t : Operation) (xs : List (Option Known)) (whole : Option (List (Option Known))) → option_map (λ r. xs ++ r) (known_each t []) ≡ whole → Some xs ≡ whole
read_end t xs whole w = ap Some (sym (append-nil xs)) ∙ w

-- ---- the tests of `fold-to-constant`, at an operation that isn't a constant
unfolded : (t : Operation) (vs : List Value) → Some (unfolded_reason (map (known t) vs)) ≡ unless_holds (list_all (is_known t) vs) OperandNotConstant (Some DoesNotFold)
unfolded t [] = refl
unfolded t (v ∷ vs) = go (known t v) (unfolded t vs)
  where
    go : (k : Option Known) → Some (unfolded_reason (map (known t) vs)) ≡ unless_holds (list_all (is_known t) vs) OperandNotConstant (Some DoesNotFold)
        → Some (unfolded_reason (k ∷ map (known t) vs)) ≡ unless_holds (is_some k && list_all (is_known t) vs) OperandNotConstant (Some DoesNotFold)
    go None e = refl
    go (Some k) e = e

module _ (t : Operation) (h : Header) (other : named (codes "arith.constant") h.name ≡ false) where
  pub fold_unreadable : None ≡ known_each t h.operands → Some ConstantNotVerified ≡ first_failed_test (fold_to_constant t h false)
  fold_unreadable e = rw (other, none_read (list_all (is_readable t) h.operands) _ e) refl

  pub fold_made : (ks : List (Option Known)) → Some ks ≡ known_each t h.operands → None ≡ first_failed_test (fold_to_constant t h true)
  fold_made ks e = rw (other, (each_read (list_all (is_readable t) h.operands) ks _ e).0) refl

  pub fold_failed : (ks : List (Option Known)) (r : Reason) → Some ks ≡ known_each t h.operands → r ≡ unfolded_reason ks → Some r ≡ first_failed_test (fold_to_constant t h false)
  fold_failed ks r e f =
      let read = each_read (list_all (is_readable t) h.operands) ks (map (known t) h.operands) e in
      ap (λ r. Some r) (f ∙ ap unfolded_reason read.1) ∙ unfolded t h.operands
      ∙ sym (λ i. unless_holds (not (other i)) WrongOperation (unless_holds (read.0 i) ConstantNotVerified (unless_holds (list_all (is_known t) h.operands) OperandNotConstant (Some DoesNotFold))))
