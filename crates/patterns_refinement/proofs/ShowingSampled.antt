-- A module that doesn't show what the module showed isn't an improvement.
use Rattle.user_patterns_check.proofs.Keeping.{value_refined}
use Rattle.std.proofs.Common.{◌≡◌, ℕ, refl, ap, sym, ◌∙◌, List, [], ◌∷◌, Bool, true, false, true≢false, eqb, eqb-true, Some, None, inl, inr, zero, suc, ◌<◌, ◌≤◌, slice_get, get_or, arith, subst}
use Rattle.std.specs.Prelude.{codes, if◌then◌else◌, ◌==◌}
use Rattle.std.proofs.lemmas.Bool.{and_parts}
use Rattle.std.proofs.lemmas.Option.{same_Some, none-some}
use Rattle.ir_types.specs.declared.bits.BitsKind.TheVariants as kind
use Rattle.ir_types.specs.Terms.{AttrTerm, IntegerOf, TypeTerm, Overflow}
use Rattle.ir_tree.specs.declared.value.Value.{Value}
use Rattle.ir_tree.specs.declared.value.Value.TheVariants.{Arg, Result}
use Rattle.ir_tree.specs.Tree.{OpsOf, block, head, next, no_ops, no_regions, op, region}
use Rattle.ir_tree.specs.Meaning.{Operation}
use Rattle.op_registry.specs.Properties as properties
use Rattle.op_registry.specs.Registry as registry
use Rattle.op_registry.specs.Rows as rows
use Rattle.ir_types.specs.Readings as readings
use Rattle.ir_types.specs.Words as words
use Rattle.dialects_int.specs.Arithmetic.{sum_of}
use Rattle.dialects_int.specs.Folds as folds
use Rattle.user_patterns_check.specs.Checks.{refines}
use Rattle.user_patterns_data.specs.Matching.{Header}
use Rattle.patterns_refinement.specs.Meaning.{Assignment, Fits, makes, IsOfType, breaks_flags, owner}
use Rattle.patterns_refinement.specs.Better.{gives}
use Rattle.patterns_refinement.specs.Choices.{AreOrigins}
use Rattle.patterns_refinement.specs.RefiningSamples.{arguments_of}
use Rattle.patterns_refinement.specs.Observing.{OpsFollow, Stays, is_unmissed}
use Rattle.patterns_refinement.specs.ObservingSamples.{AreRefused, ErasedStoreBreaks, ErasedUnknownBreaks, NewConstantBreaks, OtherArgumentBreaks, WipingBreaks, function_of, i8, numbering, plain_op, returning, storing, summing, unknown_then, AddedFlagBreaks, OverflowComputes, greatest_and_one, SumComputes, one_and_zero}
use Rattle.std.proofs.lemmas.Map.Made.{IsDistinct-from_count}
use Rattle.std.proofs.lemmas.Cmp.{nat_eq_equiv}
use Rattle.ir_types.specs.Words.{is_isolated}
use Rattle.ir_tree.specs.WellFormed.{IsWellFormed}
use Rattle.patterns_refinement.specs.Better.{AreKinded}
use Rattle.patterns_refinement.specs.Keeping.{Computing}
use Rattle.patterns_refinement.specs.Samples.{all_done}

pub never : {A : Type 0} → false ≡ true → A
never e = absurd (true≢false (sym e))

-- functions are kept
function_stays : (rs : OpsOf (List ℕ) TypeTerm AttrTerm) → is_unmissed (op (record { id = 1; name = codes "func.func"; operands = []; results = []; properties = []; attributes = [] }) (region (block (i8 ∷ i8 ∷ []) rs) no_regions)) ≡ false
unfolding registry.row_of rows.rows
function_stays rs = refl

return_stays : (v : Value) → is_unmissed (plain_op 4 (codes "func.return") (v ∷ []) [] []) ≡ false
unfolding registry.row_of rows.rows
return_stays v = refl

store_stays : is_unmissed (plain_op 3 (codes "memref.store") (Result 2 0 ∷ Arg 1 0 1 ∷ []) [] []) ≡ false
unfolding registry.row_of rows.rows
store_stays = refl

-- how the body of a function follows the body of a function
module _ (a now : Assignment) (later : ℕ → Bool) (m t : Operation) (os ps : OpsOf (List ℕ) TypeTerm AttrTerm) where
  abbrev function : OpsOf (List ℕ) TypeTerm AttrTerm → Operation
  function os = op (record { id = 1; name = codes "func.func"; operands = []; results = []; properties = []; attributes = [] }) (region (block (i8 ∷ i8 ∷ []) os) no_regions)

  bodies : OpsFollow (Stays 5 m t a now later) (next (function os) no_ops) (next (function ps) no_ops) → OpsFollow (Stays 5 m t a now later) os ps
  bodies (inl f) = f.0.1.0.1
  bodies (inr f) = never (sym (function_stays os) ∙ f.0)

-- how a return follows a return
returned : (a now : Assignment) (later : ℕ → Bool) (m t : Operation) (v w : Value) → OpsFollow (Stays 5 m t a now later) (returning v) (returning w)
    → Stays 5 m t a now later (head (plain_op 4 (codes "func.return") (v ∷ []) [] [])) (head (plain_op 4 (codes "func.return") (w ∷ []) [] []))
returned a now later m t v w (inl f) = f.0.0
returned a now later m t v w (inr f) = never (sym (return_stays v) ∙ f.0)

wiping_breaks : WipingBreaks
unfolding folds.rule_of folds.rules
wiping_breaks a done later i = never (sym (function_stays (returning (Arg 1 0 0))) ∙ i.shows.follows.0.1.0)

-- a function's arguments may represent themselves
pub arguments_unused : (y n : ℕ) → y < n → (v : Value) → n ≤ owner v → arguments_of y v ≡ None
arguments_unused y n l (Result x k) h = refl
arguments_unused y n l (Arg x r k) h = go (x == y) refl
  where
    less : (x y n : ℕ) → x ≡ y → y < n → n ≤ x → ⊥
    less x y n e l h = omega (arith, e, l, h)

    go : (b : Bool) → (x == y) ≡ b → (if b then Some (Arg x r k) else None) ≡ None
    go true e = absurd (less x y n (eqb-true x y e) l h)
    go false e = refl

pub arguments_stand : (a : Assignment) (later : ℕ → Bool) → AreOrigins 5 a (arguments_of 1) later (function_of 5 (returning (Arg 1 0 0))).tree
unfolding folds.rule_of folds.rules
arguments_stand a later = record {
  chosen = ((λ e. never e), ((((λ e. never e), ((((λ e. never e), tt), tt), tt)), tt), tt));
  computed = computed;
  unused = arguments_unused 1 5 (omega arith);
}
  where
    computed : (v : Value) → gives (λ x. true) (function_of 5 (returning (Arg 1 0 0))).tree v ≡ true → arguments_of 1 v ≡ None
    computed (Result x k) e = refl
    computed (Arg x r k) e = never e

abbrev which : Value → ℕ
which (Result x k) = k
which (Arg x r k) = k

other_argument_breaks : OtherArgumentBreaks
unfolding folds.rule_of folds.rules
other_argument_breaks a done later i =
    let m = (function_of 5 (returning (Arg 1 0 0))).tree in
    let t = (function_of 5 (returning (Arg 1 0 1))).tree in
    let s = returned a i.now later m t (Arg 1 0 0) (Arg 1 0 1) (bodies a i.now later m t (returning (Arg 1 0 0)) (returning (Arg 1 0 1)) i.shows.follows.0.1) in
    never (ap (λ v. eqb (which v) 0) (same_Some (Arg 1 0 1) (Arg 1 0 0) (s.still refl (arguments_of 1) (arguments_stand a later)).0))

erased_store_breaks : ErasedStoreBreaks
unfolding folds.rule_of folds.rules
erased_store_breaks a done later i =
    let m = (function_of 5 (summing (storing (returning (Result 2 0))))).tree in
    elim (bodies a i.now later m (function_of 5 (summing (returning (Result 2 0)))).tree (storing (returning (Result 2 0))) (returning (Result 2 0)) i.shows.follows.0.1) [
      | inl f ↦ never (sym (ap (λ (h : Header). eqb h.id 3) f.0.0.same))
      | inr f ↦ never (sym store_stays ∙ f.0)
    ]

unknown_stays : is_unmissed (plain_op 3 (codes "test.d") [] [] []) ≡ false
unfolding registry.row_of rows.rows
unknown_stays = refl

erased_unknown_breaks : ErasedUnknownBreaks
unfolding folds.rule_of folds.rules
erased_unknown_breaks a done later i =
    let m = (function_of 5 (unknown_then (returning (Arg 1 0 0)))).tree in
    elim (bodies a i.now later m (function_of 5 (returning (Arg 1 0 0))).tree (unknown_then (returning (Arg 1 0 0))) (returning (Arg 1 0 0)) i.shows.follows.0.1) [
      | inl f ↦ never (sym (ap (λ (h : Header). eqb h.id 3) f.0.0.same))
      | inr f ↦ never (sym unknown_stays ∙ f.0)
    ]

-- the constant has its number
constant_is : (now : Assignment) → Fits now 5 (head (plain_op 5 (codes "arith.constant") [] (i8 ∷ []) ((codes "value", IntegerOf i8 42) ∷ []))) → now (Result 5 0) ≡ Some (kind.Int 8, 42)
unfolding folds.fold_of folds.rule_of folds.rules words.operations words.is_inherent words.is_listed properties.is_allowed properties.is_of_kind properties.kind_of properties.property_kinds registry.row_of rows.rows
constant_is now e = sym (same_Some _ _ (sym constant_makes ∙ e))
  where
    constant_makes : makes (head (plain_op 5 (codes "arith.constant") [] (i8 ∷ []) ((codes "value", IntegerOf i8 42) ∷ []))) [] ≡ Some (Some (kind.Int 8, 42))
    constant_makes = refl

new_constant_breaks : NewConstantBreaks
unfolding folds.rule_of folds.rules
new_constant_breaks a done later known d i =
    let m = (function_of 5 (summing (returning (Result 2 0)))).tree in
    let now = i.now in
    let t = (function_of 6 (summing (numbering (returning (Result 5 0))))).tree in
    let s = returned a now later m t (Result 2 0) (Result 5 0) (bodies a now later m t (returning (Result 2 0)) (returning (Result 5 0)) i.shows.follows.0.1) in
    let fed = (and_parts (later 5) true (i.computing.fed.1.0.0.1.0.1.1.0.0 d)).0 in
    let b = (s.better refl d).0 in
    let is : now (Result 5 0) ≡ Some (kind.Int 8, 42) = elim (i.computing.fits.1.0.0.1.0.1.0.0 fed refl) [
      | inl e ↦ constant_is now e.0
      | inr e ↦ never e.0
    ] in
    never (sym (ap (λ o. refines o (now (Result 5 0))) known ∙ ap (refines (Some (kind.Int 8, 1))) is) ∙ b)

-- the flag `nsw` is broken
signed_breaks : breaks_flags (head (plain_op 2 (codes "arith.addi") (Arg 1 0 0 ∷ Arg 1 0 1 ∷ []) (i8 ∷ []) ((codes "overflowFlags", Overflow true false) ∷ []))) (Some (kind.Int 8, 127) ∷ Some (kind.Int 8, 1) ∷ []) ≡ true
unfolding folds.rule_of folds.rules sum_of readings.signed_of
signed_breaks = refl

added_flag_breaks : AddedFlagBreaks
unfolding folds.rule_of folds.rules
added_flag_breaks a done later first second sum d i =
    let h = head (plain_op 2 (codes "arith.addi") (Arg 1 0 0 ∷ Arg 1 0 1 ∷ []) (i8 ∷ []) ((codes "overflowFlags", Overflow true false) ∷ [])) in
    let left : i.now (Arg 1 0 0) ≡ Some (kind.Int 8, 127) = i.stays (Arg 1 0 0) (omega arith) refl ∙ first in
    let right : i.now (Arg 1 0 1) ≡ Some (kind.Int 8, 1) = i.stays (Arg 1 0 1) (omega arith) refl ∙ second in
    let gives : i.now (Result 2 0) ≡ Some (kind.Int 8, 128) =
    value_refined (kind.Int 8, 128) (i.now (Result 2 0)) (subst (λ o. refines o (i.now (Result 2 0)) ≡ true) sum (i.better (Result 2 0) (omega arith))) in
    elim (i.computing.fits.1.0.0.1.0.0.0 d refl) [
      | inl f ↦ never (sym f.1 ∙ (λ j. breaks_flags h (left j ∷ right j ∷ [])) ∙ signed_breaks)
      | inr b ↦ absurd (none-some (kind.Int 8, 128) (sym b.2 ∙ gives))
    ]

-- ---- the module before the last of them is ready, and computes
below : (k d : ℕ) → k < 4 → get_or (0 ∷ 1 ∷ 2 ∷ 4 ∷ []) k d < 5
below zero d l = omega arith
below (suc zero) d l = omega arith
below (suc (suc zero)) d l = omega arith
below (suc (suc (suc zero))) d l = omega arith
below (suc (suc (suc (suc k)))) d l = absurd (four k l)
  where
    four : (k : ℕ) → suc (suc (suc (suc k))) < 4 → ⊥
    four k l = omega (arith, l)

wellformed : IsWellFormed is_isolated (function_of 5 (summing (returning (Result 2 0))))
unfolding words.operations words.is_listed words.is_table words.is_isolated
wellformed = record {
  distinct = IsDistinct-from_count nat_eq_equiv (0 ∷ 1 ∷ 2 ∷ 4 ∷ []) refl;
  below = below;
  next = omega arith;
  wellformed = record { visible = refl; shallow = omega arith; counts = refl };
}

kinded : AreKinded (function_of 5 (summing (returning (Result 2 0)))).tree
unfolding folds.rule_of folds.rules
kinded = (refl, (((refl, (((refl, tt), ((refl, tt), tt)), tt)), tt), tt))

sum_typed : (k : ℕ) (ty : TypeTerm) → slice_get (i8 ∷ []) k ≡ Some ty → IsOfType ty (one_and_zero (Result 2 k))
sum_typed zero ty e = subst (λ ty. IsOfType ty (Some (kind.Int 8, 1))) (same_Some _ _ e) (refl, refl)
sum_typed (suc k) ty e = absurd (none-some ty e)

arguments_typed : (k : ℕ) (ty : TypeTerm) → slice_get (i8 ∷ i8 ∷ []) k ≡ Some ty → IsOfType ty (one_and_zero (Arg 1 0 k))
arguments_typed zero ty e = subst (λ ty. IsOfType ty (Some (kind.Int 8, 1))) (same_Some _ _ e) (refl, refl)
arguments_typed (suc zero) ty e = subst (λ ty. IsOfType ty (Some (kind.Int 8, 0))) (same_Some _ _ e) (refl, refl)
arguments_typed (suc (suc k)) ty e = absurd (none-some ty e)

computes : Computing one_and_zero all_done (function_of 5 (summing (returning (Result 2 0)))).tree
unfolding folds.rule_of folds.rules sum_of
computes = record {
  fits = ((λ d e. never e), ((((λ d e. never e), ((((λ d e. inl (refl, refl)), tt), (((λ d e. never e), tt), tt)), tt)), tt), tt));
  typed = (
    ((λ k ty e. absurd (none-some ty e)), ((((λ k ty e. absurd (none-some ty e)), (((sum_typed, tt), (((λ k ty e. absurd (none-some ty e)), tt), tt)), tt)), tt), tt)),
    (((λ k ty e. absurd (none-some ty e)), (((arguments_typed, (tt, (tt, tt))), tt), tt)), tt),
  );
  sure = ((λ d e. refl), ((((λ d e. refl), ((((λ d e. refl), tt), (((λ d e. refl), tt), tt)), tt)), tt), tt));
  fed = ((λ d. refl), ((((λ d. refl), ((((λ d. refl), tt), (((λ d. refl), tt), tt)), tt)), tt), tt));
}

sum_computes : SumComputes
sum_computes = (record { wellformed = wellformed; sorted = refl; kinded = kinded }, computes, refl)

greatest_typed : (k : ℕ) (ty : TypeTerm) → slice_get (i8 ∷ []) k ≡ Some ty → IsOfType ty (greatest_and_one (Result 2 k))
greatest_typed zero ty e = subst (λ ty. IsOfType ty (Some (kind.Int 8, 128))) (same_Some _ _ e) (refl, refl)
greatest_typed (suc k) ty e = absurd (none-some ty e)

greatest_arguments : (k : ℕ) (ty : TypeTerm) → slice_get (i8 ∷ i8 ∷ []) k ≡ Some ty → IsOfType ty (greatest_and_one (Arg 1 0 k))
greatest_arguments zero ty e = subst (λ ty. IsOfType ty (Some (kind.Int 8, 127))) (same_Some _ _ e) (refl, refl)
greatest_arguments (suc zero) ty e = subst (λ ty. IsOfType ty (Some (kind.Int 8, 1))) (same_Some _ _ e) (refl, refl)
greatest_arguments (suc (suc k)) ty e = absurd (none-some ty e)

overflow_computes : OverflowComputes
unfolding folds.rule_of folds.rules sum_of
overflow_computes = (
  record {
    fits = ((λ d e. never e), ((((λ d e. never e), ((((λ d e. inl (refl, refl)), tt), (((λ d e. never e), tt), tt)), tt)), tt), tt));
    typed = (
      ((λ k ty e. absurd (none-some ty e)), ((((λ k ty e. absurd (none-some ty e)), (((greatest_typed, tt), (((λ k ty e. absurd (none-some ty e)), tt), tt)), tt)), tt), tt)),
      (((λ k ty e. absurd (none-some ty e)), (((greatest_arguments, (tt, (tt, tt))), tt), tt)), tt),
    );
    sure = ((λ d e. refl), ((((λ d e. refl), ((((λ d e. refl), tt), (((λ d e. refl), tt), tt)), tt)), tt), tt));
    fed = ((λ d. refl), ((((λ d. refl), ((((λ d. refl), tt), (((λ d. refl), tt), tt)), tt)), tt), tt));
  },
  refl,
  refl,
  refl,
)

pub are_refused : AreRefused
are_refused = record { computes = sum_computes; wiping = wiping_breaks; other_argument = other_argument_breaks; erased_store = erased_store_breaks; erased_unknown = erased_unknown_breaks; new_constant = new_constant_breaks; overflow = overflow_computes; added_flag = added_flag_breaks }
