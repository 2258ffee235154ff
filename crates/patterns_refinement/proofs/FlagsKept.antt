-- Flags stay unbroken for refined operands.
use Rattle.std.proofs.Common.{◌≡◌, ℕ, refl, ap, sym, ◌∙◌, List, [], ◌∷◌, map, Bool, true, false, true≢false, ◌&&◌, not, Option, Some, None, inl, inr}
use Rattle.std.specs.Prelude.{is_some, if◌then◌else◌}
use Rattle.std.specs.List.{list_all}
use Rattle.std.proofs.lemmas.Option.{none-some, same_Some}
use Rattle.ir_types.specs.declared.bits.BitsKind.{BitsKind}
use Rattle.ir_types.specs.Bits.{width_of}
use Rattle.ir_types.specs.Reasons.{is_width}
use Rattle.ir_tree.specs.declared.value.Value.TheVariants.{Result}
use Rattle.dialects_int.specs.declared.operations.Arithmetic.{Arithmetic}
use Rattle.dialects_int.specs.declared.operations.Cast.{Cast}
use Rattle.dialects_int.specs.declared.operations.Cast.TheVariants as cuts
use Rattle.dialects_int.specs.declared.operations.Rule.{Rule as How}
use Rattle.dialects_int.specs.declared.operations.Rule.TheVariants as how
use Rattle.dialects_int.specs.Folds.{rule_of}
use Rattle.user_patterns_check.specs.Checks.{refines}
use Rattle.user_patterns_check.specs.Outcomes.{Outcome, divides, is_some_number, pair_outcome, resize_outcome}
use Rattle.user_patterns_data.specs.Matching.{Header}
use Rattle.patterns_refinement.specs.Meaning.{Assignment, Obeys, breaks_by, breaks_cut, breaks_flags, breaks_pair, flags_of, makes, of_one, of_two, result_kind}
use Rattle.patterns_refinement.specs.Better.{AllBetter}
use Rattle.user_patterns_check.proofs.Keeping.{value_refined}
use Rattle.patterns_refinement.proofs.Forms.{makes_is}
use Rattle.patterns_refinement.proofs.Monotone.{none_made}

-- ---- operands are known if the outcome is
pub known_pair : (o : Arithmetic) (x y z : Outcome) → is_some z ≡ true → pair_outcome o x y ≡ Some z → (is_some x ≡ true) × (is_some y ≡ true)
known_pair o (Some x) (Some y) z k e = (refl, refl)
known_pair o (Some x) None z k e = absurd (true≢false (sym k ∙ ap is_some (none_made (divides o) z e).1))
known_pair o None y z k e = absurd (true≢false (sym k ∙ ap is_some (none_made (divides o && not (is_some_number y)) z e).1))

pub known_resized : (c : Cast) (j : BitsKind) (x z : Outcome) → is_some z ≡ true → resize_outcome c j x ≡ Some z → is_some x ≡ true
known_resized c j (Some x) z k e = refl
known_resized c j None z k e = absurd (go (is_width (width_of j)) e)
  where
    go : (b : Bool) → (if b then Some None else None) ≡ Some z → ⊥
    go true e = true≢false (sym k ∙ ap is_some (sym (same_Some _ _ e)))
    go false e = none-some z e

pub known_two : (g : Outcome → Outcome → Option Outcome) (z : Outcome) → ((x y : Outcome) → g x y ≡ Some z → (is_some x ≡ true) × (is_some y ≡ true)) → (xs : List Outcome) → of_two g xs ≡ Some z → list_all is_some xs ≡ true
known_two g z f [] e = absurd (none-some z e)
known_two g z f (x ∷ []) e = absurd (none-some z e)
known_two g z f (x ∷ y ∷ []) e = let q = f x y e in (λ i. q.0 i && (q.1 i && true))
known_two g z f (x ∷ y ∷ w ∷ xs) e = absurd (none-some z e)

pub known_one : (g : Outcome → Option Outcome) (z : Outcome) → ((x : Outcome) → g x ≡ Some z → is_some x ≡ true) → (xs : List Outcome) → of_one g xs ≡ Some z → list_all is_some xs ≡ true
known_one g z f [] e = absurd (none-some z e)
known_one g z f (x ∷ []) e = λ i. f x e i && true
known_one g z f (x ∷ y ∷ xs) e = absurd (none-some z e)

-- known operands have the same outcomes after a refinement
same_known : (xs ys : List Outcome) → list_all is_some xs ≡ true → AllBetter xs ys → ys ≡ xs
same_known [] [] e b = refl
same_known [] (y ∷ ys) e b = absurd b
same_known (x ∷ xs) [] e b = absurd b
same_known (None ∷ xs) (y ∷ ys) e b = absurd (true≢false (sym e))
same_known (Some k ∷ xs) (y ∷ ys) e b = (λ i. value_refined k y b.0 i ∷ same_known xs ys e b.1 i)

pub known_refined : (x y : Outcome) → refines x y ≡ true → is_some x ≡ true → is_some y ≡ true
known_refined None y e k = absurd (true≢false (sym k))
known_refined (Some k) y e s = ap is_some (value_refined k y e)

-- flags that aren't broken by operands with a defined outcome stay unbroken
pub still_unbroken : (h : Header) (xs ys : List Outcome) (z : Outcome) → makes h xs ≡ Some z → is_some z ≡ true → AllBetter xs ys → breaks_flags h xs ≡ false → breaks_flags h ys ≡ false
still_unbroken h xs ys z m s b e = go (rule_of h.name) refl (result_kind h) refl ∙ e
  where
    go : (r : Option How) → rule_of h.name ≡ r → (k : Option BitsKind) → result_kind h ≡ k → breaks_by r (flags_of h) k ys ≡ breaks_by r (flags_of h) k xs
    go None i k j = refl
    go (Some how.Constant) i k j = refl
    go (Some (how.Binary o)) i None j = refl
    go (Some (how.Binary o)) i (Some k) j =
        ap (breaks_pair (flags_of h) o (width_of k))
        (same_known xs ys (known_two (pair_outcome o) z (λ x y e. known_pair o x y z s e) xs (sym (makes_is h xs (how.Binary o) k i j) ∙ m)) b)
    go (Some how.Compare) i k j = refl
    go (Some how.Select) i k j = refl
    go (Some (how.IntegerCast cuts.Truncate)) i None j = refl
    go (Some (how.IntegerCast cuts.Truncate)) i (Some k) j =
        ap (breaks_cut (flags_of h) (width_of k))
        (same_known xs ys (known_one (resize_outcome cuts.Truncate k) z (λ x e. known_resized cuts.Truncate k x z s e) xs (sym (makes_is h xs (how.IntegerCast cuts.Truncate) k i j) ∙ m)) b)
    go (Some (how.IntegerCast cuts.ExtendSigned)) i k j = refl
    go (Some (how.IntegerCast cuts.ExtendUnsigned)) i k j = refl
    go (Some (how.IndexCast c)) i k j = refl

-- an operation with a known outcome doesn't break its flags
pub obeys_unbroken : (a : Assignment) (x : ℕ) (h : Header) → Obeys a x h → is_some (a (Result x 0)) ≡ true → breaks_flags h (map a h.operands) ≡ false
obeys_unbroken a x h (inl f) k = f.1
obeys_unbroken a x h (inr b) k = absurd (true≢false (sym k ∙ ap is_some b.2))
