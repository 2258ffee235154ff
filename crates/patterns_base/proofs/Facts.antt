-- Properties of trees that many proofs need.
use Rattle.rewriter_machine.specs.events.Modules.{Module}
use Rattle.ir_tree.specs.Ids.{find}
use Rattle.ir_tree.specs.Tree.{head}
use Rattle.ir_tree.specs.declared.place.Place.{Place}
use Rattle.ir_tree.specs.declared.value.Value.{Value}
use Rattle.ir_types.proofs.SameTerms.{type_refl}
use Rattle.ir_types.specs.SameTypes.{same_type}
use Rattle.ir_types.specs.Terms.{Function, Index, Integer, Memref, OpaqueType, TypeTerm}
use Rattle.patterns_base.specs.Looks.{Header, breaks_none, insertion_of, has_own_properties, is_verified, is_in_order, is_index, when}
use Rattle.patterns_base.specs.Lowering.{bridges, crossed, marked}
use Rattle.patterns_base.specs.Makes.{made_by}
use Rattle.patterns_base.specs.Rewrites.{edits_of, rewrite_by, rewrite_of, eligible}
use Rattle.patterns_base.specs.RuleNames.{is_erasing, is_lowering}
use Rattle.patterns_base.specs.Rules.{rule}
use Rattle.patterns_base.specs.declared.rule.Rule.{Rule}
use Rattle.patterns_base.specs.declared.rule.Rule.TheVariants.{EraseDead, FoldToConstant, SwapConstant, DropZero, DropOne, DropAllOnes, CancelItself, KeepItself, ZeroRemainder, RegroupConstants, AddNegative, CompareItself, MirrorComparison, CompareZero, ChooseSame}
use Rattle.patterns_base.specs.declared.rule.Rule.TheVariants.{ChooseKnown, ChooseTruth, ChooseOpposite, ExtendExtension, CutCast, CastBack, OpenBranch, OpenLoop, StopLoop, ExpandMinMax, ExpandDifference, ExpandRemainder, LowerIndex, LowerLoop, LowerChoice}
use Rattle.patterns_laws.specs.Keeps.{given, lowered_type}
use Rattle.ir_tree.specs.Meaning.{Operation}
use Rattle.ir_tree_laws.proofs.Listed.{both}
use Rattle.ir_verify.proofs.Verdicts.{none_reported}
use Rattle.ir_verify.specs.Diagnostics.{broken_at, reported_at}
use Rattle.std.proofs.Common.{[], Bool, List, None, Option, Some, ap, arith, false, if◌then◌else◌, length, not, refl, sym, true, ℕ, ◌&&◌, ◌++◌, ◌+◌, ◌<◌, ◌||◌, ◌∙◌, ◌∷◌, ◌≡◌, ◌≤◌, ◌⊎◌}
use Rattle.std.specs.Prelude.{◌&&◌}

pub rewrite_is : (r : Rule) (m : Module) (x : ℕ) → rewrite_of r m x ≡ rewrite_by (edits_of r m x) m
unfolding rewrite_of
rewrite_is r m x = refl

pub edits_are : (r : Rule) (m : Module) (x : ℕ) → edits_of r m x ≡ given (find x m.tree) (λ o. given (insertion_of x m.tree) (λ insertion. when (eligible r m.tree (head o)) (rule r m.tree m.next insertion o)))
unfolding edits_of
edits_are r m x = refl

-- an operation that is eligible for a rule
breaks_nothing : (o : Option (List ℕ)) → breaks_none o ≡ true → o ≡ Some []
breaks_nothing None e = absurd cc
breaks_nothing (Some []) e = refl
breaks_nothing (Some (r ∷ rs)) e = absurd cc

pub verified_in_order : (t : Operation) (h : Header) → is_verified t h ≡ true → is_in_order t h ≡ true
unfolding is_verified is_in_order
verified_in_order t h e =
    let w = both (breaks_none (broken_at h.id t)) (has_own_properties h) e in
    λ i. breaks_none (none_reported h.id t (breaks_nothing (broken_at h.id t) w.0) i) && w.1 i

module _ (r : Rule) (t : Operation) (h : Header) where
  pub eligible_is : eligible r t h ≡ (if is_erasing r then is_in_order t h else is_verified t h)
  unfolding eligible
  eligible_is = refl

  pub erasing_eligible : is_erasing r ≡ true → eligible r t h ≡ is_in_order t h
  erasing_eligible e = eligible_is ∙ ap (λ b. if b then is_in_order t h else is_verified t h) e

  pub others_suit : is_erasing r ≡ false → eligible r t h ≡ is_verified t h
  others_suit e = eligible_is ∙ ap (λ b. if b then is_in_order t h else is_verified t h) e

  pub verified_eligible : is_verified t h ≡ true → eligible r t h ≡ true
  verified_eligible e = eligible_is ∙ go (is_erasing r)
    where
      go : (b : Bool) → (if b then is_in_order t h else is_verified t h) ≡ true
      go true = verified_in_order t h e
      go false = e

  pub suited_in_order : eligible r t h ≡ true → is_in_order t h ≡ true
  suited_in_order e = go (is_erasing r) (sym eligible_is ∙ e)
    where
      go : (b : Bool) → (if b then is_in_order t h else is_verified t h) ≡ true → is_in_order t h ≡ true
      go true e = e
      go false e = verified_in_order t h e

  pub unsuited : is_in_order t h ≡ false → eligible r t h ≡ false
  unsuited e = go (eligible r t h) refl
    where
      go : (b : Bool) → eligible r t h ≡ b → eligible r t h ≡ false
      go true k = (let no : true ≡ false = sym (suited_in_order k) ∙ e in absurd cc)
      go false k = k

pub erases_not : (r : Rule) → is_lowering r ≡ true → is_erasing r ≡ false
erases_not EraseDead e = absurd cc
erases_not FoldToConstant e = refl
erases_not SwapConstant e = refl
erases_not DropZero e = refl
erases_not DropOne e = refl
erases_not DropAllOnes e = refl
erases_not CancelItself e = refl
erases_not KeepItself e = refl
erases_not ZeroRemainder e = refl
erases_not RegroupConstants e = refl
erases_not AddNegative e = refl
erases_not CompareItself e = refl
erases_not MirrorComparison e = refl
erases_not CompareZero e = refl
erases_not ChooseSame e = refl
erases_not ChooseKnown e = refl
erases_not ChooseTruth e = refl
erases_not ChooseOpposite e = refl
erases_not ExtendExtension e = refl
erases_not CutCast e = refl
erases_not CastBack e = refl
erases_not OpenBranch e = refl
erases_not OpenLoop e = refl
erases_not StopLoop e = refl
erases_not ExpandMinMax e = refl
erases_not ExpandDifference e = refl
erases_not ExpandRemainder e = refl
erases_not LowerIndex e = refl
erases_not LowerLoop e = refl
erases_not LowerChoice e = refl

pub when_some : {X : Type 0} (b : Bool) (r : Option X) (y : X) → when b r ≡ Some y → (b ≡ true) × (r ≡ Some y)
when_some true r y e = (refl, e)
when_some false r y e = absurd cc

pub kept_type : (ty : TypeTerm) → is_index ty ≡ false → same_type ty (lowered_type ty) ≡ true
kept_type Index e = absurd cc
kept_type (Integer s n) e = type_refl (Integer s n)
kept_type (Function is os) e = type_refl (Function is os)
kept_type (Memref ds u) e = type_refl (Memref ds u)
kept_type (OpaqueType s) e = type_refl (OpaqueType s)

pub bridges_make : (ty : TypeTerm) (place : Place) (ms : List Bool) (vs : List Value) → length ms ≡ length vs → made_by (bridges ty place ms vs) ≡ marked ms
bridges_make ty place [] vs h = refl
bridges_make ty place (true ∷ ms) [] h = absurd (omega (arith, h))
bridges_make ty place (false ∷ ms) [] h = absurd (omega (arith, h))
bridges_make ty place (true ∷ ms) (v ∷ vs) h = (let e = bridges_make ty place ms vs (omega (arith, h)) in omega (arith, e))
bridges_make ty place (false ∷ ms) (v ∷ vs) h = bridges_make ty place ms vs (omega (arith, h))

pub crossed_length : (n : ℕ) (ms : List Bool) (vs : List Value) → length ms ≡ length vs → length (crossed n ms vs) ≡ length vs
crossed_length n [] [] e = refl
crossed_length n [] (v ∷ vs) e = absurd (omega (arith, e))
crossed_length n (true ∷ ms) [] e = absurd (omega (arith, e))
crossed_length n (false ∷ ms) [] e = absurd (omega (arith, e))
crossed_length n (true ∷ ms) (v ∷ vs) e = (let k = crossed_length (n + 1) ms vs (omega (arith, e)) in omega (arith, k))
crossed_length n (false ∷ ms) (v ∷ vs) e = (let k = crossed_length n ms vs (omega (arith, e)) in omega (arith, k))
