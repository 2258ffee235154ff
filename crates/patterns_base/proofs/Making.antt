-- Rules that a conversion may try make an operation if they apply.
use Rattle.std.proofs.Common.{◌≡◌, ℕ, ◌+◌, ◌≤◌, List, [], ◌∷◌, ◌++◌, Bool, true, false, Some, None, refl, subst, arith}
use Rattle.std.specs.Prelude.{Option}
use Rattle.ir_types.specs.Terms.{TypeTerm}
use Rattle.ir_tree.specs.declared.place.Place.{Place}
use Rattle.ir_tree.specs.Tree.{head}
use Rattle.ir_tree.specs.Meaning.{Operation}
use Rattle.ir_tree_laws.specs.Values.{arguments_at}
use Rattle.op_registry.specs.Registry.{next_to}
use Rattle.patterns_laws.specs.integers.Folds.{Known}
use Rattle.rewriter_machine.specs.Contents.{Edit}
use Rattle.rewriter_machine.specs.Edits.{Make}
use Rattle.patterns_laws.specs.Keeps.{given}
use Rattle.patterns_laws.specs.Words.{predicate_of_min_max, division_of_remainder}
use Rattle.patterns_base.specs.declared.rule.Rule.TheVariants.{FoldToConstant, ExpandMinMax, ExpandDifference}
use Rattle.patterns_base.specs.declared.rule.Rule.TheVariants.{ExpandRemainder, LowerIndex, LowerLoop, LowerChoice}
use Rattle.patterns_base.specs.Looks.{Ended, when, two, body}
use Rattle.patterns_base.specs.Makes.{made_by}
use Rattle.patterns_base.specs.Folding.{folded_to, fold_to_constant, expand_min_max, expand_difference, expand_remainder}
use Rattle.patterns_base.specs.Lowering.{make_lowered, lowered_loop, lowered_if, lower_index, lower_loop, lower_choice}
use Rattle.patterns_base.specs.Rules.{rule}
use Rattle.patterns_base.specs.Rewrites.{ConvertingRulesMake}

-- edits make an operation
record Making (es : List Edit) : Type 0 where
  some : 1 ≤ made_by es

-- the edits make an operation, if there are any
record MakesSome (r : Option (List Edit)) : Type 0 where
  each : (es : List Edit) → r ≡ Some es → 1 ≤ made_by es

none_there : MakesSome None
none_there = record { each = λ es e. absurd (grind arith) }

there : (es : List Edit) → Making es → MakesSome (Some es)
there es h = record { each = λ fs e. subst (λ gs. 1 ≤ made_by gs) (let same : es ≡ fs = grind arith in same) h.some }

first : (place : Place) (o : Operation) (es : List Edit) → Making (Make place o ∷ es)
first place o es = record { some = omega arith }

pub joined : (es fs : List Edit) → made_by (es ++ fs) ≡ made_by es + made_by fs
joined [] fs = (let e : made_by ([] ++ fs) ≡ made_by fs = refl in omega (arith, e))
joined (e ∷ es) fs = omega (arith, joined es fs)

trailing : (es fs : List Edit) → Making fs → Making (es ++ fs)
trailing es fs h = record { some = omega (arith, joined es fs, h.some) }

in_insertion : (es fs : List Edit) → Making es → Making (es ++ fs)
in_insertion es fs h = record { some = omega (arith, joined es fs, h.some) }

tested : (b : Bool) (r : Option (List Edit)) → MakesSome r → MakesSome (when b r)
tested true r h = h
tested false r h = none_there

of_some : {X : Type 0} (x : Option X) (f : X → Option (List Edit)) → ((y : X) → MakesSome (f y)) → MakesSome (given x f)
of_some None f h = none_there
of_some (Some y) f h = h y

folding_makes : (t : Operation) (n : ℕ) (insertion : Place) (o : Operation) (tys : List TypeTerm) (k : Option Known) → MakesSome (folded_to t n insertion o tys k)
folding_makes t n insertion o [] k = none_there
folding_makes t n insertion o (ty ∷ []) None = none_there
folding_makes t n insertion o (ty ∷ []) (Some k) = there _ (first _ _ _)
folding_makes t n insertion o (ty ∷ u ∷ us) k = none_there

module _ (t : Operation) (n : ℕ) (insertion : Place) (o : Operation) where
  makes_fold_to_constant : MakesSome (fold_to_constant t n insertion o)
  makes_fold_to_constant = tested _ _ (folding_makes t n insertion o _ _)

  makes_expand_min_max : MakesSome (expand_min_max t n insertion o)
  makes_expand_min_max = of_some (two (head o)) _ (λ p. of_some (next_to p.name predicate_of_min_max) _ (λ asks. there _ (first _ _ _)))

  makes_expand_difference : MakesSome (expand_difference t n insertion o)
  makes_expand_difference = of_some (two (head o)) _ (λ p. tested _ _ (there _ (first _ _ _)))

  makes_expand_remainder : MakesSome (expand_remainder t n insertion o)
  makes_expand_remainder = of_some (two (head o)) _ (λ p. of_some (next_to p.name division_of_remainder) _ (λ division. there _ (first _ _ _)))

  lowered : Making (make_lowered t n insertion o)
  lowered = first _ _ _

  makes_lower_index : MakesSome (lower_index t n insertion o)
  makes_lower_index = tested _ _ (there _ (in_insertion _ _ (trailing _ (make_lowered t n insertion o) lowered)))

  loop_makes : (args : List TypeTerm) (e : Ended) → Making (lowered_loop t n insertion o args e)
  loop_makes args e = in_insertion _ _ (in_insertion _ _ (in_insertion _ _ (in_insertion _ _ (in_insertion _ _ (in_insertion _ _ (trailing _ (make_lowered t n insertion o) lowered))))))

  makes_lower_loop : MakesSome (lower_loop t n insertion o)
  makes_lower_loop = tested _ _ (of_some (arguments_at 0 o) _ (λ args. of_some (body t o 0) _ (λ e. there _ (loop_makes args e))))

  if_makes : (e f : Ended) → Making (lowered_if t n insertion o e f)
  if_makes e f = first _ _ _

  makes_lower_choice : MakesSome (lower_choice t n insertion o)
  makes_lower_choice = tested _ _ (of_some (body t o 0) _ (λ e. of_some (body t o 1) _ (λ f. there _ (if_makes e f))))

pub converting_rules_make : ConvertingRulesMake
unfolding rule
converting_rules_make FoldToConstant t n insertion o es listed = (makes_fold_to_constant t n insertion o).each es
converting_rules_make ExpandMinMax t n insertion o es listed = (makes_expand_min_max t n insertion o).each es
converting_rules_make ExpandDifference t n insertion o es listed = (makes_expand_difference t n insertion o).each es
converting_rules_make ExpandRemainder t n insertion o es listed = (makes_expand_remainder t n insertion o).each es
converting_rules_make LowerIndex t n insertion o es listed = (makes_lower_index t n insertion o).each es
converting_rules_make LowerLoop t n insertion o es listed = (makes_lower_loop t n insertion o).each es
converting_rules_make LowerChoice t n insertion o es listed = (makes_lower_choice t n insertion o).each es
converting_rules_make _ t n insertion o es listed = absurd (grind arith)
