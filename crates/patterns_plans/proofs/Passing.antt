-- Each rule applies exactly if all its conditions hold.
use Rattle.std.proofs.Common.{◌≡◌, refl, ap, ℕ, List, [], ◌∷◌, Bool, true, false, Option, Some, None, map}
use Rattle.std.specs.Prelude.{◌&&◌, ◌||◌, is_some, codes, not, if◌then◌else◌}
use Rattle.std.specs.List.{list_all, list_any}
use Rattle.patterns_matchers.specs.Contents.{Edit}
use Rattle.ir_event.specs.trees.declared.place.Place.{Place}
use Rattle.ir_event.specs.trees.declared.value.Value.{Value}
use Rattle.ir_event.specs.trees.Meaning.{Operation}
use Rattle.ir_event.specs.trees.Tree.{head}
use Rattle.patterns_base.specs.Keeps.{given}
use Rattle.patterns_base.specs.Looks.{is_erasable, known, is_known, when, one, two, three, predicate, source, source_among, is_index, is_index_value, is_constant, body, One}
use Rattle.op_registry.specs.Registry.{next_to}
use Rattle.patterns_base.specs.Casting.{resizing, unrealized, through_index}
use Rattle.patterns_base.specs.Words.{among, commutative, predicate_of_min_max, division_of_remainder, extensions, index_casts, named}
use Rattle.patterns_base.specs.Lowering.{any}
use Rattle.patterns_base.specs.Opening.{by_condition, by_bounds, loop_from, Loop}
use Rattle.patterns_base.specs.Rules.{rule}
use Rattle.patterns_base.specs.declared.rule.Rule.{Rule}
use Rattle.patterns_base.specs.declared.rule.Rule.TheVariants as rules
use Rattle.patterns_plans.specs.declared.reason.Reason.TheVariants.{WrongOperation}
use Rattle.patterns_plans.specs.Conditions.{all_hold, asks, has}
use Rattle.patterns_plans.specs.RuleTests.{tests, cast_tests, unrealized_tests, index_tests, is_single, first_of, are_bounds_known, is_never}
use Rattle.patterns_plans.specs.Numbers.{is_readable}
use Rattle.patterns_plans.proofs.Parts as parts

-- a mapped list has a set mark exactly if an element passes the test
pub any_mapped : {X : Type 0} (f : X → Bool) (xs : List X) → any (map f xs) ≡ list_any f xs
any_mapped f [] = refl
any_mapped f (x ∷ xs) = ap (λ b. f x || b) (any_mapped f xs)

module _ (t : Operation) (n : ℕ) (insertion : Place) (o : Operation) where
  -- all conditions of rule r hold exactly if the rule makes edits
  abbrev pub Passes : Rule → Type 0
  Passes r = all_hold (tests r t o (is_some (rule r t n insertion o))) ≡ is_some (rule r t n insertion o)

  erase_dead : Passes rules.EraseDead
  unfolding rule is_erasable
  erase_dead = parts.dead _ _ _

  fold_to_constant : Passes rules.FoldToConstant
  unfolding rule
  fold_to_constant = parts.folds {Y = List Edit} (not (named (codes "arith.constant") (head o).name)) (list_all (is_readable t) (head o).operands) (list_all (is_known t) (head o).operands) _

  swap_constant : Passes rules.SwapConstant
  unfolding rule
  swap_constant = parts.of_three _ _ _ _ (two (head o)) (λ p. parts.three_in_turn {Y = List Edit} (among commutative p.name) (is_known t p.first) (not (is_constant t p.second)) _)

  drop_zero : Passes rules.DropZero
  unfolding rule
  drop_zero = parts.of_three _ _ _ _ (two (head o)) (λ p. parts.numbered _ (known t p.second) _ _)

  drop_one : Passes rules.DropOne
  unfolding rule
  drop_one = parts.of_three _ _ _ _ (two (head o)) (λ p. parts.numbered _ (known t p.second) _ _)

  drop_all_ones : Passes rules.DropAllOnes
  unfolding rule
  drop_all_ones = parts.of_three _ _ _ _ (two (head o)) (λ p. parts.numbered _ (known t p.second) _ _)

  cancel_itself : Passes rules.CancelItself
  unfolding rule
  cancel_itself = parts.of_two _ _ _ (two (head o)) (λ p. parts.in_turn _ _ _)

  keep_itself : Passes rules.KeepItself
  unfolding rule
  keep_itself = parts.of_two _ _ _ (two (head o)) (λ p. parts.in_turn _ _ _)

  zero_remainder : Passes rules.ZeroRemainder
  unfolding rule
  zero_remainder = parts.of_three _ _ _ _ (two (head o)) (λ p. parts.numbered _ (known t p.second) _ _)

  add_negative : Passes rules.AddNegative
  unfolding rule
  add_negative = parts.of_two _ _ _ (two (head o)) (λ p. parts.when_something _ (known t p.second) _)

  compare_itself : Passes rules.CompareItself
  unfolding rule
  compare_itself = parts.compared _ _ (two (head o)) (predicate (head o)) _

  mirror_comparison : Passes rules.MirrorComparison
  unfolding rule
  mirror_comparison = parts.mirrored _ _ _ (two (head o)) (predicate (head o)) _

  compare_zero : Passes rules.CompareZero
  unfolding rule
  compare_zero = parts.with_zero _ (λ p. known t p.second) _ _ (two (head o)) (predicate (head o)) _

  choose_same : Passes rules.ChooseSame
  unfolding rule
  choose_same = parts.of_two _ _ _ (three (head o)) (λ p. parts.nested _ _ _)

  choose_known : Passes rules.ChooseKnown
  unfolding rule
  choose_known = parts.of_two _ _ _ (three (head o)) (λ p. parts.when_something _ (known t p.first) _)

  choose_truth : Passes rules.ChooseTruth
  unfolding rule
  choose_truth = parts.of_five _ _ _ _ _ _ (three (head o)) (λ p. parts.truth _ _ _ (known t p.second) _ _)

  choose_opposite : Passes rules.ChooseOpposite
  unfolding rule
  choose_opposite = parts.of_three _ _ _ _ (three (head o)) (λ p. parts.with_inner two _ _ _ (source t (codes "arith.xori") p.first))

  extend_extension : Passes rules.ExtendExtension
  unfolding rule
  extend_extension = parts.of_two _ _ _ (one (head o)) (λ p. parts.extended one _ _ _ (source_among t extensions p.first))

  cut_cast : Passes rules.CutCast
  unfolding rule
  cut_cast = parts.of_three _ _ _ _ (one (head o)) (λ p. parts.cut one _ _ _ _ _ (source_among t resizing p.first))

  expand_min_max : Passes rules.ExpandMinMax
  unfolding rule
  expand_min_max = parts.of_one _ _ (two (head o)) (λ p. parts.something (next_to p.name predicate_of_min_max) _)

  expand_difference : Passes rules.ExpandDifference
  unfolding rule
  expand_difference = parts.of_one _ _ (two (head o)) (λ p. parts.some_when _ _)

  expand_remainder : Passes rules.ExpandRemainder
  unfolding rule
  expand_remainder = parts.of_one _ _ (two (head o)) (λ p. parts.something (next_to p.name division_of_remainder) _)

  lower_index : Passes rules.LowerIndex
  unfolding rule
  lower_index = parts.and_true _

  stop_loop : Passes rules.StopLoop
  unfolding rule
  stop_loop = parts.stops _ (body t o 0) _

  -- ---- rules whose conditions need a case analysis

  regroup_constants : Passes rules.RegroupConstants
  unfolding rule
  regroup_constants = parts.of_regrouping two (λ q. known t q.second) _ (λ p. source t p.name p.first) (λ p. known t p.second) _ (two (head o))

  cast_back : Passes rules.CastBack
  unfolding rule
  cast_back = casts (one (head o))
    where
      inside : (b : Bool) (p : One) → all_hold (if b then unrealized_tests t p else (asks WrongOperation (among index_casts p.name) ∷ index_tests t p))
          ≡ is_some (if b then unrealized t n insertion o p else when (among index_casts p.name) (through_index t n insertion o p))
      inside true p = parts.unrealized one _ _ _ _ (source t p.name p.first)
      inside false p = parts.through one _ _ _ _ (source t p.name p.first)

      casts : (p : Option One) → all_hold (cast_tests t p) ≡ is_some (given p (λ p. if named (codes "builtin.unrealized_conversion_cast") p.name then unrealized t n insertion o p else when (among index_casts p.name) (through_index t n insertion o p)))
      casts None = refl
      casts (Some p) = inside (named (codes "builtin.unrealized_conversion_cast") p.name) p

  open_branch : Passes rules.OpenBranch
  unfolding rule
  open_branch = of_if (named (codes "scf.if") (head o).name) (head o).operands
    where
      of_one : (vs : List Value) → is_single vs && (has (is_known t) (first_of vs) && (is_some (by_condition t insertion o vs) && true)) ≡ is_some (by_condition t insertion o vs)
      of_one [] = refl
      of_one (c ∷ []) = parts.known_last (known t c) _
      of_one (c ∷ d ∷ vs) = refl

      of_if : (b : Bool) (vs : List Value) → (b && is_single vs) && (has (is_known t) (first_of vs) && (is_some (when b (by_condition t insertion o vs)) && true)) ≡ is_some (when b (by_condition t insertion o vs))
      of_if true vs = of_one vs
      of_if false vs = refl

  open_loop : Passes rules.OpenLoop
  unfolding rule
  open_loop = of_for (named (codes "scf.for") (head o).name) (loop_from (head o).operands)
    where
      of_loop : (l : Option Loop) → is_some l && (has (are_bounds_known t) l && ((has (is_never t) l || is_some (body t o 0)) && (is_some (given l (by_bounds t insertion o)) && true))) ≡ is_some (given l (by_bounds t insertion o))
      of_loop None = refl
      of_loop (Some l) = parts.by_bounds _ _ _ _ (known t l.lower) (known t l.upper) (known t l.step) (body t o 0)

      of_for : (b : Bool) (l : Option Loop) → (b && is_some l) && (has (are_bounds_known t) l && ((has (is_never t) l || is_some (body t o 0)) && (is_some (when b (given l (by_bounds t insertion o))) && true))) ≡ is_some (when b (given l (by_bounds t insertion o)))
      of_for true l = of_loop l
      of_for false l = refl

  lower_loop : Passes rules.LowerLoop
  unfolding rule
  lower_loop = rw (← any_mapped (is_index_value t) (head o).operands) (parts.lowers {Y = List Edit} (named (codes "scf.for") (head o).name) (any (map (is_index_value t) (head o).operands)) _)

  lower_choice : Passes rules.LowerChoice
  unfolding rule
  lower_choice = rw (← any_mapped is_index (head o).results) (parts.lowers {Y = List Edit} (named (codes "scf.if") (head o).name) (any (map is_index (head o).results)) _)

  -- all rules
  pub passes : (r : Rule) → Passes r
  passes rules.EraseDead = erase_dead
  passes rules.FoldToConstant = fold_to_constant
  passes rules.SwapConstant = swap_constant
  passes rules.DropZero = drop_zero
  passes rules.DropOne = drop_one
  passes rules.DropAllOnes = drop_all_ones
  passes rules.CancelItself = cancel_itself
  passes rules.KeepItself = keep_itself
  passes rules.ZeroRemainder = zero_remainder
  passes rules.RegroupConstants = regroup_constants
  passes rules.AddNegative = add_negative
  passes rules.CompareItself = compare_itself
  passes rules.MirrorComparison = mirror_comparison
  passes rules.CompareZero = compare_zero
  passes rules.ChooseSame = choose_same
  passes rules.ChooseKnown = choose_known
  passes rules.ChooseTruth = choose_truth
  passes rules.ChooseOpposite = choose_opposite
  passes rules.ExtendExtension = extend_extension
  passes rules.CutCast = cut_cast
  passes rules.CastBack = cast_back
  passes rules.OpenBranch = open_branch
  passes rules.OpenLoop = open_loop
  passes rules.StopLoop = stop_loop
  passes rules.ExpandMinMax = expand_min_max
  passes rules.ExpandDifference = expand_difference
  passes rules.ExpandRemainder = expand_remainder
  passes rules.LowerIndex = lower_index
  passes rules.LowerLoop = lower_loop
  passes rules.LowerChoice = lower_choice
