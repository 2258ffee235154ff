-- The first tests that fail, of the rules that read more of their operation than its head.
use Rattle.std.proofs.Common.{◌≡◌, refl, ap, sym, ◌∙◌, subst, ℕ, ◌<◌, List, [], ◌∷◌, length, Bool, true, false, Option, Some, None, arith}
use Rattle.std.proofs.lemmas.Option.{same_Some}
use Rattle.std.specs.Prelude.{◌&&◌, ◌||◌, codes, if◌then◌else◌, int_lt, is_some, not, option_map}
use Rattle.ir_event.specs.types.Things.{ContextModel}
use Rattle.ir_event.specs.types.Terms.{TypeTerm, AttrTerm, name_term}
use Rattle.ir_event.specs.trees.declared.value.Value.{Value}
use Rattle.ir_event.specs.trees.Tree.{op, RegionsOf, head}
use Rattle.ir_event.specs.trees.Ids.{find}
use Rattle.ir_event.specs.trees.Meaning.{Operation}
use Rattle.ir_event.specs.store.Nodes.{Node, node_of}
use Rattle.ir_event.specs.Modules.{node_meaning}
use Rattle.ir_event.proofs.Facts.{found_id}
use Rattle.ir_event.proofs.of_tree_laws.Listed.{both}
use Rattle.effects.specs.Dead.{dead_at, dead_in, is_unused}
use Rattle.patterns_plans.specs.Folds.{Known}
use Rattle.patterns_plans.specs.reads.Keeps.{given}
use Rattle.patterns_plans.specs.reads.Words.{named}
use Rattle.patterns_plans.specs.reads.Looks.{Ended, body, is_known, known}
use Rattle.patterns_plans.specs.reads.Reads.{header_of_node}
use Rattle.patterns_plans.specs.reads.Rule.TheVariants.{OpenBranch, OpenLoop, StopLoop}
use Rattle.patterns_plans.specs.reads.rules.Opening.{Loop, loop_from, reading}
use Rattle.patterns_plans.specs.declared.reason.Reason.{Reason}
use Rattle.patterns_plans.specs.declared.reason.Reason.TheVariants.{BlockNotVerified, BoundNotConstant, ConditionNotFalse, FirstNotConstant, HasEffects, RunsAgain, Used, WrongOperation}
use Rattle.patterns_plans.specs.Conditions.{Test, asks, first_failed_test, has, unless_holds}
use Rattle.patterns_plans.specs.RuleTests.{are_bounds_known, dead_tests, first_of, is_never, is_single, tests}
use Rattle.patterns_regions.specs.declared.trip_count.TripCount.{TripCount}
use Rattle.patterns_regions.specs.declared.trip_count.TripCount.TheVariants.{Zero, One, Several}
use Rattle.patterns_regions.specs.Answers.{several_reason}
use Rattle.patterns_regions.specs.Blocks.{body_at}
use Rattle.patterns_regions.specs.Times.{is_once, times_of}
use Rattle.patterns_regions.proofs.Viewed.{viewed}

-- the first test fails, or the first test holds and the others decide
pub fails : (b : Bool) (c : Reason) (ts : List Test) → b ≡ false → Some c ≡ first_failed_test (asks c b ∷ ts)
fails b c ts e = sym (ap (λ b. unless_holds b c (first_failed_test ts)) e)

pub goes_on : (b : Bool) (c : Reason) (ts : List Test) → b ≡ true → first_failed_test ts ≡ first_failed_test (asks c b ∷ ts)
goes_on b c ts e = sym (ap (λ b. unless_holds b c (first_failed_test ts)) e)

pub mapped_some : {X Y : Type 0} (f : X → Y) (p : Option X) → is_some p ≡ is_some (option_map f p)
mapped_some f None = refl
mapped_some f (Some x) = refl

and_false : (b : Bool) → (b && false) ≡ false
and_false true = refl
and_false false = refl

-- ---- dead operations
module _ (x : ℕ) (t : Operation) where
  pub dead_unused : dead_at x t ≡ true → is_unused x t ≡ true
  dead_unused d = go (find x t) refl d
    where
      go : (f : Option Operation) → find x t ≡ f → dead_in t f ≡ true → is_unused x t ≡ true
      go None e d = absurd cc
      go (Some o) e d =
          subst (λ y. is_unused y t ≡ true) (found_id x t o e)
          (both (is_unused (head o).id t) _ d).0

  pub dead_tested : is_unused x t ≡ true → None ≡ first_failed_test (dead_tests x t true)
  dead_tested u = goes_on (is_unused x t) Used (asks HasEffects true ∷ []) u

  pub effects_tested : is_unused x t ≡ true → Some HasEffects ≡ first_failed_test (dead_tests x t false)
  effects_tested u = goes_on (is_unused x t) Used (asks HasEffects false ∷ []) u

  pub used_tested : is_unused x t ≡ false → Some Used ≡ first_failed_test (dead_tests x t false)
  used_tested u = fails (is_unused x t) Used (asks HasEffects false ∷ []) u

-- ---- trip counts
abbrev is_zero : Option TripCount → Bool
is_zero None = false
is_zero (Some Zero) = true
is_zero (Some One) = false
is_zero (Some Several) = false

-- by known bounds and a known step
abbrev below : Option Known → Option Known → Option Bool
below a b = given a (λ low. given b (λ high. Some (int_lt (reading low) (reading high))))

abbrev times : Option Known → Option Known → Option Known → Option TripCount
times a b d = given a (λ low. given b (λ high.
    if int_lt (reading low) (reading high) then given d (λ by. Some (if is_once (reading low) (reading high) (reading by) then One else Several)) else Some Zero))

bounds_known : (a b d : Option Known) → has (λ w. not w || is_some d) (below a b) ≡ is_some (times a b d)
bounds_known None b d = refl
bounds_known (Some low) None d = refl
bounds_known (Some low) (Some high) d = go (int_lt (reading low) (reading high)) d
  where
    go : (w : Bool) (d : Option Known) → (not w || is_some d) ≡ is_some (if w then given d (λ by. Some (if is_once (reading low) (reading high) (reading by) then One else Several)) else Some Zero)
    go true None = refl
    go true (Some by) = refl
    go false d = refl

never_zero : (a b d : Option Known) → has not (below a b) ≡ is_zero (times a b d)
never_zero None b d = refl
never_zero (Some low) None d = refl
never_zero (Some low) (Some high) d = go (int_lt (reading low) (reading high)) d
  where
    more : (b : Bool) → false ≡ is_zero (Some (if b then One else Several))
    more true = refl
    more false = refl

    go : (w : Bool) (d : Option Known) → not w ≡ is_zero (if w then given d (λ by. Some (if is_once (reading low) (reading high) (reading by) then One else Several)) else Some Zero)
    go true None = refl
    go true (Some by) = more (is_once (reading low) (reading high) (reading by))
    go false d = refl

-- ---- branches and loops
pub outside : (x : ℕ) (m : Operation) (Q : Operation → Type 0) → None ≡ option_map (λ o. node_of o) (find x m) → (o : Operation) → find x m ≡ Some o → Q o
outside x m Q e o f = absurd (let none : None ≡ Some (node_of o) = e ∙ ap (option_map (λ o. node_of o)) f in cc)

module _ (c : ContextModel) (n : Node) (x : ℕ) (m : Operation) (at : Some (node_meaning c n) ≡ option_map (λ o. node_of o) (find x m)) where
  abbrev here : RegionsOf (List ℕ) TypeTerm AttrTerm → Operation
  here rs = op (header_of_node c n) rs

  abbrev operands : List Value
  operands = n.head.operands

  abbrev name : List ℕ
  name = name_term c n.head.name

  -- a property of the operation that the node shows is one of operation x
  shown : (Q : Operation → Type 0) → ((rs : RegionsOf (List ℕ) TypeTerm AttrTerm) → find x m ≡ Some (here rs) → Q (here rs)) → (o : Operation) → find x m ≡ Some o → Q o
  shown Q f = viewed c n (find x m) (λ z. (o : Operation) → z ≡ Some o → Q o) at (λ rs s k o e. subst Q (same_Some (here rs) o e) (f rs k))

  body_here : (rs : RegionsOf (List ℕ) TypeTerm AttrTerm) → find x m ≡ Some (here rs) → is_some (body m (here rs) 0) ≡ is_some (body_at x 0 m)
  body_here rs k = sym (ap (λ z. is_some (given z (λ o. body m o 0))) k)

  -- `open-branch`
  abbrev BranchFails : Option Reason → Bool → Operation → Type 0
  BranchFails r a o = r ≡ first_failed_test (tests OpenBranch m o a)

  abbrev chosen_tests : Bool → List Test
  chosen_tests a = asks BlockNotVerified a ∷ []

  abbrev known_tests : Bool → List Test
  known_tests a = asks FirstNotConstant (has (is_known m) (first_of operands)) ∷ chosen_tests a

  pub branch_other : (b : Bool) → b ≡ named (codes "scf.if") name → b ≡ false → (o : Operation) → find x m ≡ Some o → BranchFails (Some WrongOperation) false o
  branch_other b e f = shown (BranchFails (Some WrongOperation) false) (λ rs k.
      fails (named (codes "scf.if") name && is_single operands) WrongOperation (known_tests false) (ap (λ d. d && is_single operands) (sym e ∙ f)))

  pub branch_shape : (length n.head.operands ≡ 1 → ⊥) → (o : Operation) → find x m ≡ Some o → BranchFails (Some WrongOperation) false o
  branch_shape h = shown (BranchFails (Some WrongOperation) false) (λ rs k.
      fails (named (codes "scf.if") name && is_single operands) WrongOperation (known_tests false)
      (ap (λ s. named (codes "scf.if") name && s) (no_single operands h) ∙ and_false (named (codes "scf.if") name)))
    where
      no_single : (vs : List Value) → (length vs ≡ 1 → ⊥) → is_single vs ≡ false
      no_single [] h = refl
      no_single (v ∷ []) h = absurd (h refl)
      no_single (v ∷ w ∷ vs) h = refl

  module _ (b : Bool) (e : b ≡ named (codes "scf.if") name) (f : b ≡ true) (v : Value) (single : n.head.operands ≡ v ∷ []) where
    after_shape : (a : Bool) → first_failed_test (known_tests a) ≡ first_failed_test (asks WrongOperation (named (codes "scf.if") name && is_single operands) ∷ known_tests a)
    after_shape a = goes_on (named (codes "scf.if") name && is_single operands) WrongOperation (known_tests a) (λ i. (sym e ∙ f) i && is_single (single i))

    pub branch_unknown : None ≡ known m v → (o : Operation) → find x m ≡ Some o → BranchFails (Some FirstNotConstant) false o
    branch_unknown k = shown (BranchFails (Some FirstNotConstant) false) (λ rs i.
        fails (has (is_known m) (first_of operands)) FirstNotConstant (chosen_tests false) (ap (λ l. has (is_known m) (first_of l)) single ∙ ap is_some (sym k)) ∙ after_shape false)

    pub branch_known : (k : Known) → Some k ≡ known m v → (a : Bool) → (o : Operation) → find x m ≡ Some o → BranchFails (unless_holds a BlockNotVerified None) a o
    branch_known k g a = shown (BranchFails (unless_holds a BlockNotVerified None) a) (λ rs i.
        goes_on (has (is_known m) (first_of operands)) FirstNotConstant (chosen_tests a) (ap (λ l. has (is_known m) (first_of l)) single ∙ ap is_some (sym g)) ∙ after_shape a)

  -- `open-loop`
  abbrev LoopFails : Option Reason → Bool → Operation → Type 0
  LoopFails r a o = r ≡ first_failed_test (tests OpenLoop m o a)

  abbrev again_tests : Bool → List Test
  again_tests a = asks RunsAgain a ∷ []

  abbrev body_tests : Operation → Bool → List Test
  body_tests o a = asks BlockNotVerified (has (is_never m) (loop_from operands) || is_some (body m o 0)) ∷ again_tests a

  abbrev bound_tests : Operation → Bool → List Test
  bound_tests o a = asks BoundNotConstant (has (are_bounds_known m) (loop_from operands)) ∷ body_tests o a

  pub loop_other : (b : Bool) → b ≡ named (codes "scf.for") name → b ≡ false → (o : Operation) → find x m ≡ Some o → LoopFails (Some WrongOperation) false o
  loop_other b e f = shown (LoopFails (Some WrongOperation) false) (λ rs k.
      fails (named (codes "scf.for") name && is_some (loop_from operands)) WrongOperation (bound_tests (here rs) false) (ap (λ d. d && is_some (loop_from operands)) (sym e ∙ f)))

  pub loop_shape : length n.head.operands < 3 → (o : Operation) → find x m ≡ Some o → LoopFails (Some WrongOperation) false o
  loop_shape h = shown (LoopFails (Some WrongOperation) false) (λ rs k.
      fails (named (codes "scf.for") name && is_some (loop_from operands)) WrongOperation (bound_tests (here rs) false)
      (ap (λ s. named (codes "scf.for") name && s) (no_loop operands h) ∙ and_false (named (codes "scf.for") name)))
    where
      no_loop : (vs : List Value) → length vs < 3 → is_some (loop_from vs) ≡ false
      no_loop [] h = refl
      no_loop (v ∷ []) h = refl
      no_loop (v ∷ w ∷ []) h = refl
      no_loop (v ∷ w ∷ u ∷ vs) h = absurd (omega (arith, h))

  module _ (b : Bool) (e : b ≡ named (codes "scf.for") name) (f : b ≡ true) (lower upper step : Value) (inits : List Value) (shaped_as : n.head.operands ≡ lower ∷ upper ∷ step ∷ inits) where
    abbrev loop : Loop
    loop = record { lower = lower; upper = upper; step = step; inits = inits }

    after_name : (o : Operation) (a : Bool) → first_failed_test (bound_tests o a) ≡ first_failed_test (asks WrongOperation (named (codes "scf.for") name && is_some (loop_from operands)) ∷ bound_tests o a)
    after_name o a = goes_on (named (codes "scf.for") name && is_some (loop_from operands)) WrongOperation (bound_tests o a) (λ i. (sym e ∙ f) i && is_some (loop_from (shaped_as i)))

    bounds_are : has (are_bounds_known m) (loop_from operands) ≡ is_some (times_of m lower upper step)
    bounds_are = ap (λ l. has (are_bounds_known m) (loop_from l)) shaped_as ∙ bounds_known (known m lower) (known m upper) (known m step)

    never_is : has (is_never m) (loop_from operands) ≡ is_zero (times_of m lower upper step)
    never_is = ap (λ l. has (is_never m) (loop_from l)) shaped_as ∙ never_zero (known m lower) (known m upper) (known m step)

    pub loop_unknown : None ≡ times_of m lower upper step → (o : Operation) → find x m ≡ Some o → LoopFails (Some BoundNotConstant) false o
    loop_unknown k = shown (LoopFails (Some BoundNotConstant) false) (λ rs i.
        fails (has (are_bounds_known m) (loop_from operands)) BoundNotConstant (body_tests (here rs) false) (bounds_are ∙ ap is_some (sym k)) ∙ after_name (here rs) false)

    after_bounds : (t : TripCount) → Some t ≡ times_of m lower upper step → (o : Operation) (a : Bool) → first_failed_test (body_tests o a) ≡ first_failed_test (asks WrongOperation (named (codes "scf.for") name && is_some (loop_from operands)) ∷ bound_tests o a)
    after_bounds t k o a = goes_on (has (are_bounds_known m) (loop_from operands)) BoundNotConstant (body_tests o a) (bounds_are ∙ ap is_some (sym k)) ∙ after_name o a

    pub loop_never : Some Zero ≡ times_of m lower upper step → (o : Operation) → find x m ≡ Some o → LoopFails None true o
    loop_never k = shown (LoopFails None true) (λ rs i.
        goes_on (has (is_never m) (loop_from operands) || is_some (body m (here rs) 0)) BlockNotVerified (again_tests true) (ap (λ z. z || is_some (body m (here rs) 0)) (never_is ∙ ap is_zero (sym k)))
        ∙ after_bounds Zero k (here rs) true)

    -- a loop that runs, by whether its block is verified
    pub loop_later : (t : TripCount) → is_zero (Some t) ≡ false → Some t ≡ times_of m lower upper step → (a : Bool) → (o : Operation) → find x m ≡ Some o
        → LoopFails (unless_holds (is_some (body_at x 0 m)) BlockNotVerified (unless_holds a RunsAgain None)) a o
    loop_later t z k a = shown (LoopFails (unless_holds (is_some (body_at x 0 m)) BlockNotVerified (unless_holds a RunsAgain None)) a) (λ rs i.
        sym (ap (λ h. unless_holds h BlockNotVerified (unless_holds a RunsAgain None))
        (ap (λ z. z || is_some (body m (here rs) 0)) (never_is ∙ ap is_zero (sym k) ∙ z) ∙ body_here rs i))
        ∙ after_bounds t k (here rs) a)

    -- inlined once, if its block is verified
    pub loop_once : Some One ≡ times_of m lower upper step → (a : Bool) → a ≡ is_some (body_at x 0 m) → (o : Operation) → find x m ≡ Some o → LoopFails (unless_holds a BlockNotVerified None) a o
    loop_once k a h o i = go a ∙ ap (λ s. unless_holds s BlockNotVerified (unless_holds a RunsAgain None)) h ∙ loop_later One refl k a o i
      where
        go : (a : Bool) → unless_holds a BlockNotVerified None ≡ unless_holds a BlockNotVerified (unless_holds a RunsAgain None)
        go true = refl
        go false = refl

    pub loop_several : Some Several ≡ times_of m lower upper step → (r : Reason) → r ≡ several_reason (is_some (body_at x 0 m)) → (o : Operation) → find x m ≡ Some o → LoopFails (Some r) false o
    loop_several k r h o i = ap Some h ∙ go (is_some (body_at x 0 m)) ∙ loop_later Several refl k false o i
      where
        go : (b : Bool) → Some (several_reason b) ≡ unless_holds b BlockNotVerified (unless_holds false RunsAgain None)
        go true = refl
        go false = refl

  -- `stop-loop`
  abbrev StopFails : Option Reason → Bool → Operation → Type 0
  StopFails r a o = r ≡ first_failed_test (tests StopLoop m o a)

  abbrev condition_tests : Bool → List Test
  condition_tests a = asks ConditionNotFalse a ∷ []

  abbrev end_tests : Operation → Bool → List Test
  end_tests o a = asks BlockNotVerified (is_some (body m o 0)) ∷ condition_tests a

  pub stop_other : (b : Bool) → b ≡ named (codes "scf.while") name → b ≡ false → (o : Operation) → find x m ≡ Some o → StopFails (Some WrongOperation) false o
  stop_other b e f = shown (StopFails (Some WrongOperation) false) (λ rs k. fails (named (codes "scf.while") name) WrongOperation (end_tests (here rs) false) (sym e ∙ f))

  module _ (b : Bool) (e : b ≡ named (codes "scf.while") name) (f : b ≡ true) where
    pub stop_unverified : None ≡ body_at x 0 m → (o : Operation) → find x m ≡ Some o → StopFails (Some BlockNotVerified) false o
    stop_unverified k = shown (StopFails (Some BlockNotVerified) false) (λ rs i.
        fails (is_some (body m (here rs) 0)) BlockNotVerified (condition_tests false) (body_here rs i ∙ ap is_some (sym k))
        ∙ goes_on (named (codes "scf.while") name) WrongOperation (end_tests (here rs) false) (sym e ∙ f))

    pub stop_verified : (d : Ended) → Some d ≡ body_at x 0 m → (a : Bool) → (o : Operation) → find x m ≡ Some o → StopFails (unless_holds a ConditionNotFalse None) a o
    stop_verified d k a = shown (StopFails (unless_holds a ConditionNotFalse None) a) (λ rs i.
        goes_on (is_some (body m (here rs) 0)) BlockNotVerified (condition_tests a) (body_here rs i ∙ ap is_some (sym k))
        ∙ goes_on (named (codes "scf.while") name) WrongOperation (end_tests (here rs) a) (sym e ∙ f))
