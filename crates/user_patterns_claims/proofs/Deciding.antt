-- True claims decide a pattern.
use Rattle.std.proofs.Common.{◌≡◌, ◌∙◌, ℕ, ◌+◌, ◌^◌, ◌<◌, ◌≤◌, ◌==◌, List, [], ◌∷◌, ◌++◌, length, map, Bool, true, false, true≢false, ◌||◌, if◌then◌else◌, Option, Some, None, slice_get, nat_lt, refl, sym, ap, subst, arith, eqb}
use Rattle.std.specs.List.{list_all, list_any}
use Rattle.std.proofs.Math.Path.{ap₂}
use Rattle.std.proofs.lemmas.Bool.{and_from, and_parts}
use Rattle.std.proofs.lemmas.List.{append_assoc, append-nil, length-map, map-append}
use Rattle.std.proofs.lemmas.Bool.Decides.{nat_tests}
use Rattle.ir_types.specs.declared.bits.BitsKind.{BitsKind}
use Rattle.ir_types.specs.Bits.{is_bits, width_of}
use Rattle.ir_types.specs.Reasons.{is_width}
use Rattle.dialects_int.specs.Folds.{Known}
use Rattle.ir_types.specs.Limits.{most_width}
use Rattle.dialects_int.specs.declared.operations.Arithmetic.{Arithmetic}
use Rattle.dialects_int.specs.declared.operations.Arithmetic.TheVariants as op
use Rattle.user_patterns_check.specs.declared.step.Step.{Step}
use Rattle.user_patterns_check.specs.Contents.{Content}
use Rattle.user_patterns_check.specs.Checks.{bound, keeps, new_refines, old_ran, old_refined, refines, shown}
use Rattle.user_patterns_check.specs.Outcomes.{Outcome, given, run}
use Rattle.user_patterns_data.specs.declared.pattern.Expression as registry
use Rattle.user_patterns_data.specs.declared.pattern.Expression.TheVariants as op_form
use Rattle.user_patterns_data.specs.declared.pattern.PatternOp as matched
use Rattle.user_patterns_data.specs.declared.pattern.ExtraConstant.{ExtraConstant}
use Rattle.user_patterns_data.specs.declared.pattern.ExtraConstant.TheVariants as extra
use Rattle.user_patterns_data.specs.declared.pattern.ConstantExpression.{ConstantExpression}
use Rattle.user_patterns_data.specs.declared.pattern.ConstantExpression.TheVariants as number
use Rattle.user_patterns_data.specs.declared.pattern.NewValue.{NewValue}
use Rattle.user_patterns_data.specs.declared.pattern.NewValue.TheVariants as new
use Rattle.user_patterns_data.specs.Fitting.{content_with, fits, form_step, extra_fits, extra_step, is_requested, kind_at, new_step, number_fits, number_step, pattern_op_step}
use Rattle.user_patterns_data.specs.Shapes.{PatternModel}
use Rattle.width_claims.specs.declared.width.Narrower.{Narrower}
use Rattle.width_claims.specs.Right.{AreNarrower, FitWidths}
use Rattle.user_patterns_instructions.specs.declared.instruction.Instruction.{Instruction}
use Rattle.user_patterns_instructions.specs.declared.operand.Operand.{Operand}
use Rattle.user_patterns_instructions.specs.declared.operand.Poison.{Poison}
use Rattle.user_patterns_instructions.specs.declared.operand.Poison.TheVariants as poison
use Rattle.user_patterns_instructions.proofs.Flags.{PoisonIs}
use Rattle.dialects_int.specs.Arithmetic.{truth}
use Rattle.user_patterns_claims.specs.Outcomes.{AreKindsOf, AreOutcomes, IsNumberIf, OutcomesDecide, are_kinds, is_number_at, keeps_outcomes, old_result}
use Rattle.user_patterns_claims.specs.Settled.{AreClaimsTrue, AreEmptyClaimsTrue, ClaimsDecide, EmptyClaimsDecide, IsReached}
use Rattle.user_patterns_instructions.specs.Expressions.{claim_types, narrower_types, operand_at}
use Rattle.user_patterns_claims.specs.Translation.{Goal, Sides, State, all_translated, claim_from, empty_goal_from, empty_goal_of, empty_sides, extra_instruction, first_state, form_instruction, given_instructions, goal_from, goal_of, new_instruction, new_instructions, number_instruction, old_form, old_instruction, old_instructions, sides, variables}
use Rattle.user_patterns_instructions.proofs.PatternOps.{Is, many}
use Rattle.user_patterns_instructions.proofs.Operands.{Stands, outcome_by, stands_still}
use Rattle.user_patterns_claims.proofs.Typing.{claim_kinds}
use Rattle.user_patterns_claims.proofs.Instructions.{AllGo, Holds, Reached, all_go, found, instruction_fits, instruction_step, is_partial, ones_still}
use Rattle.user_patterns_claims.proofs.BothSides.{ClaimsSome, sides_claim, truth_one}
use Rattle.user_patterns_claims.proofs.VariableOutcomes.{are_narrower, conditions_hold, VariablesHold, first_holds, fits_in, masks_of, number_of, set_low, set_of, variables_hold}

-- ---- a pattern's steps are those of its instructions

module _ (ks : List BitsKind) where
  extra_alike : (f : ExtraConstant) → extra_step ks f ≡ instruction_step ks (extra_instruction f)
  extra_alike (extra.Literal l) = refl
  extra_alike (extra.SameAs i) = refl

  number_alike : (n : ConstantExpression) → number_step ks n ≡ instruction_step ks (number_instruction n)
  number_alike (number.Literal l) = refl
  number_alike (number.Width t) = refl
  number_alike (number.Binary o i j) = refl
  number_alike (number.Compare q i j) = refl
  number_alike (number.Log2 i) = refl
  number_alike (number.Require i) = refl

  form_alike : (t : ℕ) (f : registry.Expression) → form_step (kind_at ks t) f ≡ instruction_step ks (form_instruction t f)
  form_alike t (op_form.Binary o i j) = refl
  form_alike t (op_form.Compare q i j) = refl
  form_alike t (op_form.Select c i j) = refl
  form_alike t (op_form.IntegerCast c i) = refl
  form_alike t (op_form.IndexCast c i) = refl

  pair_alike : (o : Arithmetic) (t i j : ℕ) → form_step (kind_at ks t) (op_form.Binary o i j) ≡ instruction_step ks (old_form t (op_form.Binary o i j))
  pair_alike op.DivideSigned t i j = refl
  pair_alike _ t i j = refl

  old_form_alike : (t : ℕ) (f : registry.Expression) → form_step (kind_at ks t) f ≡ instruction_step ks (old_form t f)
  old_form_alike t (op_form.Binary o i j) = pair_alike o t i j
  old_form_alike t (op_form.Compare q i j) = refl
  old_form_alike t (op_form.Select c i j) = refl
  old_form_alike t (op_form.IntegerCast c i) = refl
  old_form_alike t (op_form.IndexCast c i) = refl

  pattern_op_alike : (o : matched.PatternOp) → pattern_op_step ks o ≡ instruction_step ks (old_instruction o)
  pattern_op_alike o = old_form_alike o.ty o.form

  new_alike : (n : NewValue) → new_step ks n ≡ instruction_step ks (new_instruction n)
  new_alike (new.Operation o) = form_alike o.ty o.form
  new_alike (new.Constant i t) = refl

  all_alike : {X : Type 0} (f : X → Step) (g : X → Instruction) → ((x : X) → f x ≡ instruction_step ks (g x)) → (xs : List X) → map f xs ≡ map (instruction_step ks) (map g xs)
  all_alike f g each [] = refl
  all_alike f g each (x ∷ xs) = ap₂ ◌∷◌ (each x) (all_alike f g each xs)

  given_alike : (p : PatternModel) → Content.given (content_with ks p) ≡ map (instruction_step ks) (given_instructions p)
  given_alike p =
      ap₂ ◌++◌ (all_alike (extra_step ks) extra_instruction extra_alike p.extra) (all_alike (number_step ks) number_instruction number_alike p.given)
      ∙ sym (map-append (instruction_step ks) (map extra_instruction p.extra) (map number_instruction p.given))

  old_alike : (p : PatternModel) → Content.old (content_with ks p) ≡ map (instruction_step ks) (old_instructions p)
  old_alike p = all_alike (pattern_op_step ks) old_instruction pattern_op_alike p.old

  new_same : (p : PatternModel) → Content.new (content_with ks p) ≡ map (instruction_step ks) (new_instructions p)
  new_same p = all_alike (new_step ks) new_instruction new_alike p.new

  -- literals are in range, and neither side has a condition
  numbers_fit : (l : List ConstantExpression) → list_all (number_fits ks) l ≡ true → list_all (instruction_fits ks) (map number_instruction l) ≡ true
  numbers_fit [] e = refl
  numbers_fit (n ∷ l) e = let h = and_parts (number_fits ks n) (list_all (number_fits ks) l) e in and_from (instruction_fits ks (number_instruction n)) _ (fit_of n h.0) (numbers_fit l h.1)
    where
      fit_of : (n : ConstantExpression) → number_fits ks n ≡ true → instruction_fits ks (number_instruction n) ≡ true
      fit_of (number.Literal l) e = e
      fit_of (number.Width t) e = refl
      fit_of (number.Binary o i j) e = refl
      fit_of (number.Compare q i j) e = refl
      fit_of (number.Log2 i) e = refl
      fit_of (number.Require i) e = refl

  given_fit : (l : List ExtraConstant) (m : List ConstantExpression) → list_all (extra_fits ks) l ≡ true → list_all (number_fits ks) m ≡ true
      → list_all (instruction_fits ks) (map extra_instruction l ++ map number_instruction m) ≡ true
  given_fit [] m e f = numbers_fit m f
  given_fit (extra.Literal n ∷ l) m e f =
      let h = and_parts (extra_fits ks (extra.Literal n)) (list_all (extra_fits ks) l) e in
      and_from (instruction_fits ks (extra_instruction (extra.Literal n))) _ h.0 (given_fit l m h.1 f)
  given_fit (extra.SameAs i ∷ l) m e f = given_fit l m e f

  form_plain : (t : ℕ) (f : registry.Expression) → (instruction_fits ks (form_instruction t f) ≡ true) × (is_partial (form_instruction t f) ≡ false)
  form_plain t (op_form.Binary o i j) = (refl, refl)
  form_plain t (op_form.Compare q i j) = (refl, refl)
  form_plain t (op_form.Select c i j) = (refl, refl)
  form_plain t (op_form.IntegerCast c i) = (refl, refl)
  form_plain t (op_form.IndexCast c i) = (refl, refl)

  pair_fits : (o : Arithmetic) (t i j : ℕ) → instruction_fits ks (old_form t (op_form.Binary o i j)) ≡ true
  pair_fits op.DivideSigned t i j = refl
  pair_fits _ t i j = refl

  old_form_fits : (t : ℕ) (f : registry.Expression) → instruction_fits ks (old_form t f) ≡ true
  old_form_fits t (op_form.Binary o i j) = pair_fits o t i j
  old_form_fits t (op_form.Compare q i j) = refl
  old_form_fits t (op_form.Select c i j) = refl
  old_form_fits t (op_form.IntegerCast c i) = refl
  old_form_fits t (op_form.IndexCast c i) = refl

  old_fit : (l : List matched.PatternOp) → list_all (instruction_fits ks) (map old_instruction l) ≡ true
  old_fit [] = refl
  old_fit (o ∷ l) = and_from (instruction_fits ks (old_instruction o)) _ (old_form_fits o.ty o.form) (old_fit l)

  new_plain : (n : NewValue) → (instruction_fits ks (new_instruction n) ≡ true) × (is_partial (new_instruction n) ≡ false)
  new_plain (new.Operation o) = form_plain o.ty o.form
  new_plain (new.Constant i t) = (refl, refl)

  new_fit : (l : List NewValue) → list_all (instruction_fits ks) (map new_instruction l) ≡ true
  new_fit [] = refl
  new_fit (n ∷ l) = and_from (instruction_fits ks (new_instruction n)) _ (new_plain n).0 (new_fit l)

  new_total : (l : List NewValue) → list_any is_partial (map new_instruction l) ≡ false
  new_total [] = refl
  new_total (n ∷ l) = (λ r. (new_plain n).1 r || new_total l r)

-- ---- a goal that is reached

-- the parts of a goal that was reached
pub peel : {X : Type 0} (o : Option X) (f : X → Option Goal) → IsReached (given o f) → (x : X) × (o ≡ Some x) × IsReached (f x)
peel None f r = absurd r
peel (Some x) f r = (x, refl, r)

module _ (p : PatternModel) (ks : List BitsKind) (aligned : AreKindsOf p.value_types ks) (wide : are_kinds ks ≡ true) (os : List Outcome) (are : AreOutcomes p ks 0 p.values os) where
  abbrev js : List BitsKind
  js = claim_kinds p.value_types ks

  abbrev W : ℕ
  W = most_width

  most : most_width ≤ W
  most = omega arith

  abbrev vs : List ℕ
  vs = map number_of os ++ masks_of js

  abbrev ws : List ℕ
  ws = map width_of js

  abbrev ns : List Narrower
  ns = narrower_types p.value_types p.type_constraints

  abbrev content : Content
  content = content_with ks p

  many_values : (i : ℕ) (tys : List ℕ) (xs : List Outcome) → AreOutcomes p ks i tys xs → length tys ≡ length xs
  many_values i [] [] a = refl
  many_values i [] (x ∷ xs) a = absurd a
  many_values i (t ∷ tys) [] a = absurd a
  many_values i (t ∷ tys) (x ∷ xs) a = let h = many_values (i + 1) tys xs a.2 in omega (arith, h)

  module _ (type_constraints : list_all (is_requested ks) p.type_constraints ≡ true) where
    narrow : AreNarrower ws ns
    narrow = are_narrower W most p.value_types ks aligned wide p.type_constraints type_constraints

    -- both results
    refined : (d : State) (env : List Outcome) (x y : Operand) (q r : Outcome) → Holds W most vs p.value_types ks aligned wide d env → Stands W vs js refl d.exprs x q → Stands W vs js refl d.exprs y r
        → IsReached (goal_from p d x y) → refines q r ≡ true
    refined d env x y q r h s t reach = go (x.ty == y.ty) refl reach
      where
        on : (alike : (x.ty == y.ty) ≡ true) (o : Option Sides) → ClaimsSome W vs js refl d.exprs o (refines q r ≡ true) → IsReached (Some (claim_from p d.conditions o)) → refines q r ≡ true
        on alike None c g = c
        on alike (Some m) c g =
            let in_pattern_ops = many W vs ws m.0 in
            let left_in = c.left_in in
            let right_in = c.right_in in
            let long : length (map number_of os) ≡ length p.values = length-map os number_of ∙ sym (many_values 0 p.values os are) in
            let fits_here = subst (λ (n : ℕ). FitWidths W vs n (claim_types p.value_types) ws) long (fits_in W most p.value_types ks (map number_of os) aligned wide) in
            let ones = ones_still W most vs p.value_types ks aligned wide d.exprs m.0 d.conditions c.grown h.ones in
            c.follows
            (g W vs ws (omega arith) fits_here narrow c.grown.right (conditions_hold W most vs p ks aligned wide m.0 d.conditions ones)
            (omega (arith, left_in, in_pattern_ops)) (omega (arith, right_in, in_pattern_ops)))

        go : (b : Bool) → (x.ty == y.ty) ≡ b → IsReached (if b then Some (claim_from p d.conditions (sides x y d.exprs)) else None) → refines q r ≡ true
        go false e g = absurd g
        go true e g = on e (sides x y d.exprs) (sides_claim W vs js refl d.exprs h.base x y q r s t e) g

    -- the new steps
    abbrev Go : Bool → State → Option (List Outcome) → Option State → Type 0
    Go may s r o = AllGo W most vs p.value_types ks aligned wide ns narrow may s r o

    result_shown : (c d : State) (env : List Outcome) (x : Operand) (q : Outcome) → Stands W vs js refl c.exprs x q → Reached W most vs p.value_types ks aligned wide c d env
        → IsReached (given (operand_at (State.operands d) p.result) (λ y. goal_from p d x y)) → new_refines q (slice_get env p.result) ≡ true
    result_shown c d env x q s go reach =
        let y = peel (operand_at (State.operands d) p.result) (λ y. goal_from p d x y) reach in
        let f = found W most vs p.value_types ks aligned wide d.exprs d.operands env p.result y.0 go.holds.all y.1 in
        ap (new_refines q) f.is ∙ refined d env x y.0 q f.outcome go.holds (stands_still W vs js refl c.exprs d.exprs x q go.grown s) f.stands y.2

    new_ran : (c : State) (x : Operand) (q : Outcome) → Stands W vs js refl c.exprs x q → (o : Option State) (r : Option (List Outcome)) → Go (list_any is_partial (new_instructions p)) c r o
        → IsReached (given o (λ d. given (operand_at (State.operands d) p.result) (λ y. goal_from p d x y))) → new_refines q (shown p.result r) ≡ true
    new_ran c x q s None r g reach = absurd reach
    new_ran c x q s (Some d) None g reach = absurd (true≢false (sym g ∙ new_total ks p.new))
    new_ran c x q s (Some d) (Some env) g reach = result_shown c d env x q s g reach

    -- the old ones
    abbrev after_old : State → Option Goal
    after_old c =
        given (operand_at (State.operands c) p.root) (λ x.
        given (all_translated p.value_types ns (new_instructions p) c) (λ d. given (operand_at (State.operands d) p.result) (λ y. goal_from p d x y)))

    root_refined : (b c : State) (env : List Outcome) → Reached W most vs p.value_types ks aligned wide b c env → IsReached (after_old c) → old_refined content env (slice_get env p.root) ≡ true
    root_refined b c env go reach =
        let x = peel (operand_at (State.operands c) p.root) (λ x. given (all_translated p.value_types ns (new_instructions p) c) (λ d. given (operand_at (State.operands d) p.result) (λ y. goal_from p d x y))) reach in
        let f = found W most vs p.value_types ks aligned wide c.exprs c.operands env p.root x.0 go.holds.all x.1 in
        ap (old_refined content env) f.is
        ∙ ap (λ ss. new_refines f.outcome (shown p.result (run ss env))) (new_same ks p)
        ∙ new_ran c x.0 f.outcome f.stands (all_translated p.value_types ns (new_instructions p) c) (run (map (instruction_step ks) (new_instructions p)) env)
        (all_go W most vs p.value_types ks aligned wide ns narrow (new_instructions p) c env go.holds (new_fit ks p.new)) x.2

    old_ran_on : (may : Bool) (b : State) (o : Option State) (r : Option (List Outcome)) → Go may b r o → IsReached (given o after_old) → old_ran content r ≡ true
    old_ran_on may b None r g reach = absurd reach
    old_ran_on may b (Some c) None g reach = refl
    old_ran_on may b (Some c) (Some env) g reach = root_refined b c env g reach

    abbrev after_given : State → Option Goal
    after_given b = given (all_translated p.value_types ns (old_instructions p) b) after_old

    given_ran : (may : Bool) (a : State) (o : Option State) (r : Option (List Outcome)) → Go may a r o → IsReached (given o after_given) → old_ran content (given r (run content.old)) ≡ true
    given_ran may a None r g reach = absurd reach
    given_ran may a (Some b) None g reach = refl
    given_ran may a (Some b) (Some env) g reach =
        ap (λ ss. old_ran content (run ss env)) (old_alike ks p)
        ∙ old_ran_on (list_any is_partial (old_instructions p)) b (all_translated p.value_types ns (old_instructions p) b) (run (map (instruction_step ks) (old_instructions p)) env)
        (all_go W most vs p.value_types ks aligned wide ns narrow (old_instructions p) b env g.holds (old_fit ks p.old)) reach

    abbrev after_variables : State → Option Goal
    after_variables a = given (all_translated p.value_types ns (given_instructions p) a) after_given

    decided : list_all (instruction_fits ks) (given_instructions p) ≡ true → IsReached (goal_of p (set_of p 0 p.values os)) → old_ran content (given (run content.given os) (run content.old)) ≡ true
    decided fit_given reach =
        let a = peel (variables p 0 p.values (set_of p 0 p.values os) first_state) after_variables reach in
        let start = variables_hold W most vs p ks aligned wide p.values os [] 0 (masks_of js) first_state (first_holds W most vs p ks aligned wide) refl are refl in
        let holds : Holds W most vs p.value_types ks aligned wide a.0 os = subst (λ (o : Option State). VariablesHold W most vs p ks aligned wide o os) a.1 start in
        ap (λ ss. old_ran content (given (run ss os) (run content.old))) (given_alike ks p)
        ∙ given_ran (list_any is_partial (given_instructions p)) a.0 (all_translated p.value_types ns (given_instructions p) a.0) (run (map (instruction_step ks) (given_instructions p)) os)
        (all_go W most vs p.value_types ks aligned wide ns narrow (given_instructions p) a.0 os holds fit_given) a.2

    -- the old result is poison
    poison_is : (c : State) (env : List Outcome) (x : Operand) (q : Outcome) → Holds W most vs p.value_types ks aligned wide c env → Stands W vs js refl c.exprs x q
        → IsReached (empty_goal_from p c x) → is_number_at (Some q) ≡ false
    poison_is c env x q h s reach = go x.poison s.poison_is reach
      where
        none : s.poisoned ≡ true → is_number_at (Some q) ≡ false
        none e = ap (λ r. is_number_at (Some r)) (s.is ∙ ap (outcome_by (kind_at js x.ty) s.number) e)

        claimed : (i a : ℕ) → Is W vs ws c.exprs i 0 a → IsReached (Some (claim_from p c.conditions (Some (c.exprs, i, 1)))) → a ≡ 1
        claimed i a is g =
            let in_pattern_ops = many W vs ws c.exprs in
            let left_in = is.below in
            let right_in = h.base.one_is.below in
            let long : length (map number_of os) ≡ length p.values = length-map os number_of ∙ sym (many_values 0 p.values os are) in
            let fits_here = subst (λ (n : ℕ). FitWidths W vs n (claim_types p.value_types) ws) long (fits_in W most p.value_types ks (map number_of os) aligned wide) in
            sym is.value
            ∙ g W vs ws (omega arith) fits_here narrow h.base.right (conditions_hold W most vs p ks aligned wide c.exprs c.conditions h.ones)
            (omega (arith, left_in, in_pattern_ops)) (omega (arith, right_in, in_pattern_ops))
            ∙ h.base.one_is.value

        go : (f : Poison) → PoisonIs W vs ws c.exprs f s.poisoned → IsReached (Some (claim_from p c.conditions (empty_sides f c.exprs))) → is_number_at (Some q) ≡ false
        go poison.Always i g = none i
        go (poison.When f) i g = none (truth_one s.poisoned (claimed f (truth s.poisoned) i g))
        go poison.Never i g = let same = claimed 0 0 h.base.zero_is g in absurd (omega (arith, same))

    abbrev empty_after : State → Option Goal
    empty_after c = given (operand_at (State.operands c) p.root) (λ x. empty_goal_from p c x)

    empty_root : (b c : State) (env : List Outcome) → Reached W most vs p.value_types ks aligned wide b c env → IsReached (empty_after c) → is_number_at (slice_get env p.root) ≡ false
    empty_root b c env go reach =
        let x = peel (operand_at (State.operands c) p.root) (λ x. empty_goal_from p c x) reach in
        let f = found W most vs p.value_types ks aligned wide c.exprs c.operands env p.root x.0 go.holds.all x.1 in
        ap is_number_at f.is ∙ poison_is c env x.0 f.outcome go.holds f.stands x.2

    empty_old : (may : Bool) (b : State) (o : Option State) (r : Option (List Outcome)) → Go may b r o → IsReached (given o empty_after) → is_number_at (given r (λ env. slice_get env p.root)) ≡ false
    empty_old may b None r g reach = absurd reach
    empty_old may b (Some c) None g reach = refl
    empty_old may b (Some c) (Some env) g reach = empty_root b c env g reach

    abbrev empty_after_given : State → Option Goal
    empty_after_given b = given (all_translated p.value_types ns (old_instructions p) b) empty_after

    empty_given : (may : Bool) (a : State) (o : Option State) (r : Option (List Outcome)) → Go may a r o → IsReached (given o empty_after_given)
        → is_number_at (given (given r (run content.old)) (λ env. slice_get env p.root)) ≡ false
    empty_given may a None r g reach = absurd reach
    empty_given may a (Some b) None g reach = refl
    empty_given may a (Some b) (Some env) g reach =
        ap (λ ss. is_number_at (given (run ss env) (λ env. slice_get env p.root))) (old_alike ks p)
        ∙ empty_old (list_any is_partial (old_instructions p)) b (all_translated p.value_types ns (old_instructions p) b) (run (map (instruction_step ks) (old_instructions p)) env)
        (all_go W most vs p.value_types ks aligned wide ns narrow (old_instructions p) b env g.holds (old_fit ks p.old)) reach

    abbrev empty_after_variables : State → Option Goal
    empty_after_variables a = given (all_translated p.value_types ns (given_instructions p) a) empty_after_given

    empty_decided : list_all (instruction_fits ks) (given_instructions p) ≡ true → IsReached (empty_goal_of p (set_of p 0 p.values os))
        → is_number_at (given (given (run content.given os) (run content.old)) (λ env. slice_get env p.root)) ≡ false
    empty_decided fit_given reach =
        let a = peel (variables p 0 p.values (set_of p 0 p.values os) first_state) empty_after_variables reach in
        let start = variables_hold W most vs p ks aligned wide p.values os [] 0 (masks_of js) first_state (first_holds W most vs p ks aligned wide) refl are refl in
        let holds : Holds W most vs p.value_types ks aligned wide a.0 os = subst (λ (o : Option State). VariablesHold W most vs p ks aligned wide o os) a.1 start in
        ap (λ ss. is_number_at (given (given (run ss os) (run content.old)) (λ env. slice_get env p.root))) (given_alike ks p)
        ∙ empty_given (list_any is_partial (given_instructions p)) a.0 (all_translated p.value_types ns (given_instructions p) a.0) (run (map (instruction_step ks) (given_instructions p)) os)
        (all_go W most vs p.value_types ks aligned wide ns narrow (given_instructions p) a.0 os holds fit_given) a.2

  pub empty_all : AreEmptyClaimsTrue p → is_number_at (old_result content os) ≡ false
  empty_all all = go (fits ks p) refl
    where
      go : (b : Bool) → fits ks p ≡ b → is_number_at (given (if b then given (run content.given os) (run content.old) else None) (λ env. slice_get env p.root)) ≡ false
      go false e = refl
      go true e =
          let h = and_parts (list_all (is_requested ks) p.type_constraints) _ e in
          let f = and_parts (list_all (extra_fits ks) p.extra) (list_all (number_fits ks) p.given) h.1 in
          empty_decided h.0 (given_fit ks p.extra p.given f.0 f.1) (all (set_of p 0 p.values os) (set_low p ks 0 p.values os are))

  pub keeps_all : AreClaimsTrue p → keeps_outcomes content os ≡ true
  keeps_all all = go (fits ks p) refl
    where
      go : (b : Bool) → fits ks p ≡ b → old_ran content (if b then given (run content.given os) (run content.old) else None) ≡ true
      go false e = refl
      go true e =
          let h = and_parts (list_all (is_requested ks) p.type_constraints) _ e in
          let f = and_parts (list_all (extra_fits ks) p.extra) (list_all (number_fits ks) p.given) h.1 in
          decided h.0 (given_fit ks p.extra p.given f.0 f.1) (all (set_of p 0 p.values os) (set_low p ks 0 p.values os are))

pub claims_decide : ClaimsDecide
claims_decide p all ks wide aligned os are = keeps_all p ks aligned wide os are all

pub empty_claims_decide : EmptyClaimsDecide
empty_claims_decide p all ks wide aligned os are = empty_all p ks aligned wide os are all

-- ---- values are outcomes

less_from : (n m : ℕ) → nat_lt n m ≡ true → n < m
less_from n m e = grind (arith, nat_tests)

number_if : (b : Bool) (x : Known) → IsNumberIf b (Some x)
number_if true x = tt
number_if false x = tt

module _ (p : PatternModel) (ks : List BitsKind) where
  record AreBound (env : List Outcome) (i : ℕ) (tys : List ℕ) (all : List Outcome) : Type 0 where
    more : List Outcome
    is : all ≡ env ++ more
    are : AreOutcomes p ks i tys more

  abbrev BoundAre : List Outcome → ℕ → List ℕ → Option (List Outcome) → Type 0
  BoundAre env i tys None = Unit {0}
  BoundAre env i tys (Some all) = AreBound env i tys all

  bound_are : (tys values : List ℕ) (env : List Outcome) (i : ℕ) → BoundAre env i tys (bound (map (kind_at ks) tys) values env)
  bound_are [] [] env i = record { more = []; is = sym (append-nil env); are = tt }
  bound_are [] (v ∷ values) env i = tt
  bound_are (t ∷ tys) [] env i = tt
  bound_are (t ∷ tys) (v ∷ values) env i = go (λ b. bound_are tys values (env ++ Some b ∷ []) (i + 1)) (is_bits (kind_at ks t) v) refl
    where
      next : v < 2 ^ width_of (kind_at ks t) → (o : Option (List Outcome)) → BoundAre (env ++ Some (kind_at ks t, v) ∷ []) (i + 1) tys o → BoundAre env i (t ∷ tys) o
      next l None h = tt
      next l (Some all) h =
          record {
            more = Some (kind_at ks t, v) ∷ h.more;
            is = h.is ∙ append_assoc env (Some (kind_at ks t, v) ∷ []) h.more;
            are = ((refl, l), number_if (list_any (eqb i) p.constants) (kind_at ks t, v), h.are);
          }

      go : ((b : Known) → BoundAre (env ++ Some b ∷ []) (i + 1) tys (bound (map (kind_at ks) tys) values (env ++ Some b ∷ []))) → (c : Bool) → is_bits (kind_at ks t) v ≡ c
          → BoundAre env i (t ∷ tys) (given (if c then Some (kind_at ks t, v) else None) (λ b. bound (map (kind_at ks) tys) values (env ++ Some b ∷ [])))
      go ih false e = tt
      go ih true e =
          let l = less_from v (2 ^ width_of (kind_at ks t)) (and_parts (is_width (width_of (kind_at ks t))) (nat_lt v (2 ^ width_of (kind_at ks t))) e).1 in
          next l (bound (map (kind_at ks) tys) values (env ++ Some (kind_at ks t, v) ∷ [])) (ih (kind_at ks t, v))

  values_keep : ((os : List Outcome) → AreOutcomes p ks 0 p.values os → keeps_outcomes (content_with ks p) os ≡ true) → (values : List ℕ) → keeps (content_with ks p) values ≡ true
  values_keep all values = on (bound (map (kind_at ks) p.values) values []) (bound_are p.values values [] 0)
    where
      on : (o : Option (List Outcome)) → BoundAre [] 0 p.values o
          → old_ran (content_with ks p) (if fits ks p then given (given o (run (Content.given (content_with ks p)))) (run (Content.old (content_with ks p))) else None) ≡ true
      on None h = nothing (fits ks p)
        where
          nothing : (b : Bool) → old_ran (content_with ks p) (if b then None else None) ≡ true
          nothing true = refl
          nothing false = refl
      on (Some os) h = all os (subst (λ (xs : List Outcome). AreOutcomes p ks 0 p.values xs) (sym h.is) h.are)

pub outcomes_decide : OutcomesDecide
outcomes_decide p holds ks wide aligned values low = values_keep p ks (holds ks wide aligned) values
