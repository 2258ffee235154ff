-- A pattern whose new side makes a signed division has no claim.
use Rattle.std.proofs.Common.{◌≡◌, ◌∙◌, ℕ, ◌+◌, ◌*◌, ◌<◌, ◌==◌, List, [], ◌∷◌, map, Bool, true, false, not, if◌then◌else◌, Option, Some, None, refl, sym, ap, arith}
use Rattle.std.specs.List.{list_all}
use Rattle.std.proofs.lemmas.Bool.{and_from}
use Rattle.std.proofs.lemmas.Option.{none-some}
use Rattle.dialects_int.specs.declared.operations.Arithmetic.{Arithmetic}
use Rattle.dialects_int.specs.declared.operations.Arithmetic.TheVariants as op
use Rattle.user_patterns_check.specs.Outcomes.{given}
use Rattle.user_patterns_data.specs.declared.pattern.Expression.{Expression}
use Rattle.user_patterns_data.specs.declared.pattern.Expression.TheVariants as op_form
use Rattle.user_patterns_data.specs.declared.pattern.Literal.{Literal}
use Rattle.user_patterns_data.specs.declared.pattern.NewValue.{NewValue}
use Rattle.user_patterns_data.specs.declared.pattern.NewValue.TheVariants as new
use Rattle.user_patterns_data.specs.declared.pattern.PatternType.{PatternType}
use Rattle.user_patterns_data.specs.Shapes.{PatternModel}
use Rattle.width_claims.specs.declared.form.Expr.{Expr}
use Rattle.width_claims.specs.declared.width.Narrower.{Narrower}
use Rattle.user_patterns_instructions.specs.declared.instruction.Instruction.TheVariants as instruction
use Rattle.user_patterns_instructions.specs.declared.operand.Operand.{Operand}
use Rattle.user_patterns_instructions.specs.Expressions.{Made, Result, first_result, is_shift, literal_times, narrower_types, operand_at, operands_value, other_result, pair_result, shift, shift_result, shifted, strict, too_far, with_literal}
use Rattle.user_patterns_claims.specs.Quotients.{is_quotient, is_without_quotients, makes_no_quotient}
use Rattle.user_patterns_claims.specs.Settled.{AreClaimsTrue}
use Rattle.user_patterns_claims.specs.Translation.{Goal, State, all_translated, first_state, form_instruction, given_instructions, goal_from, is_constant, new_instruction, new_instructions, old_instructions, result_of, set_count, translated, variables, with_some}
use Rattle.user_patterns_claims.proofs.Deciding.{peel}

-- ---- no expression computes a signed quotient of two operands

by_shift : (b : Bool) (x : Operand) (l : Literal) (ps : List Expr)
    → (if b then given (shifted op.DivideSigned l.magnitude x.ty x.value ps) (λ m. Some (shift_result x.ty x.poison m (too_far l.magnitude x.ty m.0))) else None) ≡ None
by_shift true x l ps = refl
by_shift false x l ps = refl

no_shift : (x y : Operand) (ps : List Expr) → shift op.DivideSigned x y ps ≡ None
no_shift x y ps = go y.written
  where
    go : (o : Option Literal) → given o (λ l. if is_shift l then given (shifted op.DivideSigned l.magnitude x.ty x.value ps) (λ m. Some (shift_result x.ty x.poison m (too_far l.magnitude x.ty m.0))) else None) ≡ None
    go None = refl
    go (Some l) = by_shift (is_shift l) x l ps

right_none : (o : Option Literal) (x : Operand) (ps : List Expr) → given o (λ l. with_literal op.DivideSigned x.ty x.value l ps) ≡ None
right_none None x ps = refl
right_none (Some l) x ps = refl

left_none : (o : Option Literal) (x y : Operand) (ps : List Expr) → given o (λ l. literal_times op.DivideSigned x.ty y.value l ps) ≡ None
left_none None x y ps = refl
left_none (Some l) x y ps = refl

no_value : (x y : Operand) (ps : List Expr) → operands_value op.DivideSigned x y ps ≡ None
unfolding operands_value
no_value x y ps = rw (right_none y.written x ps, left_none x.written x y ps) refl

no_pair : (x y : Operand) (ps : List Expr) → pair_result op.DivideSigned x y ps ≡ None
no_pair x y ps = go (x.ty == y.ty)
  where
    go : (b : Bool) → (if b then first_result (shift op.DivideSigned x y ps) (other_result op.DivideSigned x y ps) else None) ≡ None
    go true =
        ap (λ (r : Option Result). first_result r (other_result op.DivideSigned x y ps)) (no_shift x y ps)
        ∙ ap (λ (m : Option Made). given m (λ m. Some (strict m x.ty x.poison y.poison))) (no_value x y ps)
    go false = refl

-- ---- a new side that is translated makes none

module _ (ks : List PatternType) (ns : List Narrower) where
  no_result : (i j : ℕ) (os : List Operand) (ps : List Expr) → result_of ks ns (instruction.Pair op.DivideSigned i j) os ps ≡ None
  no_result i j os ps = go (operand_at os i) (operand_at os j)
    where
      go : (a b : Option Operand) → given a (λ x. given b (λ y. pair_result op.DivideSigned x y ps)) ≡ None
      go None b = refl
      go (Some x) None = refl
      go (Some x) (Some y) = no_pair x y ps

  not_translated : (i j : ℕ) (s : State) → translated ks ns (instruction.Pair op.DivideSigned i j) s ≡ None
  unfolding translated
  not_translated i j s = ap (with_some s) (no_result i j s.operands s.exprs)

  by_operator : (o : Arithmetic) (i j : ℕ) (s mid : State) → translated ks ns (instruction.Pair o i j) s ≡ Some mid → not (is_quotient (op_form.Binary o i j)) ≡ true
  by_operator op.DivideSigned i j s mid e = absurd (none-some mid (sym (not_translated i j s) ∙ e))
  by_operator _ i j s mid e = refl

  by_form : (t : ℕ) (f : Expression) (s mid : State) → translated ks ns (form_instruction t f) s ≡ Some mid → not (is_quotient f) ≡ true
  by_form t (op_form.Binary o i j) s mid e = by_operator o i j s mid e
  by_form t (op_form.Compare q i j) s mid e = refl
  by_form t (op_form.Select c i j) s mid e = refl
  by_form t (op_form.IntegerCast c i) s mid e = refl
  by_form t (op_form.IndexCast c i) s mid e = refl

  one_value : (w : NewValue) (s mid : State) → translated ks ns (new_instruction w) s ≡ Some mid → makes_no_quotient w ≡ true
  one_value (new.Operation o) s mid e = by_form o.ty o.form s mid e
  one_value (new.Constant i t) s mid e = refl

  no_quotients : (ws : List NewValue) (s d : State) → all_translated ks ns (map new_instruction ws) s ≡ Some d → list_all makes_no_quotient ws ≡ true
  no_quotients [] s d e = refl
  no_quotients (w ∷ ws) s d e = go (translated ks ns (new_instruction w) s) refl e (λ mid f. no_quotients ws mid d f)
    where
      go : (o : Option State) → translated ks ns (new_instruction w) s ≡ o → given o (all_translated ks ns (map new_instruction ws)) ≡ Some d
          → ((mid : State) → all_translated ks ns (map new_instruction ws) mid ≡ Some d → list_all makes_no_quotient ws ≡ true) → list_all makes_no_quotient (w ∷ ws) ≡ true
      go None f e more = absurd (none-some d e)
      go (Some mid) f e more = and_from (makes_no_quotient w) (list_all makes_no_quotient ws) (one_value w s mid f) (more mid e)

-- ---- there is a claim for the set without poison, so the new side was translated

some_set : (p : PatternModel) (i : ℕ) (tys : List ℕ) → 0 < set_count p i tys
some_set p i [] = omega arith
some_set p i (u ∷ tys) = go (is_constant p i) (some_set p (i + 1) tys)
  where
    go : (b : Bool) → 0 < set_count p (i + 1) tys → 0 < (if b then set_count p (i + 1) tys else 2 * set_count p (i + 1) tys)
    go true h = h
    go false h = omega (arith, h)

module _ (p : PatternModel) where
  abbrev ns : List Narrower
  ns = narrower_types p.value_types p.type_constraints

  abbrev with_new : State → Operand → Option Goal
  with_new c x = given (all_translated p.value_types ns (new_instructions p) c) (λ d. given (operand_at (State.operands d) p.result) (λ y. goal_from p d x y))

  abbrev with_root : State → Option Goal
  with_root c = given (operand_at (State.operands c) p.root) (with_new c)

  abbrev with_old : State → Option Goal
  with_old b = given (all_translated p.value_types ns (old_instructions p) b) with_root

  abbrev with_given : State → Option Goal
  with_given a = given (all_translated p.value_types ns (given_instructions p) a) with_old

  pub claims_divide_nothing : AreClaimsTrue p → is_without_quotients p ≡ true
  claims_divide_nothing all =
      let a = peel (variables p 0 p.values 0 first_state) with_given (all 0 (some_set p 0 p.values)) in
      let b = peel (all_translated p.value_types ns (given_instructions p) a.0) with_old a.2 in
      let c = peel (all_translated p.value_types ns (old_instructions p) b.0) with_root b.2 in
      let x = peel (operand_at (State.operands c.0) p.root) (with_new c.0) c.2 in
      let d = peel (all_translated p.value_types ns (new_instructions p) c.0) (λ d. given (operand_at (State.operands d) p.result) (λ y. goal_from p d x.0 y)) x.2 in
      no_quotients p.value_types ns p.new c.0 d.0 d.1
