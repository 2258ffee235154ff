-- Instructions without a condition.
use Rattle.std.proofs.Common.{◌≡◌, List, Bool, true, false, true≢false, Option, Some, None, refl, sym}
use Rattle.std.specs.Prelude.{IfOk, Result, Ok, Err}
use Rattle.user_patterns_data.specs.declared.pattern.PatternType.{PatternType}
use Rattle.width_claims.specs.declared.form.Expr.{Expr}
use Rattle.width_claims.specs.declared.width.Narrower.{Narrower}
use Rattle.user_patterns_instructions.specs.declared.instruction.Instruction.{Instruction}
use Rattle.user_patterns_instructions.specs.declared.instruction.Instruction.TheVariants as instruction
use Rattle.user_patterns_instructions.specs.declared.operand.Operand.{Operand}
use Rattle.user_patterns_claims.specs.Code.{IsPlain, IsStateIf}
use Rattle.user_patterns_instructions.specs.Expressions as expressions
use Rattle.user_patterns_claims.specs.Translation.{State, result_of, translated, with_some}

abbrev pub is_plain : Instruction → Bool
is_plain (instruction.Number l) = false
is_plain (instruction.Require i) = false
is_plain (instruction.Log i) = false
is_plain _ = true

module _ (ks : List PatternType) (ns : List Narrower) (s : State) (ps : List Expr) (os : List Operand) where
  some_state : (done : Bool) (r : Option expressions.Result) → IsPlain r s.operands ps os done → IsStateIf (with_some s r) ps os s.conditions done
  some_state done None h = h
  some_state done (Some r) h = (h.0, h.1, h.2, refl)

  state_of : (done : Bool) (n : Instruction) → is_plain n ≡ true → IsPlain (result_of ks ns n s.operands s.exprs) s.operands ps os done → IsStateIf (translated ks ns n s) ps os s.conditions done
  unfolding translated
  state_of done (instruction.Number l) e h = absurd (true≢false (sym e))
  state_of done (instruction.Require i) e h = absurd (true≢false (sym e))
  state_of done (instruction.Log i) e h = absurd (true≢false (sym e))
  state_of done (instruction.Copy i) e h = some_state done (result_of ks ns (instruction.Copy i) s.operands s.exprs) h
  state_of done (instruction.Pair o i j) e h = some_state done (result_of ks ns (instruction.Pair o i j) s.operands s.exprs) h
  state_of done (instruction.Divide i j) e h = some_state done (result_of ks ns (instruction.Divide i j) s.operands s.exprs) h
  state_of done (instruction.Compare q i j) e h = some_state done (result_of ks ns (instruction.Compare q i j) s.operands s.exprs) h
  state_of done (instruction.Select c i j) e h = some_state done (result_of ks ns (instruction.Select c i j) s.operands s.exprs) h
  state_of done (instruction.Resize c t i) e h = some_state done (result_of ks ns (instruction.Resize c t i) s.operands s.exprs) h
  state_of done (instruction.Width t) e h = some_state done (result_of ks ns (instruction.Width t) s.operands s.exprs) h

  pub plain_states : {E : Type 0} (n : Instruction) → is_plain n ≡ true → (r : Result Bool E) → IfOk r (IsPlain (result_of ks ns n s.operands s.exprs) s.operands ps os) → IfOk r (IsStateIf (translated ks ns n s) ps os s.conditions)
  plain_states n e (Ok done) h = state_of done n e h
  plain_states n e (Err x) h = tt
