-- Instructions in sequence.
use Rattle.std.proofs.Common.{◌≡◌, ◌∙◌, ℕ, List, [], ◌∷◌, ◌++◌, map, Bool, true, false, true≢false, Option, Some, None, refl, sym, ap, subst}
use Rattle.std.specs.Result.{IfOk}
use Rattle.std.proofs.lemmas.Result.{IfOk-weaker}
use Rattle.std.specs.Prelude.{Result}
use Rattle.user_patterns_check.specs.Outcomes.{given}
use Rattle.user_patterns_data.specs.declared.pattern.ExtraConstant.{ExtraConstant}
use Rattle.user_patterns_data.specs.declared.pattern.PatternType.{PatternType}
use Rattle.user_patterns_data.specs.declared.pattern.ConstantExpression.{ConstantExpression}
use Rattle.width_claims.specs.declared.form.Expr.{Expr}
use Rattle.width_claims.specs.declared.width.Narrower.{Narrower}
use Rattle.user_patterns_instructions.specs.declared.instruction.Instruction.{Instruction}
use Rattle.user_patterns_instructions.specs.declared.operand.Operand.{Operand}
use Rattle.user_patterns_claims.specs.Code.{IsReachedState, state}
use Rattle.user_patterns_claims.specs.Translation.{State, all_translated, extra_instruction, number_instruction, translated}

pub all_after : (ks : List PatternType) (ns : List Narrower) (xs ys : List Instruction) (s : State) → all_translated ks ns (xs ++ ys) s ≡ given (all_translated ks ns xs s) (all_translated ks ns ys)
all_after ks ns [] ys s = refl
all_after ks ns (x ∷ xs) ys s = go (λ next. all_after ks ns xs ys next) (translated ks ns x s)
  where
    go : ((next : State) → all_translated ks ns (xs ++ ys) next ≡ given (all_translated ks ns xs next) (all_translated ks ns ys))
        → (o : Option State) → given o (all_translated ks ns (xs ++ ys)) ≡ given (given o (all_translated ks ns xs)) (all_translated ks ns ys)
    go ih None = refl
    go ih (Some next) = ih next

pub reached_at : (o : Option State) (ps : List Expr) (os : List Operand) (hs : List ℕ) (b : Bool) → b ≡ true → IsReachedState o ps os hs b → o ≡ Some (state ps os hs)
reached_at o ps os hs true e r = r
reached_at o ps os hs false e r = absurd (true≢false (sym e))

next_reached : (o : Option State) (f : State → Option State) (s : State) (all : Option State) (ps : List Expr) (os : List Operand) (hs : List ℕ) (b : Bool) → o ≡ Some s → all ≡ given o f → IsReachedState (f s) ps os hs b
    → IsReachedState all ps os hs b
next_reached o f s all ps os hs true e is r = is ∙ ap (λ q. given q f) e ∙ r
next_reached o f s all ps os hs false e is r = tt

-- the extra constants, and then the computed numbers
pub given_reached : {E : Type 0} (ks ks0 : List PatternType) (ns : List Narrower) (fs fs0 : List ExtraConstant) (ms ms0 : List ConstantExpression) (s : State) (ps qs : List Expr) (os rs : List Operand) (hs gs : List ℕ) (b : Bool) (r : Result Bool E)
    → ks0 ≡ ks → fs0 ≡ fs → ms0 ≡ ms → b ≡ true → IsReachedState (all_translated ks0 ns (map extra_instruction fs0) s) ps os hs b
    → IfOk r (IsReachedState (all_translated ks0 ns (map number_instruction ms0) (state ps os hs)) qs rs gs)
    → IfOk r (IsReachedState (all_translated ks ns (map extra_instruction fs ++ map number_instruction ms) s) qs rs gs)
given_reached ks ks0 ns fs fs0 ms ms0 s ps qs os rs hs gs b r k f m e first next =
    IfOk-weaker r (IsReachedState (all_translated ks0 ns (map number_instruction ms0) (state ps os hs)) qs rs gs) (IsReachedState (all_translated ks ns (map extra_instruction fs ++ map number_instruction ms) s) qs rs gs)
    (λ c h. next_reached (all_translated ks ns (map extra_instruction fs) s) (all_translated ks ns (map number_instruction ms)) (state ps os hs) (all_translated ks ns (map extra_instruction fs ++ map number_instruction ms) s) qs rs gs c
    ((λ i. all_translated (sym k i) ns (map extra_instruction (sym f i)) s) ∙ reached_at (all_translated ks0 ns (map extra_instruction fs0) s) ps os hs b e first)
    (all_after ks ns (map extra_instruction fs) (map number_instruction ms) s)
    (subst (λ (o : Option State). IsReachedState o qs rs gs c) (λ i. all_translated (k i) ns (map number_instruction (m i)) (state ps os hs)) h))
    next
