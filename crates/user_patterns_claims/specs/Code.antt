-- The contracts of the translation's code.
use Rattle.std.specs.Prelude.{◌≡◌, ℕ, List, [], ◌∷◌, ◌++◌, Bool, true, false, Option, Some, None}
use Rattle.width_claims.specs.declared.form.Expr.{Expr}
use Rattle.user_patterns_instructions.specs.declared.operand.Operand.{Operand}
use Rattle.user_patterns_claims.specs.declared.refining.Equation.{Equation}
use Rattle.user_patterns_instructions.specs.Expressions.{Made, Result}
use Rattle.user_patterns_claims.specs.Translation.{Sides, State}

-- a state as three lists, and the lists after a call that returns whether there is a state
abbrev pub state : List Expr → List Operand → List ℕ → State
state ps os hs = record { exprs = ps; operands = os; conditions = hs }

abbrev pub IsStateIf : Option State → List Expr → List Operand → List ℕ → Bool → Type 0
IsStateIf None ps os hs done = done ≡ false
IsStateIf (Some s) ps os hs done = (done ≡ true) × (ps ≡ s.exprs) × (os ≡ s.operands) × (hs ≡ s.conditions)

-- one more operand, if there is a result
abbrev pub IsPlain : Option Result → List Operand → List Expr → List Operand → Bool → Type 0
IsPlain None old ps os done = done ≡ false
IsPlain (Some r) old ps os done = (done ≡ true) × (ps ≡ r.0) × (os ≡ old ++ (r.1 ∷ []))

abbrev pub IsReachedState : Option State → List Expr → List Operand → List ℕ → Bool → Type 0
IsReachedState o ps os hs true = o ≡ Some (state ps os hs)
IsReachedState o ps os hs false = Unit {0}

-- one more variable
abbrev pub IsVariable : State → List Expr → List Operand → Unit {0} → Type 0
IsVariable s ps os done = (ps ≡ s.exprs) × (os ≡ s.operands)

-- the expressions, and the places of two values that are claimed to be equal
abbrev pub AreSidesIf : Option Sides → List Expr → Option Equation → Type 0
AreSidesIf None new r = r ≡ None
AreSidesIf (Some s) new r = (new ≡ s.0) × (r ≡ Some (record { left = s.1; right = s.2 }))

-- the expressions, and one more condition
abbrev pub IsCondition : Made → List ℕ → List Expr → List ℕ → Unit {0} → Type 0
IsCondition m old new hs done = (new ≡ m.0) × (hs ≡ old ++ (m.1 ∷ []))
