-- The contracts of the code of expressions.
use Rattle.std.specs.Prelude.{◌≡◌, ℕ, List, ◌++◌, Bool, true, false, Option, Some, None}
use Rattle.user_patterns_data.specs.declared.pattern.PatternType.{PatternType}
use Rattle.width_claims.specs.declared.form.Expr.{Expr}
use Rattle.width_claims.specs.declared.width.Width.{Width}
use Rattle.user_patterns_instructions.specs.declared.operand.Operand.{Operand}
use Rattle.user_patterns_instructions.specs.declared.operand.Poison.{Poison}
use Rattle.user_patterns_instructions.specs.Expressions.{Flagged, Made, Result, types_from}

-- the expressions, and the place of the last one
abbrev pub IsMade : Made → List Expr → ℕ → Type 0
IsMade m new i = (new ≡ m.0) × (i ≡ m.1)

abbrev pub IsMadeIf : Option Made → List Expr → Option ℕ → Type 0
IsMadeIf None new r = r ≡ None
IsMadeIf (Some m) new r = (new ≡ m.0) × (r ≡ Some m.1)

-- the same, or the old expressions and no place
abbrev pub IsMadeOr : Option Made → List Expr → List Expr → Option ℕ → Type 0
IsMadeOr None old new r = (new ≡ old) × (r ≡ None)
IsMadeOr (Some m) old new r = (new ≡ m.0) × (r ≡ Some m.1)

-- the expressions and the flag
abbrev pub IsFlagged : Flagged → List Expr → Poison → Type 0
IsFlagged r new f = (new ≡ r.0) × (f ≡ r.1)

-- the expressions and the operand
abbrev pub IsResult : Result → List Expr → Operand → Type 0
IsResult r new o = (new ≡ r.0) × (o ≡ r.1)

abbrev pub IsResultIf : Option Result → List Expr → Option Operand → Type 0
IsResultIf None new r = r ≡ None
IsResultIf (Some q) new r = (new ≡ q.0) × (r ≡ Some q.1)

-- the same, or the old expressions and no operand
abbrev pub IsResultOr : Option Result → List Expr → List Expr → Option Operand → Type 0
IsResultOr None old new r = (new ≡ old) × (r ≡ None)
IsResultOr (Some q) old new r = (new ≡ q.0) × (r ≡ Some q.1)

-- the widths of types from number i on, if the call returns that all are there
abbrev pub AreWidths : List PatternType → ℕ → List PatternType → List Width → List Width → Bool → Type 0
AreWidths all i ks old new true = new ≡ old ++ types_from all i ks
AreWidths all i ks old new false = Unit {0}
