-- Numbers of one width that represent values of several widths.
use Rattle.std.specs.Prelude.{◌≡◌, ℕ, ◌+◌, ◌^◌, ◌<◌, ◌≤◌, List, [], ◌∷◌, ◌++◌, Bool, length}
use Rattle.width_claims.specs.declared.step.Step.{Step}
use Rattle.width_claims.specs.Steps.{numbers_then, truths, truths_then}
use Rattle.width_claims.specs.Masks.{mask}
use Rattle.width_claims.specs.declared.form.Form.{Form}
use Rattle.width_claims.specs.declared.form.Form.TheVariants as form
use Rattle.width_claims.specs.declared.form.Expr.{Expr}
use Rattle.width_claims.specs.PatternOpValues.{at, pattern_op_values}
use Rattle.width_claims.specs.Emission.{Claim, claim_place, claim_steps, emitted, numbers_end, places, truths_end}
use Rattle.width_claims.specs.AllWidths.{IsTrueAtAllWidths}
use Rattle.width_claims.specs.declared.width.Narrower.{Narrower}
use Rattle.width_claims.specs.declared.width.Width.{Width}
use Rattle.width_claims.specs.declared.width.Width.TheVariants as width

-- all numbers after all steps
abbrev pub numbers : ℕ → List ℕ → List Step → List ℕ → List Bool → List ℕ
numbers W vs [] ns ts = ns
numbers W vs (s ∷ ss) ns ts = numbers W vs ss (numbers_then W vs s ns ts) (truths_then s ns ts)

-- a width of at least 1 and at most W bits
abbrev pub IsBelow : ℕ → ℕ → Type 0
IsBelow W w = (1 ≤ w) × (w ≤ W)

-- the type of the value at a place has width w
abbrev pub Has : List ℕ → List ℕ → ℕ → ℕ → Type 0
Has ws tys w i = (i < length tys) × (at ws (at tys i) ≡ w)

-- the operands of a form have the widths that it needs, and a literal with a minus is in range of its type
abbrev pub IsRight : ℕ → List ℕ → List ℕ → ℕ → Form → Type 0
IsRight W ws tys w (form.Value i) = Unit {0}
IsRight W ws tys w (form.Literal n) = Unit {0}
IsRight W ws tys w (form.Negative n) = n < 2 ^ w
IsRight W ws tys w (form.Add i j) = Has ws tys w i × Has ws tys w j
IsRight W ws tys w (form.Subtract i j) = Has ws tys w i × Has ws tys w j
IsRight W ws tys w (form.And i j) = Has ws tys w i × Has ws tys w j
IsRight W ws tys w (form.Or i j) = Has ws tys w i × Has ws tys w j
IsRight W ws tys w (form.ExclusiveOr i j) = Has ws tys w i × Has ws tys w j
IsRight W ws tys w (form.Same i j) = (i < length tys) × (j < length tys)
IsRight W ws tys w (form.Less i j) = (i < length tys) × (j < length tys)
IsRight W ws tys w (form.LessSigned u i j) = IsBelow W (at ws u) × Has ws tys (at ws u) i × Has ws tys (at ws u) j
IsRight W ws tys w (form.Select c i j) = (c < length tys) × Has ws tys w i × Has ws tys w j
IsRight W ws tys w (form.Signs u i) = IsBelow W (at ws u) × (at ws u ≤ w) × Has ws tys (at ws u) i
IsRight W ws tys w (form.Resize u i) = IsBelow W (at ws u) × Has ws tys (at ws u) i
IsRight W ws tys w (form.Zeros i) = (i < length tys) × (at ws (at tys i) ≤ w)
IsRight W ws tys w (form.Cut i) = i < length tys
IsRight W ws tys w (form.Quotient i n) = Has ws tys w i

abbrev pub AreRight : ℕ → List ℕ → List Expr → List ℕ → Type 0
AreRight W ws [] tys = Unit {0}
AreRight W ws (p ∷ ps) tys = IsBelow W (at ws p.ty) × IsRight W ws tys (at ws p.ty) p.form × AreRight W ws ps (tys ++ (p.ty ∷ []))

-- n numbers and t truths: the masks of types and the values are at their places
pub record Represents (W : ℕ) (ws ms env tys pl ns : List ℕ) (ts : List Bool) (n t : ℕ) : Type 0 where
  pub many : length ns ≡ n
  pub end_truth : length ts ≡ t
  pub some : 2 ≤ n
  pub zero_there : at ns 0 ≡ 0
  pub one_there : at ns 1 ≡ 1
  pub masks : (u : ℕ) → (at ms u < n) × (at ns (at ms u) ≡ mask (at ws u))
  pub typed : length tys ≡ length env
  pub placed : length pl ≡ length env
  pub values : (i : ℕ) → i < length env → (at pl i < n) × (at ns (at pl i) ≡ at env i) × (at env i < 2 ^ at ws (at tys i))

-- the types of all values
abbrev pub types : List Expr → List ℕ → List ℕ
types [] tys = tys
types (p ∷ ps) tys = types ps (tys ++ (p.ty ∷ []))

-- the emitted steps compute numbers that represent the values
abbrev pub Emits : Type 0
Emits =
    (W : ℕ) (vs ws ms : List ℕ) (ps : List Expr) (env tys pl ns : List ℕ) (ts : List Bool) (n t : ℕ)
    → Represents W ws ms env tys pl ns ts n t → AreRight W ws ps tys
    → Represents W ws ms (pattern_op_values ws vs ps env) (types ps tys) (places ms ps pl n t) (numbers W vs (emitted ms ps pl n t) ns ts) (truths W vs (emitted ms ps pl n t) ns ts)
    (numbers_end ms ps pl n t) (truths_end ms ps pl n t)

-- ---- a whole claim

-- widths that the types may have, with their masks among the variables
abbrev pub FitWidths : ℕ → List ℕ → ℕ → List Width → List ℕ → Type 0
FitWidths W vs v [] [] = Unit {0}
FitWidths W vs v (width.Free ∷ ks) (w ∷ ws) = IsBelow W w × (at vs v ≡ mask w) × FitWidths W vs (v + 1) ks ws
FitWidths W vs v (width.Fixed u ∷ ks) (w ∷ ws) = IsBelow W w × (u ≡ w) × FitWidths W vs (v + 1) ks ws
FitWidths W vs v _ _ = ⊥

-- types are narrower than others
abbrev pub AreNarrower : List ℕ → List Narrower → Type 0
AreNarrower ws [] = Unit {0}
AreNarrower ws (p ∷ ps) = (at ws p.narrow < at ws p.wide) × AreNarrower ws ps

-- the conditions hold
abbrev pub ConditionsHold : List ℕ → List ℕ → Type 0
ConditionsHold env [] = Unit {0}
ConditionsHold env (h ∷ hs) = (h < length env) × (at env h ≡ 1) × ConditionsHold env hs

-- the two values are equal at all widths that the types may have, for all variables that satisfy the conditions
abbrev pub IsEqualAtAllWidths : Claim → Type 0
IsEqualAtAllWidths c =
    (W : ℕ) (vs ws : List ℕ) → 1 ≤ W → FitWidths W vs c.first_mask c.types ws → AreNarrower ws c.narrower → AreRight W ws c.exprs [] → ConditionsHold (pattern_op_values ws vs c.exprs []) c.conditions
    → c.left < length (pattern_op_values ws vs c.exprs []) → c.right < length (pattern_op_values ws vs c.exprs [])
    → at (pattern_op_values ws vs c.exprs []) c.left ≡ at (pattern_op_values ws vs c.exprs []) c.right

-- a decision about the steps holds of the values
abbrev pub Claims : Type 0
Claims = (c : Claim) → IsTrueAtAllWidths (claim_steps c) (claim_place c) → IsEqualAtAllWidths c
