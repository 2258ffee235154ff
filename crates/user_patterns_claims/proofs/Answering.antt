-- The results of the code about goals.
use Rattle.std.proofs.Common.{◌≡◌, ◌∙◌, ℕ, ◌<◌, ◌==◌, List, length, true, if◌then◌else◌, Option, Some, None, sym, ap, subst}
use Rattle.std.specs.Prelude.{Result}
use Rattle.std.specs.Result.{IfOk}
use Rattle.std.proofs.lemmas.Result.{IfOk-weaker}
use Rattle.std.proofs.lemmas.Option.{none-some, same_Some}
use Rattle.width_claims.specs.declared.verdict.Verdict.{Verdict}
use Rattle.width_claims.specs.declared.verdict.Verdict.TheVariants as verdict
use Rattle.user_patterns_data.specs.Shapes.{PatternModel}
use Rattle.width_claims.specs.Claimed.{IsEqualDecided}
use Rattle.width_claims.specs.Emission.{Claim, claim_of}
use Rattle.width_claims.specs.declared.form.Expr.{Expr}
use Rattle.width_claims.specs.declared.width.Narrower.{Narrower}
use Rattle.width_claims.specs.declared.width.Width.{Width}
use Rattle.user_patterns_instructions.specs.declared.operand.Operand.{Operand}
use Rattle.user_patterns_claims.specs.declared.refining.Equation.{Equation}
use Rattle.user_patterns_claims.specs.Code.{AreSidesIf, state}
use Rattle.user_patterns_claims.specs.declared.aim.Aim.{Aim}
use Rattle.user_patterns_claims.specs.declared.aim.Aim.TheVariants as aim
use Rattle.user_patterns_claims.specs.declared.decision.Decision.{Decision}
use Rattle.user_patterns_claims.specs.declared.decision.Decision.TheVariants as decision
use Rattle.user_patterns_claims.specs.Settled.{AreGoalsDecided, IsAimDecided, IsEmptyDecided, IsGoalDecided, IsPatternDecided}
use Rattle.user_patterns_instructions.specs.Expressions.{claim_types, narrower_types}
use Rattle.user_patterns_claims.specs.Translation.{Goal, Sides, claim_from, goal_from, set_count, sides}
use Rattle.user_patterns_claims.proofs.Deciding.{claims_decide, empty_claims_decide}
use Rattle.user_patterns_claims.proofs.Dividing.{claims_divide_nothing}

claim_decided : (c : Claim) (v : Verdict) → IsEqualDecided c v → IsGoalDecided (Some (Some c)) v
claim_decided c verdict.Always d = d
claim_decided c (verdict.Fails word) d = d
claim_decided c verdict.TooMany d = tt

-- the goal of two results is the claim that the code decides
module _ (p : PatternModel) (x y : Operand) (ps new ps1 : List Expr) (hs : List ℕ) (types : List Width) (ns : List Narrower) (n : ℕ) (r : Option Equation) (e : Equation) where
  claimed : n ≡ length p.values → types ≡ claim_types p.value_types → ns ≡ narrower_types p.value_types p.type_constraints → ps1 ≡ new → (o : Option Sides) → AreSidesIf o new r → r ≡ Some e
      → claim_from p hs o ≡ Some (claim_of n types ns ps1 hs e.left e.right)
  claimed a b c d None s i = absurd (none-some e (sym s ∙ i))
  claimed a b c d (Some o) s i =
      let f = same_Some (record { left = o.1; right = o.2 }) e (sym s.1 ∙ i) in
      λ k. Some (claim_of (sym a k) (sym b k) (sym c k) ((sym s.0 ∙ sym d) k) hs (Equation.left (f k)) (Equation.right (f k)))

  pub equation_decided : {E : Type 0} (os : List Operand) (result : Result Verdict E) → (x.ty == y.ty) ≡ true → AreSidesIf (sides x y ps) new r → r ≡ Some e → n ≡ length p.values → ps1 ≡ new
      → types ≡ claim_types p.value_types → ns ≡ narrower_types p.value_types p.type_constraints → IfOk result (IsEqualDecided (claim_of n types ns ps1 hs e.left e.right))
      → IfOk result (IsGoalDecided (goal_from p (state ps os hs) x y))
  equation_decided os result alike s i a d b c decided =
      IfOk-weaker result (IsEqualDecided (claim_of n types ns ps1 hs e.left e.right)) (IsGoalDecided (goal_from p (state ps os hs) x y))
      (λ v h. subst (λ (g : Option Goal). IsGoalDecided g v)
      (sym (ap (λ t. if t then Some (claim_from p hs (sides x y ps)) else None) alike ∙ ap Some (claimed a b c d (sides x y ps) s i)))
      (claim_decided (claim_of n types ns ps1 hs e.left e.right) v h))
      decided

-- a claim that a value is 1
pub one_decided : {E : Type 0} (p : PatternModel) (ps : List Expr) (hs : List ℕ) (types : List Width) (ns : List Narrower) (n place : ℕ) (result : Result Verdict E)
    → n ≡ length p.values → types ≡ claim_types p.value_types → ns ≡ narrower_types p.value_types p.type_constraints
    → IfOk result (IsEqualDecided (claim_of n types ns ps hs place 1)) → IfOk result (IsGoalDecided (Some (claim_from p hs (Some (ps, place, 1)))))
one_decided p ps hs types ns n place result a b c decided =
    IfOk-weaker result (IsEqualDecided (claim_of n types ns ps hs place 1)) (IsGoalDecided (Some (claim_from p hs (Some (ps, place, 1)))))
    (λ v h. subst (λ (g : Claim). IsGoalDecided (Some (Some g)) v) (λ i. claim_of (a i) (b i) (c i) ps hs place 1) (claim_decided (claim_of n types ns ps hs place 1) v h))
    decided

-- the goals for all sets
pub aim_decided : {E : Type 0} (aim : Aim) (p : PatternModel) (n : ℕ) (tys : List ℕ) (result : Result Decision E) → n ≡ set_count p 0 tys → tys ≡ p.values
    → IfOk result (AreGoalsDecided aim p n) → IfOk result (IsAimDecided aim p)
aim_decided aim p n tys result many is decided =
    IfOk-weaker result (AreGoalsDecided aim p n) (IsAimDecided aim p) (λ d h. subst (λ (k : ℕ). AreGoalsDecided aim p k d) (many ∙ ap (set_count p 0) is) h) decided

-- the goals for all sets decide the pattern, and whether its old side is never a number
pub pattern_decided : {E : Type 0} (p : PatternModel) (result : Result Decision E) → IfOk result (IsAimDecided aim.Refines p) → IfOk result (IsPatternDecided p)
pattern_decided p result decided = IfOk-weaker result (IsAimDecided aim.Refines p) (IsPatternDecided p) turned decided
  where
    turned : (d : Decision) → IsAimDecided aim.Refines p d → IsPatternDecided p d
    turned decision.Always all = (claims_decide p all, claims_divide_nothing p all)
    turned (decision.Fails set word) fails = fails
    turned decision.Undecided none = tt

pub empty_decided : {E : Type 0} (p : PatternModel) (result : Result Decision E) → IfOk result (IsAimDecided aim.IsEmpty p) → IfOk result (IsEmptyDecided p)
empty_decided p result decided = IfOk-weaker result (IsAimDecided aim.IsEmpty p) (IsEmptyDecided p) turned decided
  where
    turned : (d : Decision) → IsAimDecided aim.IsEmpty p d → IsEmptyDecided p d
    turned decision.Always all = empty_claims_decide p all
    turned (decision.Fails set word) fails = fails
    turned decision.Undecided none = tt
