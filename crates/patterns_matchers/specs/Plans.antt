-- The meaning of plans: the edits of each, in a context.
use Rattle.std.specs.Prelude.{ℕ, ◌+◌, List, [], ◌∷◌, codes}
use Rattle.ir_event.specs.types.Things.{ContextModel, IsName, IsType}
use Rattle.ir_event.specs.types.Terms.{TypeTerm, IntegerOf, name_term, type_term}
use Rattle.ir_event.specs.trees.declared.value.Value.{Value}
use Rattle.ir_event.specs.trees.declared.value.Value.TheVariants.{Result}
use Rattle.ir_event.specs.trees.declared.place.Place.{Place}
use Rattle.patterns_base.specs.Contents.{Edit}
use Rattle.patterns_base.specs.Edits.{Make, SetOperand, SetAttr, Erase}
use Rattle.patterns_base.specs.Lists.{AllFit, edits_meaning}
use Rattle.patterns_base.specs.Made.{i64, constant, binary, comparison, choice, cast}
use Rattle.patterns_base.specs.Makes.{give, give_new, give_constant}
use Rattle.patterns_matchers.specs.declared.plan.RewritePlan.{RewritePlan}
use Rattle.patterns_matchers.specs.declared.plan.RewritePlan.TheVariants as plan
use Rattle.patterns_matchers.specs.declared.plan.LargePlan.{LargePlan}
use Rattle.patterns_matchers.specs.declared.plan.LargePlan.TheVariants as large

-- a new constant, and an operation on a value and that constant, which replaces the result of x
abbrev pub combined : ℕ → ℕ → Place → List ℕ → TypeTerm → Value → ℕ → List Edit
combined n x point name ty v bits =
    Make point (constant ty bits) ∷ give_new point (n + 1) x (binary name ty v (Result n 0))

-- sets the predicate and the operands of x in place
abbrev pub mirroring : ℕ → ℕ → Value → Value → List Edit
mirroring x p a b = SetAttr x (codes "predicate") (IntegerOf i64 p) ∷ SetOperand x 0 a ∷ SetOperand x 1 b ∷ []

-- a new comparison, and a select on it, which replaces the result of x
abbrev pub choosing : ℕ → ℕ → Place → ℕ → TypeTerm → Value → Value → List Edit
choosing n x point p ty a b = Make point (comparison p a b) ∷ give_new point (n + 1) x (choice ty (Result n 0) a b)

-- a + ((b xor ones) + 1) replaces the result of x
abbrev pub subtracting : ℕ → ℕ → Place → TypeTerm → Value → Value → ℕ → List Edit
subtracting n x point ty a b ones =
    Make point (constant ty ones)
    ∷ Make point (binary (codes "arith.xori") ty b (Result n 0))
    ∷ Make point (constant ty 1)
    ∷ Make point (binary (codes "arith.addi") ty (Result (n + 1) 0) (Result (n + 2) 0))
    ∷ give_new point (n + 4) x (binary (codes "arith.addi") ty a (Result (n + 3) 0))

-- a - (a / b) * b replaces the result of x
abbrev pub dividing_by : ℕ → ℕ → Place → List ℕ → TypeTerm → Value → Value → List Edit
dividing_by n x point division ty a b =
    Make point (binary division ty a b)
    ∷ Make point (binary (codes "arith.muli") ty (Result n 0) b)
    ∷ give_new point (n + 2) x (binary (codes "arith.subi") ty a (Result (n + 1) 0))

-- the edits of a large plan at operation x, where n is the next free id and the place is before x
abbrev pub large_meaning : ContextModel → ℕ → ℕ → Place → LargePlan → List Edit
large_meaning c n x point (large.CombinedConstant name ty v bits) = combined n x point (name_term c name) (type_term c ty) v bits
large_meaning c n x point (large.SwapComparison p a b) = mirroring x p a b
large_meaning c n x point (large.CompareAndSelect p ty a b) = choosing n x point p (type_term c ty) a b
large_meaning c n x point (large.Difference ty a b ones) = subtracting n x point (type_term c ty) a b ones
large_meaning c n x point (large.Remainder division ty a b) =
    dividing_by n x point (name_term c division) (type_term c ty) a b

-- the same for any plan
abbrev pub plan_meaning : ContextModel → ℕ → ℕ → Place → RewritePlan → List Edit
plan_meaning c n x point plan.Erase = Erase x ∷ []
plan_meaning c n x point (plan.Give v) = give x v
plan_meaning c n x point (plan.Edits es) = edits_meaning c es.items
plan_meaning c n x point (plan.Constant ty bits) = give_constant point n x (type_term c ty) bits
plan_meaning c n x point (plan.Cast name ty v) = give_new point n x (cast (name_term c name) (type_term c ty) v)
plan_meaning c n x point (plan.Large p) = large_meaning c n x point p.value

-- the numbers of a large plan are interned in a context
abbrev pub LargeIsOf : ContextModel → LargePlan → Type 0
LargeIsOf c (large.CombinedConstant name ty v bits) = IsName c name × IsType c ty
LargeIsOf c (large.SwapComparison p a b) = Unit {0}
LargeIsOf c (large.CompareAndSelect p ty a b) = IsType c ty
LargeIsOf c (large.Difference ty a b ones) = IsType c ty
LargeIsOf c (large.Remainder division ty a b) = IsName c division × IsType c ty

-- the same for any plan
abbrev pub PlanIsOf : ContextModel → RewritePlan → Type 0
PlanIsOf c plan.Erase = Unit {0}
PlanIsOf c (plan.Give v) = Unit {0}
PlanIsOf c (plan.Edits es) = AllFit c es.items
PlanIsOf c (plan.Constant ty bits) = IsType c ty
PlanIsOf c (plan.Cast name ty v) = IsName c name × IsType c ty
PlanIsOf c (plan.Large p) = LargeIsOf c p.value
