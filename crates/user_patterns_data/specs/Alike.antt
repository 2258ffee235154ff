-- The condition under which a shallow pattern has the same plan in two trees.
use Rattle.std.specs.Prelude.{◌≡◌, ℕ, Bool, true, Some, is_some}
use Rattle.ir_tree.specs.declared.value.Value.{Value}
use Rattle.ir_tree.specs.declared.value.Value.TheVariants.{Result}
use Rattle.ir_tree.specs.Meaning.{Operation}
use Rattle.ir_tree_laws.specs.Members.{In}
use Rattle.ir_tree_laws.specs.Values.{type_of_value}
use Rattle.user_patterns_data.specs.Matching.{Header, defining_op_head}
use Rattle.user_patterns_data.specs.Planning.{planned}
use Rattle.user_patterns_data.specs.Shapes.{PatternModel}
use Rattle.user_patterns_data.specs.Depth.{is_shallow}

-- w is an operand of the verified defining operation of v
abbrev pub Under : Operation → (Header → Bool) → Value → Value → Type 0
Under t verified v w = (h : Header) × (defining_op_head t verified v ≡ Some h) × In w h.operands

module _ (t u : Operation) (verified cleans : Header → Bool) where
  -- both trees give the value the same type
  abbrev pub TypesAlike : Value → Type 0
  TypesAlike v = type_of_value v t ≡ type_of_value v u

  -- both trees have the same verified defining operation of the value
  abbrev pub GivesAlike : Value → Type 0
  GivesAlike v = defining_op_head t verified v ≡ defining_op_head u cleans v

  -- both trees agree on the result of x and on two levels of defining operations above it
  pub record ShowAlike (x : ℕ) : Type 0 where
    pub root : GivesAlike (Result x 0) × TypesAlike (Result x 0)
    pub operands : (v : Value) → Under t verified (Result x 0) v → GivesAlike v × TypesAlike v
    pub inner : (v w : Value) → Under t verified (Result x 0) v → Under t verified v w → GivesAlike w × TypesAlike w
    pub last : (v w z : Value) → Under t verified (Result x 0) v → Under t verified v w → Under t verified w z → TypesAlike z

-- the plan of a shallow pattern is the same in both trees, for any next free ids
abbrev pub PlansAlike : Type 0
PlansAlike =
    (p : PatternModel) → is_shallow p ≡ true → (t u : Operation) (verified cleans : Header → Bool) (n k x : ℕ)
    → ShowAlike t u verified cleans x → is_some (planned t verified n p x) ≡ is_some (planned u cleans k p x)
