-- What rules read around an operation, apart from its regions: its surroundings, those of the defining operations of
-- its operands, and those of their defining operations.
use Rattle.std.specs.Prelude.{◌≡◌, ℕ, List, [], ◌∷◌, Bool, true, map, Option, Some, None, option_and_then}
use Rattle.std.specs.List.{list_any}
use Rattle.std.specs.Prelude.{eqb}
use Rattle.ir_event.specs.trees.declared.value.Value.{Value}
use Rattle.ir_event.specs.trees.declared.value.Value.TheVariants.{Result, Arg}
use Rattle.ir_event.specs.trees.Tree.{OpOf, RegionsOf, no_regions, region}
use Rattle.ir_event.specs.tree_laws.Reads.{ops_in, last_id}
use Rattle.ir_event.specs.tree_laws.Members.{In}
use Rattle.listeners_support.specs.Surroundings.{SurroundingsOf, surroundings}
use Rattle.greedy.specs.Reached.{ends}

-- the defining operation of a value, if it is a result
abbrev pub defining_op : Value → Option ℕ
defining_op (Result x k) = Some x
defining_op (Arg x r k) = None

-- whether an operation is one of a list
abbrev pub is_listed : ℕ → List ℕ → Bool
is_listed x ys = list_any (λ y. eqb y x) ys

module _ {N T A : Type 0} where
  -- the operands of an optional operation
  abbrev pub operands_of : Option (SurroundingsOf N T A) → List Value
  operands_of None = []
  operands_of (Some s) = s.node.head.operands

  -- the surroundings of the defining operation of a value
  abbrev pub given_by : (ℕ → Option (SurroundingsOf N T A)) → Value → Option (SurroundingsOf N T A)
  given_by look v = option_and_then look (defining_op v)

  -- the surroundings of the defining operation of a value, and of the defining operations of its operands
  abbrev pub source_by : (ℕ → Option (SurroundingsOf N T A)) → Value
      → Option (SurroundingsOf N T A) × List (Option (SurroundingsOf N T A))
  source_by look v = (given_by look v, map (given_by look) (operands_of (given_by look v)))

  -- what rules read of operation x
  abbrev pub dominance_by : (ℕ → Option (SurroundingsOf N T A)) → ℕ
      → Option (SurroundingsOf N T A) × List (Option (SurroundingsOf N T A) × List (Option (SurroundingsOf N T A)))
  dominance_by look x = (look x, map (source_by look) (operands_of (look x)))

  abbrev pub local_context : ℕ → OpOf N T A
      → Option (SurroundingsOf N T A) × List (Option (SurroundingsOf N T A) × List (Option (SurroundingsOf N T A)))
  local_context x t = dominance_by (λ y. surroundings y t) x

  -- operation x has a result of operation y as an operand
  abbrev pub Uses : ℕ → ℕ → OpOf N T A → Type 0
  Uses x y t = (v : Value) × In v (operands_of (surroundings x t)) × (defining_op v ≡ Some y)

  -- the list holds every operation that passes a test, its users, and their users
  pub record ListsSeers (reached : ℕ → Bool) (listed : List ℕ) (t : OpOf N T A) : Type 0 where
    pub itself : (y : ℕ) → reached y ≡ true → is_listed y listed ≡ true
    pub users : (y x : ℕ) → reached y ≡ true → Uses x y t → is_listed x listed ≡ true
    pub users_of_users : (z y x : ℕ) → reached z ≡ true → Uses y z t → Uses x y t → is_listed x listed ≡ true

  -- what rules read of an operation that ends a block: its surroundings, and those of the defining operations of its
  -- operands
  abbrev pub end_dominance : ℕ → OpOf N T A → Option (SurroundingsOf N T A) × List (Option (SurroundingsOf N T A))
  end_dominance l t = (surroundings l t, map (given_by (λ y. surroundings y t)) (operands_of (surroundings l t)))

  -- if an operation that passes a test, or a user of it, ends a block, the list holds its parent
  pub record ListsAround (reached : ℕ → Bool) (listed : List ℕ) (t : OpOf N T A) : Type 0 where
    pub around : (l x : ℕ) → reached l ≡ true → ends x l t ≡ true → is_listed x listed ≡ true
    pub around_users : (z l x : ℕ) → reached z ≡ true → Uses l z t → ends x l t ≡ true → is_listed x listed ≡ true

  -- the last operation of each region's block
  abbrev pub last_ids : RegionsOf N T A → List (Option ℕ)
  last_ids no_regions = []
  last_ids (region g rs) = option_and_then last_id (ops_in g) ∷ last_ids rs
