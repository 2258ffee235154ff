-- When operations of two trees are alike.
use Rattle.std.specs.Prelude.{◌≡◌, ℕ, Bool, true, false, List, Option, Some, None, is_some, option_map}
use Rattle.ir_event.specs.types.Terms.{TypeTerm, AttrTerm}
use Rattle.ir_event.specs.trees.declared.value.Value.{Value}
use Rattle.ir_event.specs.trees.Tree.{RegionOf, empty, block, head, regions}
use Rattle.ir_event.specs.trees.Meaning.{Operation}
use Rattle.ir_event.specs.tree_laws.Members.{In}
use Rattle.ir_event.specs.tree_laws.Values.{region_at}
use Rattle.patterns_laws.specs.Keeps.{given}
use Rattle.patterns_soundness.specs.base.Looks.{Header, Ended, ended, defining_op, is_verified, is_erasable, type_of}

-- both exist, or neither does
abbrev pub Same : {X Y : Type 0} → Option X → Option Y → Type 0
Same a b = is_some a ≡ is_some b

-- the defining operation of a value has the same head in both trees, and is verified in both or in neither
pub record ShowsAlike (t u : Operation) (v : Value) : Type 0 where
  pub gives : defining_op t v ≡ defining_op u v
  pub verified : (h : Header) → defining_op t v ≡ Some h → is_verified t h ≡ is_verified u h

-- the operands of an operation are alike in both trees, and so are the operands of their defining operations
pub record DominatedByAlike (t u : Operation) (h : Header) : Type 0 where
  pub operands : (v : Value) → In v h.operands → ShowsAlike t u v
  pub types : (v : Value) → In v h.operands → type_of t v ≡ type_of u v
  pub inner : (v : Value) → In v h.operands → (y : Header) → defining_op t v ≡ Some y → (w : Value) → In w y.operands
      → ShowsAlike t u w × (type_of t w ≡ type_of u w)

-- the last operation of the block of a region, by the region's number
abbrev pub last_of : Operation → ℕ → Option Header
last_of o r = option_map (λ (e : Ended). e.last) (given (region_at r (regions o)) ended)

-- whether there is a region, and it has a block
abbrev pub shape_of : Option (RegionOf (List ℕ) TypeTerm AttrTerm) → Option Bool
shape_of None = None
shape_of (Some empty) = Some false
shape_of (Some (block args os)) = Some true

-- two operations have regions of the same shape, and their blocks end alike
pub record EndsAlike (t u o p : Operation) : Type 0 where
  pub shapes : (r : ℕ) → shape_of (region_at r (regions o)) ≡ shape_of (region_at r (regions p))
  pub lasts : (r : ℕ) → last_of o r ≡ last_of p r
  pub verified : (r : ℕ) (h : Header) → last_of o r ≡ Some h → is_verified t h ≡ is_verified u h
  pub operands : (r : ℕ) (h : Header) → last_of o r ≡ Some h → (v : Value) → In v h.operands → ShowsAlike t u v

-- everything that a rule reads is alike: the heads are equal, the operands and the block ends are alike, and both
-- operations may be erased, or neither
pub record LooksAlike (t u o p : Operation) : Type 0 where
  pub heads : head o ≡ head p
  pub dominated_by : DominatedByAlike t u (head o)
  pub ends : EndsAlike t u o p
  pub goes : is_erasable t o ≡ is_erasable u p
