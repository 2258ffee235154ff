-- Which operations of a module can be observed, and when a rewritten module shows the same. An arithmetic operation
-- computes a result and does nothing else. All other operations are observable: returns, calls, stores, loops, and
-- operations of unknown dialects.
use Rattle.std.specs.Prelude.{◌≡◌, ◌⊎◌, ◌<◌, ℕ, List, [], map, Bool, true, false, ◌&&◌, not, if◌then◌else◌}
use Rattle.ir_types.specs.Terms.{TypeTerm, AttrTerm}
use Rattle.ir_tree.specs.declared.value.Value.{Value}
use Rattle.ir_tree.specs.Tree.{RegionsOf, RegionOf, OpsOf, op, no_regions, region, empty, block, no_ops, next, head, regions}
use Rattle.ir_tree.specs.Meaning.{Operation}
use Rattle.ir_event.specs.Modules.{Module}
use Rattle.op_registry.specs.Registry.{own_of}
use Rattle.effects.specs.Dead.{is_kept, may_go}
use Rattle.effects.specs.Effects.{effects}
use Rattle.user_patterns_data.specs.Matching.{Header}
use Rattle.patterns_refinement.specs.Meaning.{Assignment, EachInRegions, is_arithmetic, owner}
use Rattle.patterns_refinement.specs.Better.{AllBetter, gives}
use Rattle.patterns_refinement.specs.Choices.{AllStill, AreOrigins, Origins, is_choice}

-- ---- observable operations
-- Returns the tree without the arithmetic operations inside its root. An arithmetic operation is removed with its
-- regions: the verifier refuses regions there, and nothing runs them.
abbrev mutual
  pub shown : Operation → Operation
  shown (op h rs) = op h (shown_regions rs)

  pub shown_regions : RegionsOf (List ℕ) TypeTerm AttrTerm → RegionsOf (List ℕ) TypeTerm AttrTerm
  shown_regions no_regions = no_regions
  shown_regions (region g rs) = region (shown_region g) (shown_regions rs)

  pub shown_region : RegionOf (List ℕ) TypeTerm AttrTerm → RegionOf (List ℕ) TypeTerm AttrTerm
  shown_region empty = empty
  shown_region (block args os) = block args (shown_ops os)

  pub shown_ops : OpsOf (List ℕ) TypeTerm AttrTerm → OpsOf (List ℕ) TypeTerm AttrTerm
  shown_ops no_ops = no_ops
  shown_ops (next o os) = if is_arithmetic (head o) then shown_ops os else next (shown o) (shown_ops os)

-- Returns whether an operation may be erased if its results have no uses: it isn't a terminator, a module or a
-- function, and its effects, with those of the operations inside it, are only allocations and reads
-- (`wouldOpBeTriviallyDead`).
abbrev pub is_unmissed : Operation → Bool
is_unmissed o = not (is_kept (head o).name) && may_go (effects own_of o)

-- ---- the same operations, in the same order
-- The second tree has the operations of the first in the same order, in the same blocks with the same arguments. R
-- relates the old head of each operation to the new head. The second tree may lack operations that may be erased, and
-- has no other operations.
abbrev mutual
  pub Follows : (Header → Header → Type 0) → Operation → Operation → Type 0
  Follows R (op h rs) (op k qs) = R h k × RegionsFollow R rs qs

  pub RegionsFollow : (Header → Header → Type 0) → RegionsOf (List ℕ) TypeTerm AttrTerm → RegionsOf (List ℕ) TypeTerm AttrTerm → Type 0
  RegionsFollow R no_regions no_regions = Unit {0}
  RegionsFollow R no_regions (region k qs) = ⊥
  RegionsFollow R (region g rs) no_regions = ⊥
  RegionsFollow R (region g rs) (region k qs) = RegionFollows R g k × RegionsFollow R rs qs

  pub RegionFollows : (Header → Header → Type 0) → RegionOf (List ℕ) TypeTerm AttrTerm → RegionOf (List ℕ) TypeTerm AttrTerm → Type 0
  RegionFollows R empty empty = Unit {0}
  RegionFollows R empty (block args ps) = ⊥
  RegionFollows R (block args os) empty = ⊥
  RegionFollows R (block args os) (block now ps) = (args ≡ now) × OpsFollow R os ps

  pub OpsFollow : (Header → Header → Type 0) → OpsOf (List ℕ) TypeTerm AttrTerm → OpsOf (List ℕ) TypeTerm AttrTerm → Type 0
  OpsFollow R no_ops no_ops = Unit {0}
  OpsFollow R no_ops (next p ps) = ⊥
  OpsFollow R (next o os) no_ops = (is_unmissed o ≡ true) × OpsFollow R os no_ops
  OpsFollow R (next o os) (next p ps) = (Follows R o p × OpsFollow R os ps) ⊎ ((is_unmissed o ≡ true) × OpsFollow R os (next p ps))

-- ---- the same heads, with operands that refine
-- Returns whether a value is the result of an arithmetic operation.
abbrev pub is_computed : Operation → Value → Bool
is_computed t v = gives (λ x. true) t v

-- Returns a head without its operands.
abbrev pub without_operands : Header → Header
without_operands h = record h { operands = [] }

-- An operation of a tree t with ids below n is kept in a tree u: its id, name, result types, properties and attributes
-- are the same. Each new operand represents what the old operand represented. In a tree without choices, a value that
-- no arithmetic operation computes may represent itself, so such an operand is the same value. If the operation is
-- executed, the outcome of each new operand refines the outcome of the old one. A choice may get other operands: its
-- result represents the same (`origins` of `Shows`). No other operation becomes a choice.
pub record Stays (n : ℕ) (t u : Operation) (a now : Assignment) (later : ℕ → Bool) (h k : Header) : Type 0 where
  pub same : without_operands h ≡ without_operands k
  pub choice : is_choice t h ≡ false → is_choice u k ≡ false
  pub still : is_choice t h ≡ false → (o : Origins) → AreOrigins n a o later t → AllStill o h.operands k.operands
  pub better : is_choice t h ≡ false → later k.id ≡ true → AllBetter (map a h.operands) (map now k.operands)

-- ---- a rewritten module
-- A tree with outcomes `now` shows what a module with outcomes `a` showed: its observable operations are those of the
-- module, except some that may be erased. No old value becomes the result of an arithmetic operation. Whatever the
-- values of the module represent, they represent the same in the tree. (A root that is arithmetic, which no module has,
-- isn't compared.)
pub record Shows (a now : Assignment) (m : Module) (later : ℕ → Bool) (t : Operation) : Type 0 where
  pub root : is_arithmetic (head m.tree) ≡ false → Stays m.next m.tree t a now later (head m.tree) (head t)
  pub follows : RegionsFollow (Stays m.next m.tree t a now later) (shown_regions (regions m.tree)) (shown_regions (regions t))
  pub simple : (v : Value) → owner v < m.next → is_computed m.tree v ≡ false → is_computed t v ≡ false
  pub origins : (o : Origins) → AreOrigins m.next a o later m.tree → AreOrigins m.next now o later t

-- ---- a corollary
-- P is true of the head of some operation.
abbrev mutual
  pub Any : (Header → Type 0) → Operation → Type 0
  Any P (op h rs) = P h ⊎ AnyInRegions P rs

  pub AnyInRegions : (Header → Type 0) → RegionsOf (List ℕ) TypeTerm AttrTerm → Type 0
  AnyInRegions P no_regions = ⊥
  AnyInRegions P (region g rs) = AnyInRegion P g ⊎ AnyInRegions P rs

  pub AnyInRegion : (Header → Type 0) → RegionOf (List ℕ) TypeTerm AttrTerm → Type 0
  AnyInRegion P empty = ⊥
  AnyInRegion P (block args os) = AnyAmong P os

  pub AnyAmong : (Header → Type 0) → OpsOf (List ℕ) TypeTerm AttrTerm → Type 0
  AnyAmong P no_ops = ⊥
  AnyAmong P (next o os) = Any P o ⊎ AnyAmong P os

-- Each observable operation of the rewritten tree is kept from the module. So a return returns what it returned, or a
-- refinement, and a store stores such a value.
abbrev pub ShownWereThere : Type 0
ShownWereThere =
    (a now : Assignment) (m : Module) (later : ℕ → Bool) (t : Operation) → Shows a now m later t
    → EachInRegions (λ k. AnyInRegions (λ h. Stays m.next m.tree t a now later h k) (shown_regions (regions m.tree))) (shown_regions (regions t))
