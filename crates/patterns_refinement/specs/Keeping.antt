-- The rewrite rules refine what a module computes, at an operation and for a whole run.
use Rattle.std.specs.Prelude.{◌≡◌, ◌<◌, ℕ, nat_lt, Bool, true, false, if◌then◌else◌}
use Rattle.std.specs.List.{list_all}
use Rattle.ir_types.specs.Words.{is_isolated}
use Rattle.ir_tree.specs.declared.value.Value.{Value}
use Rattle.ir_tree.specs.declared.value.Value.TheVariants.{Result, Arg}
use Rattle.ir_tree.specs.WellFormed.{IsWellFormed}
use Rattle.ir_tree.specs.Meaning.{Operation}
use Rattle.ir_event.specs.Modules.{Module}
use Rattle.ir_event.specs.Step.{IsSorted}
use Rattle.patterns_base.specs.declared.rule.Rule.{Rule}
use Rattle.patterns_base.specs.Rewrites.{becomes, rewrite_of}
use Rattle.user_patterns_data.specs.Matching.{Header}
use Rattle.patterns_refinement.specs.Meaning.{AreOfTypes, Assignment, Each, FitsAll, owner}
use Rattle.patterns_refinement.specs.Better.{AllSure, AreKinded, Better, gives}
use Rattle.patterns_refinement.specs.Observing.{Shows}

-- a value is available if its operation is executed; block arguments are always available
abbrev pub is_there : (ℕ → Bool) → Value → Bool
is_there done (Result x k) = done x
is_there done (Arg x r k) = true

-- an executed operation has available operands
abbrev pub IsFed : (ℕ → Bool) → Header → Type 0
IsFed done h = done h.id ≡ true → list_all (is_there done) h.operands ≡ true

-- outcomes with which a tree computes: they fit the executed operations and are of their types; no signed division of
-- poison by -1 is executed, and no operation is executed before the operations that compute its operands
pub record Computing (a : Assignment) (done : ℕ → Bool) (t : Operation) : Type 0 where
  pub fits : FitsAll a done t
  pub typed : AreOfTypes a t
  pub sure : AllSure a done t
  pub fed : Each (IsFed done) t

-- the operations executed after a rewrite at operation x, where n was the next free id: the old ones, and the new
-- ones if x was executed
abbrev pub done_after : ℕ → ℕ → (ℕ → Bool) → ℕ → Bool
done_after n x done y = if nat_lt y n then done y else done x

-- the tree computes with outcomes that refine those of the module m. Values that no executed arithmetic operation
-- computed are unchanged, and no executed operation computes them now. The tree shows what the module showed: the
-- observable operations are kept in order, with the same or refined operands, except some that may be erased
pub record Improves (a : Assignment) (done : ℕ → Bool) (m : Module) (later : ℕ → Bool) (t : Operation) : Type 0 where
  pub now : Assignment
  pub better : Better m.next a now
  pub stays : (v : Value) → owner v < m.next → gives done m.tree v ≡ false → now v ≡ a v
  pub free : (v : Value) → owner v < m.next → gives done m.tree v ≡ false → gives later t v ≡ false
  pub computing : Computing now later t
  pub shows : Shows a now m later t

-- a module in which rules refine: well-formed, with sorted dictionaries, and each arithmetic operation has operands
-- and a result of the kinds that it needs
pub record IsReady (m : Module) : Type 0 where
  pub wellformed : IsWellFormed is_isolated m
  pub sorted : IsSorted m
  pub kinded : AreKinded m.tree

-- rule r rewrites a ready module to a ready module
abbrev pub KeepsReady : Rule → Type 0
KeepsReady r = (m n : Module) (x : ℕ) → IsReady m → rewrite_of r m x ≡ becomes n → IsReady n

-- for all outcomes with which the module computes, the rewritten module computes a refinement, whether the operation
-- at which the rule is applied is executed or not
abbrev pub KeepsComputing : Rule → Type 0
KeepsComputing r =
    (m n : Module) (x : ℕ) (a : Assignment) (done : ℕ → Bool) → IsReady m → Computing a done m.tree
    → rewrite_of r m x ≡ becomes n → Improves a done m (done_after m.next x done) n.tree
