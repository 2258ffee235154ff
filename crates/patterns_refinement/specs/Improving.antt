-- The module after a user pattern is applied, if the root's outcome may be poison. Then the new outcome may be known,
-- and so may the outcomes of its users.
use Rattle.std.specs.Prelude.{◌≡◌, ℕ, Bool, true, false, not, ◌<◌}
use Rattle.ir_tree.specs.declared.value.Value.{Value}
use Rattle.ir_types.specs.Words.{is_isolated}
use Rattle.ir_tree.specs.WellFormed.{IsWellFormed}
use Rattle.ir_tree.specs.Meaning.{Operation}
use Rattle.ir_event.specs.Modules.{Module}
use Rattle.patterns_base.specs.Rewrites.{becomes}
use Rattle.user_patterns_data.specs.Shapes.{PatternModel}
use Rattle.user_patterns_claims.specs.Quotients.{is_without_quotients}
use Rattle.user_patterns_apply.specs.Own.{user_pattern_rewrite}
use Rattle.patterns_refinement.specs.Meaning.{AreOfTypes, Assignment, FitsAll, owner}
use Rattle.patterns_refinement.specs.Better.{AllSure, AreKinded, Better, gives}
use Rattle.patterns_refinement.specs.After.{or_new}
use Rattle.patterns_refinement.specs.Observing.{Shows}
use Rattle.patterns_refinement.specs.Applied.{IsProper}
use Rattle.patterns_refinement.specs.Applying.{IsFoundIn, KeepsThere}

-- the tree computes what the module m computed, or a refinement; values that no executed arithmetic operation
-- computed are unchanged, and the tree shows what the module showed
pub record ComputesBetter (a : Assignment) (done : ℕ → Bool) (m : Module) (later : ℕ → Bool) (t : Operation) : Type 0 where
  pub now : Assignment
  pub better : Better m.next a now
  pub stays : (v : Value) → owner v < m.next → gives done m.tree v ≡ false → now v ≡ a v
  pub fits : FitsAll now later t
  pub typed : AreOfTypes now t
  pub sure : AllSure now later t
  pub shows : Shows a now m later t

-- a well-formed module after a rewrite by a pattern that refines computes a refinement, also if the root is poison;
-- the premises are that no signed division of poison by -1 is executed, and that each arithmetic operation of the new
-- module has operands of the kinds that it needs
abbrev pub RewritesComputeBetter : Type 0
RewritesComputeBetter =
    (p : PatternModel) (m n : Module) (x : ℕ) (a : Assignment) (done : ℕ → Bool)
    → IsWellFormed is_isolated m → IsProper p → is_without_quotients p ≡ true
    → FitsAll a done m.tree → AreOfTypes a m.tree → AllSure a done m.tree
    → (found : IsFoundIn p m x a done) → KeepsThere p m x a done found
    → AreKinded n.tree → user_pattern_rewrite p m x ≡ becomes n → ComputesBetter a done m (or_new m.next done) n.tree
