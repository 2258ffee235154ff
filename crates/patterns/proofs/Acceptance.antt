-- The module of a rewriter is well-formed, so no edit of a rule is refused.
use Rattle.std.proofs.Common.{ℕ}
use Rattle.ir_event.specs.trees.Meaning.{IsSoundIn, isolated_in}
use Rattle.ir_event.specs.trees.WellFormed.{IsWellFormed}
use Rattle.ir_event.proofs.Steps.{wellformed_meaning, sorted_meaning}
use Rattle.patterns_soundness.specs.base.declared.rule.Rule.{Rule}
use Rattle.patterns_soundness.specs.Accepted.{AreAccepted, IsAcceptedAt}
use Rattle.patterns_lowering.specs.Held.{TransactionModel, module_held}

pub accepted_of : AreAccepted → (h : TransactionModel) → IsSoundIn h.ctx h.store.module_of.tree → IsWellFormed (isolated_in h.ctx) h.store.module_of → (r : Rule) (x : ℕ) → IsAcceptedAt r (module_held h) x
accepted_of are h sound wellformed r x = are r (module_held h) x (wellformed_meaning h.ctx h.store.module_of wellformed) (sorted_meaning h.ctx h.store.module_of sound)
