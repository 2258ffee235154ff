-- Proofs about the answer to `why`.
use Rattle.std.proofs.Common.{◌≡◌, ◌∙◌, sym, ap, ℕ, List, Bool, Option}
use Rattle.ir_event.specs.trees.Ids.{has_id}
use Rattle.ir_event.specs.declared.world.World.{World}
use Rattle.ir_event.specs.Modules.{module_in}
use Rattle.mlir_work_transforms.specs.Rule.{Rule}
use Rattle.mlir_work_transforms.specs.WhyPattern.{why_pattern}
use Rattle.mlir_work_transforms.specs.WhyText.{rules_to_explain, why_lines}
use Rattle.mlir_work_transforms.specs.registry.Registry.{Kept}
use Rattle.mlir_work_transforms.specs.rewriter.Held.{TransactionModel, module_held}
use Rattle.mlir_work_session.proofs.Reading.{module_seen}

-- an operation is in the rewriter's module iff it is in the module of its IR state
module _ (h : TransactionModel) (w : World) (ctx : w.ctx ≡ h.ctx) (store : w.store ≡ h.store) where
  pub in_held : (x : ℕ) (b : Bool) → b ≡ has_id x (module_in w).tree → has_id x (module_held h).tree ≡ b
  in_held x b e = ap (λ m. has_id x m.tree) (sym (module_seen h w ctx store)) ∙ sym e

  pub pattern_held : (k : Kept) (x : ℕ) (bytes : List ℕ) → bytes ≡ why_pattern k (module_in w) x → bytes ≡ why_pattern k (module_held h) x
  pattern_held k x bytes is = is ∙ ap (λ m. why_pattern k m x) (module_seen h w ctx store)

  pub lines_held : (rule : Option Rule) (x : ℕ) (bytes : List ℕ) → bytes ≡ why_lines (rules_to_explain rule x (module_in w)) x (module_in w) → bytes ≡ why_lines (rules_to_explain rule x (module_held h)) x (module_held h)
  lines_held rule x bytes is = is ∙ ap (λ m. why_lines (rules_to_explain rule x m) x m) (module_seen h w ctx store)
