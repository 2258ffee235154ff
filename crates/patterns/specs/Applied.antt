-- The rewrite of a module by applying a rule.
use Rattle.std.specs.Prelude.{◌≡◌, ◌≢◌, ◌⊎◌, ℕ, ◌+◌, nat_le, Bool, true, false, Option, None}
use Rattle.ir_event.specs.types.Things.{ContextModel, IsExtendedBy}
use Rattle.ir_event.specs.types.declared.refusal.Refusal.{Refusal}
use Rattle.ir_event.specs.types.declared.refusal.Refusal.TheVariants.{Full, IdsExhausted, Memory, NoSuchOp}
use Rattle.ir_event.specs.trees.Ids.{has_id, op_count}
use Rattle.ir_event.specs.trees.Limits.{most_ops, most_next}
use Rattle.ir_event.specs.tree_laws.Reasons.{unless}
use Rattle.ir_event.specs.Listener.{Listener}
use Rattle.ir_event.specs.Modules.{Module}
use Rattle.patterns_soundness.specs.base.Rewrites.{Rewrite, none, refused, becomes}
use Rattle.patterns_lowering.specs.Interning.{IsFull}
use Rattle.patterns_lowering.specs.RewriterCalls.{Benched, Led}
use Rattle.patterns_lowering.specs.Held.{open_marks}

-- why a module can't have k more operations, if it can't: their number or their ids would exceed the limits
abbrev pub limit_reason : ℕ → Module → Option Refusal
limit_reason k m =
    unless (nat_le (op_count m.tree + k) most_ops) Full (unless (nat_le (m.next + k) most_next) IdsExhausted None)

-- a rewrite, whether it was made, and the new module
abbrev pub RewriteOutcome : Rewrite → Bool → Module → Module → Type 0
RewriteOutcome none done m n = (done ≡ false) × (n ≡ m)
RewriteOutcome (becomes p) done m n = (done ≡ true) × (n ≡ p)
RewriteOutcome (refused e) done m n = ⊥

-- whether a rewrite is refused with this refusal
abbrev pub IsRefusedSo : Rewrite → Refusal → Type 0
IsRefusedSo none e = ⊥
IsRefusedSo (becomes n) e = ⊥
IsRefusedSo (refused f) e = f ≡ e

-- why a rewrite wasn't made at operation x, where c is the context after it: memory ran out, x isn't in the module,
-- the rewrite is refused, or there is a rewrite and the context is full
abbrev pub IsReason : Rewrite → ℕ → Module → ContextModel → Refusal → Type 0
IsReason w x m c e = (e ≡ Memory) ⊎ (((e ≡ NoSuchOp) × (has_id x m.tree ≡ false))
    ⊎ (IsRefusedSo w e ⊎ ((e ≡ Full) × ((w ≢ none) × IsFull c))))

-- the context only grew, the open marks stay with their modules, and the listeners were notified of exactly the events
-- between the two modules
pub record Applied {B : Type 0} (meaning : B → Listener) (old new : Benched B) : Type 0 where
  pub grows : IsExtendedBy old.transaction.ctx new.transaction.ctx
  pub opens : open_marks new.transaction ≡ open_marks old.transaction
  pub led : Led meaning old new
