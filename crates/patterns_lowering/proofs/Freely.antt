-- Edits that aren't refused, carried out one after another.
use Rattle.std.proofs.Common.{◌≡◌, sym, ◌∙◌, subst, List, ◌∷◌, None, Ok}
use Rattle.ir_event.specs.Listener.{Listener}
use Rattle.ir_event.specs.Modules.{Module}
use Rattle.patterns_soundness.specs.base.Contents.{Edit, NumberedEdit, edit_meaning, edit_reason}
use Rattle.rewriter.specs.Contents.{tests_in}
use Rattle.rewriter.specs.Edits.{reason_by}
use Rattle.rewriter.specs.RewriterCalls.{Benched, state_of}
use Rattle.rewriter.specs.Held.{TransactionModel, module_held}
use Rattle.rewriter.proofs.Calls.{stepped}
use Rattle.rewriter.proofs.Numbers.{reason_meaning}
use Rattle.patterns_soundness.specs.base.declared.edit.Edit.{Edit as Coded}
use Rattle.patterns_soundness.specs.base.Lists.{Free, IsMadeOrRefused, edits_meaning, numbered}
use Rattle.patterns_lowering.specs.Runs.{Along}
use Rattle.patterns_lowering.proofs.Carrying.{Begun, Carrying}

-- the edit with interned numbers has no reason for a refusal either
pub free_numbered : (e : NumberedEdit) (h : TransactionModel) → edit_reason (edit_meaning h.ctx e) (module_held h) ≡ None → reason_by (tests_in h.ctx) e h.store.module_of ≡ None
free_numbered e h free = sym (reason_meaning h.ctx e h.store.module_of) ∙ free

module _ {B : Type 0} (meaning : B → Listener) where
  -- some edits were made, and those left aren't refused
  pub record CarryingFree (all rest : List Coded) (a b : Benched B) : Type 0 where
    pub carrying : Carrying meaning all rest a b
    pub free : Free (edits_meaning b.transaction.ctx rest) (module_held b.transaction)

  -- the edits left after one more
  pub free_more : (rest : List Coded) (e : Coded) (b d : Benched B) → Free (edits_meaning b.transaction.ctx (e ∷ rest)) (module_held b.transaction)
      → IsMadeOrRefused (edit_meaning b.transaction.ctx (numbered e)) (Ok tt) (module_held b.transaction) (module_held d.transaction) → Along meaning b d → Free (edits_meaning d.transaction.ctx rest) (module_held d.transaction)
  free_more rest e b d free attempted along = subst (λ (p : List Edit × Module). Free p.0 p.1) (λ i. (edits_meaning (sym along.ctx i) rest, sym attempted.1 i)) free.1

  -- the edits after a step was opened
  pub begun_free : (a b : Benched B) (begun : Begun meaning a b) (es : List Coded) → Free (edits_meaning a.transaction.ctx es) (module_held a.transaction) → Free (edits_meaning b.transaction.ctx es) (module_held b.transaction)
  begun_free a b begun es free = subst (λ (p : List Edit × Module). Free p.0 p.1) (λ i. (edits_meaning (sym begun.ctx i) es, sym (stepped (state_of meaning a) (state_of meaning b) begun.goes).0 i)) free
