-- Texts that commands contain, and contexts that grow when texts are parsed.
use Rattle.std.specs.Prelude.{◌≡◌, ℕ, Option}
use Rattle.ir_event.specs.types.Sound.{Holds}
use Rattle.ir_event.specs.types.Things.{IsExtendedBy}
use Rattle.ir_event.specs.types.declared.refusal.Refusal.{Refusal}
use Rattle.ir_event.specs.Listener.{Listener}
use Rattle.mlir_work_transforms.specs.rewriter.Commands.{TextRefused, Response, text_response}
use Rattle.mlir_work_transforms.specs.rewriter.RewriterCalls.{Benched, AgreesOrStale, state_of}

-- the context of a rewriter grew, and its module, marks and analyses didn't change
pub record Grown {B : Type 0} (meaning : B → Listener) (old new : Benched B) : Type 0 where
  pub grows : IsExtendedBy old.transaction.ctx new.transaction.ctx
  pub before : Holds old.transaction.ctx
  pub after : Holds new.transaction.ctx
  pub same : state_of meaning new ≡ state_of meaning old
  pub next : new.transaction.store.module_of.next ≡ old.transaction.store.module_of.next
  pub kept : AgreesOrStale meaning old → AgreesOrStale meaning new

-- a text was refused with this response, in an input of so many bytes; the text should spell an element of `X`
abbrev pub NotRead : {X : Type 0} → ℕ → (Refusal → Option ℕ → Type 0) → (X → Type 0) → Response → Type 0
NotRead bytes IsRefusal Rendered response = (refusal : Refusal) × (offset : Option ℕ) × TextRefused bytes IsRefusal Rendered refusal offset × (response ≡ text_response refusal offset)
