-- Proofs about the answer to a report on one operation or one value.
use Rattle.std.proofs.Common.{◌≡◌, ◌∙◌, sym, ap, refl, inl, inr, ℕ, List, [], Option, Some, None, Bool, true, false}
use Rattle.std.specs.Option.{option_map}
use Rattle.std.specs.List.{find}
use Rattle.ir_event.specs.types.declared.refusal.Refusal.TheVariants.{Memory, NoSuchKind, Stale}
use Rattle.ir_event.specs.declared.world.World.{World}
use Rattle.ir_event.specs.Listener.{Listener}
use Rattle.ir_event.specs.Modules.{module_in}
use Rattle.ir_event.specs.Panels.{is_kind as has_this_kind}
use Rattle.mlir_work_transforms.specs.rewriter.Held.{TransactionModel, module_held}
use Rattle.mlir_work_transforms.specs.rewriter.RewriterCalls.{Benched, state_of}
use Rattle.mlir_work_transforms.specs.rewriter.Commands.{Replied}
use Rattle.mlir_work_transforms.specs.rewriter.Machine.{Done, Refused, Nothing, Rows}
use Rattle.mlir_work_transforms.specs.rewriter.Panels.{is_kind, shown}
use Rattle.mlir_work_script.specs.SessionCommands.{ReportOf}
use Rattle.ir_event.specs.declared.subject.Subject.{Subject}
use Rattle.mlir_work_session_base.specs.RowText.{rows_text}
use Rattle.ir_event.specs.Subjects.{is_there, rows_about}
use Rattle.mlir_work_session.specs.Machine.{RunsSessionCommand, SessionSetting}
use Rattle.mlir_work_session.proofs.Fulfilling.{fulfils_about}
use Rattle.mlir_work_session.proofs.Panels.{find_shown}
use Rattle.mlir_work_session.proofs.Reading.{module_seen}

-- whether a subject is in the rewriter's module, which its IR state shows
pub there_held : (h : TransactionModel) (w : World) → w.ctx ≡ h.ctx → w.store ≡ h.store → (s : Subject) (there : Bool) → is_there s (module_in w).tree ≡ there → is_there s (module_held h).tree ≡ there
there_held h w ctx store s there e = ap (λ m. is_there s m.tree) (sym (module_seen h w ctx store)) ∙ e

pub rows_held : (h : TransactionModel) (w : World) → w.ctx ≡ h.ctx → w.store ≡ h.store → (s : Subject) (k : Listener) (bytes : List ℕ) → bytes ≡ rows_text (rows_about s (k.analysis (module_in w).tree)) → bytes ≡ rows_text (rows_about s (k.analysis (module_held h).tree))
rows_held h w ctx store s k bytes is = is ∙ ap (λ m. rows_text (rows_about s (k.analysis m.tree))) (module_seen h w ctx store)

module _ {B : Type 0} (meaning : B → Listener) (setting : SessionSetting) (kind : ℕ) (s : Subject) (a : Benched B)
    (there : is_there s (module_held a.transaction).tree ≡ true) where
  found : (o : Option B) → o ≡ find (has_this_kind meaning kind) a.listeners → find (is_kind kind) (state_of meaning a).panel ≡ option_map (λ b. shown (meaning b)) o
  found o e = find_shown meaning kind a.listeners ∙ ap (option_map (λ b. shown (meaning b))) (sym e)

  pub about_none : None ≡ find (has_this_kind meaning kind) a.listeners → RunsSessionCommand setting (state_of meaning a) (ReportOf kind s) (Replied (Refused NoSuchKind)) [] (state_of meaning a)
  about_none e = fulfils_about setting kind s (state_of meaning a) (Refused NoSuchKind) Nothing there (record { answer = inl (rw (found None e) refl); panel = refl })

  pub about_stale : (b : B) → Some b ≡ find (has_this_kind meaning kind) a.listeners → (meaning b).stale ≡ true → RunsSessionCommand setting (state_of meaning a) (ReportOf kind s) (Replied (Refused Stale)) [] (state_of meaning a)
  about_stale b e is = fulfils_about setting kind s (state_of meaning a) (Refused Stale) Nothing there (record { answer = inl (rw (found (Some b) e, is) refl); panel = refl })

  pub about_unheld : RunsSessionCommand setting (state_of meaning a) (ReportOf kind s) (Replied (Refused Memory)) [] (state_of meaning a)
  about_unheld = fulfils_about setting kind s (state_of meaning a) (Refused Memory) Nothing there (record { answer = inr (refl, refl); panel = refl })

  pub about_rows : (b : B) (bytes : List ℕ) → Some b ≡ find (has_this_kind meaning kind) a.listeners → (meaning b).stale ≡ false → bytes ≡ rows_text (rows_about s ((meaning b).analysis (module_held a.transaction).tree)) → RunsSessionCommand setting (state_of meaning a) (ReportOf kind s) (Replied Done) bytes (state_of meaning a)
  about_rows b bytes e is reported = rw reported (fulfils_about setting kind s (state_of meaning a) Done (Rows ((meaning b).analysis (module_held a.transaction).tree)) there (record { answer = inl (rw (found (Some b) e, is) refl); panel = refl }))
