use Rattle.std.proofs.Common.{◌∙◌, ap, sym, ℕ, Option}
use Rattle.std.specs.Prelude.{option_map}
use Rattle.mlir_work_transforms.specs.rewriter.Panels.{Shown, shown}
use Rattle.mlir_work_transforms.specs.rewriter.Held.{TransactionModel}
use Rattle.mlir_work_session.proofs.Fulfilling.{fulfils_supplied, fulfils_unsupplied}
use Rattle.mlir_work_session.proofs.session_commands.attach.Goals as goal

pub returns-in_default-clause-fulfils : goal.returns-in_default-clause-fulfils
returns-in_default-clause-fulfils g c setting same =
    fulfils_unsupplied setting c.args.kind _ (ap (λ (f : ℕ → Option Shown). f c.args.kind) same ∙ sym c.new_of_kind.ensures ∙ ap (option_map (λ b. shown (g.L.Analysis.meaning b))) c.in_default.is)

pub returns-clause-fulfils : goal.returns-clause-fulfils
returns-clause-fulfils g c setting same =
    fulfils_supplied setting c.args.kind _ _ _ _ _ (ap (λ (f : ℕ → Option Shown). f c.args.kind) same ∙ sym c.new_of_kind.ensures ∙ ap (option_map (λ b. shown (g.L.Analysis.meaning b))) c.in-Some.is) c.reply_attached.ensures c.attach.ensures.does

pub returns-clause-mode : goal.returns-clause-mode
returns-clause-mode g c = ap (λ (h : TransactionModel). h.ctx.opaque) c.attach.ensures.transaction
