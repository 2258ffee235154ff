use Rattle.std.proofs.Common.{◌≡◌, ◌==◌, ◌++◌, ℕ, List, [], ◌∷◌, length, Bool, true, false, true≢false, refl, sym, subst, ◌∙◌, Option, arith}
use Rattle.ir_event.specs.types.declared.refusal.Refusal.{Refusal}
use Rattle.mlir_work_script_base.specs.Writes.{Writes}
use Rattle.mlir_work_script_base.proofs.Joins.{preceding_more, puts_join}
use Rattle.mlir_work_registry.specs.Explained.{explained_line, response_lines}
use Rattle.mlir_work_registry.specs.Notices.{Notice, notice_of}
use Rattle.mlir_work_registry.specs.ReplyLines.{reply_text, surprise_line}
use Rattle.mlir_work_registry.proofs.write_notes.write_response.Goals as goal

-- an empty note
bare : (n : ℕ) (expected : Option Refusal) (notice : Notice) (about : List ℕ) → (length about == 0) ≡ true → reply_text n expected notice ≡ response_lines n expected notice about
bare n expected notice [] e = refl
bare n expected notice (b ∷ bs) e = absurd (grind (arith, e))

-- a note that isn't empty
more : (n : ℕ) (expected : Option Refusal) (notice : Notice) (about : List ℕ) → (length about == 0) ≡ false → explained_line n notice about ++ surprise_line n expected notice ≡ response_lines n expected notice about
more n expected notice [] e = absurd (true≢false e)
more n expected notice (b ∷ bs) e = refl

pub returns-then-is_empty : goal.returns-then-is_empty
returns-then-is_empty g c =
    rw (← bare c.args.n c.args.expected.now (notice_of c.args.notice.now) c.args.about.now (sym c.is_empty.ensures ∙ c.if-is_empty.true)) c.write_reply_text.ensures

pub returns-in-Ok : goal.returns-in-Ok
returns-in-Ok g c =
    rw (← more c.args.n c.args.expected.now (notice_of c.args.notice.now) c.args.about.now (sym c.is_empty.ensures ∙ c.if-is_empty.false))
    (puts_join _ _ _ (explained_line c.args.n (notice_of c.args.notice.now) c.args.about.now) (surprise_line c.args.n c.args.expected.now (notice_of c.args.notice.now)) c.write_surprise.result c.in-Ok.ensures c.write_surprise.ensures)

pub returns-in-Err : goal.returns-in-Err
returns-in-Err g c =
    rw (← more c.args.n c.args.expected.now (notice_of c.args.notice.now) c.args.about.now (sym c.is_empty.ensures ∙ c.if-is_empty.false))
    (preceding_more (g.W.Sink.stream c.args.writer.now) (g.W.Sink.stream c.write_explained.new.writer) (explained_line c.args.n (notice_of c.args.notice.now) c.args.about.now) (surprise_line c.args.n c.args.expected.now (notice_of c.args.notice.now)) c.in-Err.ensures)
