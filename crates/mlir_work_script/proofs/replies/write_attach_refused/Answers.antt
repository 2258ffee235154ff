use Rattle.std.proofs.Common.{◌≡◌, ◌++◌, ℕ, ap, subst, append_assoc}
use Rattle.std.specs.Prelude.{codes}
use Rattle.ir_event.specs.types.Refusals.{text_of}
use Rattle.ir_event.specs.types.declared.refusal.Refusal.{Refusal}
use Rattle.mlir_work_script_base.specs.Kinds.{kind_word}
use Rattle.mlir_work_script.specs.Replies.{attach_refused_line}
use Rattle.mlir_work_script_base.specs.Writes.{GrowsPreceding, Writes}
use Rattle.mlir_work_script_base.proofs.Joins.{preceding_more, puts_join}
use Rattle.mlir_work_script.proofs.replies.write_attach_refused.Goals as goal

-- the line, split into its beginning and its end
in_two : (kind : ℕ) (refusal : Refusal) → (codes "attach " ++ (kind_word kind ++ codes " refused ")) ++ (text_of refusal ++ codes "\n") ≡ attach_refused_line kind refusal
in_two kind refusal = ap (λ xs. codes "attach " ++ xs) (append_assoc (kind_word kind) (codes " refused ") (text_of refusal ++ codes "\n"))

pub returns-in-Ok : goal.returns-in-Ok
returns-in-Ok g c =
    subst (λ xs. Writes (g.W.Sink.stream c.args.writer.now) (g.W.Sink.stream c.write_refusal.new.writer) xs c.write_refusal.result) (in_two c.args.kind c.args.refusal)
    (puts_join _ _ _ (codes "attach " ++ (kind_word c.args.kind ++ codes " refused ")) (text_of c.args.refusal ++ codes "\n") c.write_refusal.result c.in-Ok.ensures c.write_refusal.ensures)

pub returns-in-Err : goal.returns-in-Err
returns-in-Err g c =
    subst (GrowsPreceding (g.W.Sink.stream c.args.writer.now) (g.W.Sink.stream c.write_with_kind.new.writer)) (in_two c.args.kind c.args.refusal)
    (preceding_more (g.W.Sink.stream c.args.writer.now) (g.W.Sink.stream c.write_with_kind.new.writer) (codes "attach " ++ (kind_word c.args.kind ++ codes " refused ")) (text_of c.args.refusal ++ codes "\n") c.in-Err.ensures)
