use Rattle.mlir_work_session.specs.Registry.{registry_model}
use Rattle.std.proofs.Common.{◌≡◌, ◌<◌, ◌≤◌, List, ℕ, length, inl, inr, refl, subst, None}
use Rattle.ir_event.specs.types.declared.refusal.Refusal.TheVariants.{Memory}
use Rattle.mlir_work_session.specs.Limits.{most_input_bytes}
use Rattle.mlir_work_session.specs.Panels.{all_shown}
use Rattle.mlir_work_run.specs.Whole.{IsOutput, setting_with}
use Rattle.mlir_work_run.proofs.Ended.{ended_so, if_some, leaves}
use Rattle.mlir_work_run.proofs.Statuses.{final_output}
use Rattle.mlir_work_run.proofs.run.read_and_answer_watched.Goals as goal

pub returns-clause-ran : goal.returns-clause-ran
returns-clause-ran g c =
    let due : List ℕ → ℕ → List ℕ → Type 0 = IsOutput (setting_with g.L.AnalysisSource.supply c.args.options (registry_model c.args.registry)) (all_shown g.L.Analysis.meaning c.args.boxes.items) in
    if_some _ (λ input. c.in-Ok.input.items ≡ input) _ (λ input e. ended_so (due c.in-Ok.input.items) (due input) (g.W.Sink.stream c.args.writer.now) (g.W.Sink.stream c.answer_input.new.writer) (g.W.Sink.handed c.answer_input.new.writer) c.answer_input.result _ c.ended-2.ensures (λ st o h. subst (λ (i : List ℕ). due i st o) e h) c.answer_input.ensures) c.in-Ok.ensures.whole

pub returns-in-Err-TooMany-clause-ran : goal.returns-in-Err-TooMany-clause-ran
unfolding most_input_bytes
returns-in-Err-TooMany-clause-ran g c =
    let due : List ℕ → ℕ → List ℕ → Type 0 = IsOutput (setting_with g.L.AnalysisSource.supply c.args.options (registry_model c.args.registry)) (all_shown g.L.Analysis.meaning c.args.boxes.items) in
    if_some _ (λ input. most_input_bytes < length input) _ (λ input lt. ended_so _ (due input) (g.W.Sink.stream c.args.writer.now) (g.W.Sink.stream c.refuse.new.writer) (g.W.Sink.handed c.refuse.new.writer) c.refuse.result _ c.ended.ensures (λ st o h. inl (lt, h)) c.refuse.ensures) (c.in-Err-TooMany.ensures.too_many c.in-Err-TooMany.field-0-is)

pub returns-in-Err-Memory-clause-ran : goal.returns-in-Err-Memory-clause-ran
returns-in-Err-Memory-clause-ran g c =
    let due : List ℕ → ℕ → List ℕ → Type 0 = IsOutput (setting_with g.L.AnalysisSource.supply c.args.options (registry_model c.args.registry)) (all_shown g.L.Analysis.meaning c.args.boxes.items) in
    if_some _ (λ input. length input ≤ most_input_bytes) _ (λ input short. ended_so _ (due input) (g.W.Sink.stream c.args.writer.now) (g.W.Sink.stream c.refuse-in-Err-Memory.new.writer) (g.W.Sink.handed c.refuse-in-Err-Memory.new.writer) c.refuse-in-Err-Memory.result _ c.ended-in-Err-Memory.ensures (λ st o h. inr (short, inl (Memory, None, refl, rw (c.no_memory.ensures.refusal, c.no_memory.ensures.offset, c.no_memory.ensures.unsupported) at h))) c.refuse-in-Err-Memory.ensures) (c.in-Err-Memory.ensures.memory c.in-Err-Memory.field-0-is)

pub returns-clause-leaves : goal.returns-clause-leaves
returns-clause-leaves g c = leaves (IsOutput (setting_with g.L.AnalysisSource.supply c.args.options (registry_model c.args.registry)) (all_shown g.L.Analysis.meaning c.args.boxes.items) c.in-Ok.input.items) (g.R.Source.intake c.args.reader.now) (g.R.Source.intake c.read_all.new.reader) (g.W.Sink.stream c.args.writer.now) (g.W.Sink.stream c.answer_input.new.writer) (g.W.Sink.handed c.answer_input.new.writer) c.answer_input.result _ c.ended-2.ensures (λ st o h. final_output (setting_with g.L.AnalysisSource.supply c.args.options (registry_model c.args.registry)) (all_shown g.L.Analysis.meaning c.args.boxes.items) c.in-Ok.input.items st o h) c.in-Ok.ensures.read c.answer_input.ensures

pub returns-in-Err-TooMany-clause-leaves : goal.returns-in-Err-TooMany-clause-leaves
returns-in-Err-TooMany-clause-leaves g c = leaves _ (g.R.Source.intake c.args.reader.now) (g.R.Source.intake c.read_all.new.reader) (g.W.Sink.stream c.args.writer.now) (g.W.Sink.stream c.refuse.new.writer) (g.W.Sink.handed c.refuse.new.writer) c.refuse.result _ c.ended.ensures (λ st o h. inr (inr h.0)) (rw c.in-Err-TooMany.field-0-is at c.in-Err-TooMany.ensures.read) c.refuse.ensures

pub returns-in-Err-Memory-clause-leaves : goal.returns-in-Err-Memory-clause-leaves
returns-in-Err-Memory-clause-leaves g c = leaves _ (g.R.Source.intake c.args.reader.now) (g.R.Source.intake c.read_all.new.reader) (g.W.Sink.stream c.args.writer.now) (g.W.Sink.stream c.refuse-in-Err-Memory.new.writer) (g.W.Sink.handed c.refuse-in-Err-Memory.new.writer) c.refuse-in-Err-Memory.result _ c.ended-in-Err-Memory.ensures (λ st o h. inr (inr h.0)) (rw c.in-Err-Memory.field-0-is at c.in-Err-Memory.ensures.read) c.refuse-in-Err-Memory.ensures
