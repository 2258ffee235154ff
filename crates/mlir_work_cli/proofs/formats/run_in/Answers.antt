use Rattle.std.proofs.Common.{ℕ, Result, IfSome, subst}
use Rattle.std.specs.declared.alloc.AllocError.{AllocError}
use Rattle.mlir_work_run.specs.session.Panels.{all_shown}
use Rattle.mlir_work_run.specs.session.Registry.{registry_model}
use Rattle.mlir_work_run.specs.Whole.{setting_with}
use Rattle.mlir_work_cli.specs.Json.{IsJsonOutput, JsonRan}
use Rattle.mlir_work_cli.proofs.formats.run_in.Goals as goal

pub returns-in-Text-clause-ran : goal.returns-in-Text-clause-ran
returns-in-Text-clause-ran g c = rw c.in-Text.is c.run_watched-status.ensures.ran

pub returns-in-Ok-clause-ran : goal.returns-in-Ok-clause-ran
returns-in-Ok-clause-ran g c =
    rw c.in-Json.is
    (subst (λ (r : Result ℕ AllocError). IfSome (g.R.Source.intake c.args.reader.now).remaining (λ input. JsonRan
    (IsJsonOutput (setting_with g.L.AnalysisSource.supply c.args.start.now.given.now.options (registry_model c.args.registry)) (all_shown g.L.Analysis.meaning c.args.boxes.items) input)
    (g.W.Sink.stream c.args.writer).contents (g.W.Sink.stream c.run_as_json-ran.result.1).contents r)) c.in-Ok.is c.run_as_json-ran.ensures.ran)
