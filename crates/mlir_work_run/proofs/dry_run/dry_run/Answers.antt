use Rattle.std.proofs.Common.{None, true≢false, sym, inl, inr}
use Rattle.mlir_work_session.specs.Panels.{all_shown}
use Rattle.mlir_work_run.specs.Whole.{IsOutput, setting_of}
use Rattle.mlir_work_run.proofs.Statuses.{never_four}
use Rattle.mlir_work_run.proofs.dry_run.dry_run.Goals as goal

pub returns : goal.returns
returns g c = never_four (IsOutput (setting_of g.L.AnalysisSource.supply c.args.options) (all_shown g.L.Analysis.meaning c.args.boxes.items) c.args.input.now) None None c.run_watched.result (rw c.new.ensures at c.run_watched.ensures.ran) (λ four. elim (c.run_watched.ensures.fault four) [ inl (inl e) ↦ true≢false (sym e) | inl (inr out) ↦ true≢false (sym out.1) | inr e ↦ true≢false (sym e) ])
