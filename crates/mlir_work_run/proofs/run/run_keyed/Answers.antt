use Rattle.mlir_work_run.proofs.run.run_keyed.Goals as goal

pub returns : goal.returns
returns g c = rw c.new.ensures at c.run_watched.ensures.ran
