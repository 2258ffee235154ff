use Rattle.std.proofs.Common.{subst}
use Rattle.mlir_work_script.specs.Commands.{spoken_of}
use Rattle.mlir_work_transforms.specs.registry.Notices.{notice_of}
use Rattle.mlir_work_session.specs.Explained.{IsAbout, about_bytes}
use Rattle.mlir_work_session.proofs.Reading.{module_seen}
use Rattle.mlir_work_session.proofs.script.about_line.Goals as goal

pub returns : goal.returns
returns g c =
    subst (λ m. IsAbout c.args.explain (notice_of c.args.notice.now) (spoken_of c.args.line.now) m (about_bytes c.explained.result))
    (module_seen c.args.bench.now.transaction c.world.result.now c.world.ensures.ctx c.world.ensures.store) c.explained.ensures
