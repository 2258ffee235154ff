use Rattle.mlir_work_transforms.proofs.Named.{named_so}
use Rattle.mlir_work_transforms.proofs.names.intern.Goals as goal

pub returns-in-Ok-clause-named : goal.returns-in-Ok-clause-named
returns-in-Ok-clause-named g c = named_so c.args.bytes.now c.args.bench.now.transaction.ctx c.name-named.new.self.transaction.ctx c.in-Ok.name c.in-Ok.ensures.ok
