use Rattle.mlir_work_registry.proofs.registry_commands.run_registry_command.Goals as goal

pub returns-in-CheckAll-clause-bounded : goal.returns-in-CheckAll-clause-bounded
returns-in-CheckAll-clause-bounded c = c.check_all.ensures.bounded c.args.bytes
