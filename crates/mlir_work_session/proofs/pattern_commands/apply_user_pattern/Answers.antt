use Rattle.mlir_work_session.proofs.pattern_commands.apply_user_pattern.Goals as goal

pub returns-clause-kept : goal.returns-clause-kept
returns-clause-kept g c = c.led_benches_are_kept.ensures.kept _ _ c.apply_pattern-called.ensures.led c.requires
