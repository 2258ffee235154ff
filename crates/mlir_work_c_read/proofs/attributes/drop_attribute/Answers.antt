use Rattle.mlir_work_c_read.proofs.attributes.drop_attribute.Goals as goal

pub returns-clause-kept : goal.returns-clause-kept
returns-clause-kept g c = c.led_benches_are_kept.ensures.kept _ _ c.drop_attr.ensures.led c.requires
