use Rattle.mlir_work_c_read.proofs.Growing.{grown_so}
use Rattle.mlir_work_c_read.proofs.intern.intern_attribute.Goals as goal

pub returns-clause-grown : goal.returns-clause-grown
returns-clause-grown g c = grown_so g.L.Analysis.meaning _ _ c.parse_attr-read.ensures.grown c.parse_attr-read.ensures.listeners

pub returns-clause-kept : goal.returns-clause-kept
returns-clause-kept g c = c.led_benches_are_kept.ensures.kept _ _ c.parse_attr-read.ensures.led c.requires
