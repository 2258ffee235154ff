use Rattle.std.proofs.Common.{◌++◌, take}
use Rattle.mlir_work_script_base.proofs.Joins.{cut_is, grows_fails, grows_join}
use Rattle.mlir_work_script_base.proofs.writing.write.Goals as goal

pub returns-in-Err : goal.returns-in-Err
returns-in-Err g c = grows_fails _ _ _ _ c.loop-rest.invariant.preceding c.loop-rest.rest.now c.loop-rest.invariant.is c.loop-rest.invariant.wrote c.in-Err.ensures.wrote

pub loop-rest-preserved : goal.loop-rest-preserved
loop-rest-preserved g c = record {
  preceding = c.loop-rest.invariant.preceding ++ take c.in-Ok.taken c.loop-rest.rest.now;
  is = cut_is _ c.loop-rest.invariant.preceding c.loop-rest.rest.now c.in-Ok.taken c.loop-rest.invariant.is;
  wrote = grows_join _ _ _ c.loop-rest.invariant.preceding _ c.loop-rest.invariant.wrote c.in-Ok.ensures.wrote.1;
}
