use Rattle.std.proofs.Common.{◌<◌, length, arith}
use Rattle.user_patterns_registry.specs.Registry.{registry_model}
use Rattle.mlir_work_cli.proofs.Precedings.{one_more}
use Rattle.mlir_work_cli.proofs.reading.read_patterns.Goals as goal

pub lines-preserved : goal.lines-preserved
lines-preserved c =
    let some : 0 < length c.lines.rest.now = grind (arith, c.is_empty.ensures, c.lines-test.true) in
    let read = rw (c.split_line.ensures.lines some) at c.lines.invariant.read in
    let short = c.lines.invariant.short in
    let shorter = c.split_line.ensures.shorter some in
    record {
      read = one_more _ (registry_model c.lines.registry) _ _ _ c.split_line.result.0.now _ read c.in-Ok.ensures.gives;
      short = omega (arith, short, shorter);
    }
