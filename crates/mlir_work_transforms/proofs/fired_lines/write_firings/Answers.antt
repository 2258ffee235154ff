use Rattle.std.proofs.Common.{arith, map}
use Rattle.mlir_work_transforms.proofs.Firings.{firings_end, firings_step}
use Rattle.mlir_work_transforms.proofs.fired_lines.write_firings.Goals as goal

pub places-preserved : goal.places-preserved
places-preserved c =
    firings_step (map (λ n. n.items) c.args.names.now) c.args.list.now c.places.place _ _ _ c.places-test.true (rw (c.split_at.ensures.front, c.split_at.ensures.back) at c.in_ok-write_first.ensures) c.places.invariant

pub returns : goal.returns
returns c =
    let past = c.places-test.false in
    firings_end (map (λ n. n.items) c.args.names.now) c.args.list.now c.places.place _ _ (omega (arith, past)) c.places.invariant
