use Rattle.std.proofs.Common.{ap, ◌∙◌, ◌-◌, length, take, drop, arith}
use Rattle.mlir_work_c_read.specs.Operations.{tree_in}
use Rattle.mlir_work_c_read.specs.Records.{AreRecords}
use Rattle.mlir_work_c_read.proofs.Joining.{from_length}
use Rattle.mlir_work_c_read.proofs.Recording.{ends_all, ends_on, records_none, records_step}
use Rattle.mlir_work_c_read.proofs.records.write_records.Goals as goal

pub write_record-at-requires : goal.write_record-at-requires
write_record-at-requires c = c.ops.invariant.0

pub ops-preserved : goal.ops-preserved
ops-preserved c =
    let t = tree_in c.args.world.now in
    let xs = c.ops.rest.now in
    let at = c.ops.at in
    let into = c.ops.into in
    let got = c.write_record-at.ensures in
    let count = got.2.end_is in
    let long = ap length got.2.written ∙ from_length at got.0 into c.ops.invariant.0 in (
      omega (arith, count, long),
      ends_on (AreRecords t c.args.ops.now) (AreRecords t xs) (AreRecords t (take (length xs - 1) (drop 1 xs))) got.0 at c.write_record-at.result into _ c.args.into.now
          (records_step t xs _ c.new.result got.0 c.in-len1-up.len_at_least c.new.ensures got.1) got.2.written count c.ops.invariant.1,
    )

pub returns : goal.returns
returns c =
    let t = tree_in c.args.world.now in
    ends_all (AreRecords t c.args.ops.now) (AreRecords t c.ops.rest.now) c.ops.at c.ops.into c.args.into.now (records_none t c.ops.rest.now c.in_default.len_below) c.ops.invariant.1
