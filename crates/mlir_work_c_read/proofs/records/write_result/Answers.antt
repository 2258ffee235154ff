use Rattle.std.proofs.Common.{rules, ap, sym, ◌≤◌, ◌<◌, ◌∙◌, length, map, arith}
use Rattle.std.specs.Prelude.{slice_set}
use Rattle.mlir_work_c_read.specs.Records.{few, result_item, use_item}
use Rattle.mlir_work_c_read.proofs.Joining.{from_full, set_first}
use Rattle.mlir_work_c_read.proofs.Recording.{few_is, many_uses, two_is}
use Rattle.mlir_work_c_read.proofs.records.write_result.Goals as goal

pub returns-then-at-into : goal.returns-then-at-into
returns-then-at-into c =
    let full = c.if-at-into.true in
    let within = c.requires in
    record { written = sym (from_full c.args.at _ c.args.into.now (omega (arith, full))); end_is = omega (arith, full, within) }

pub returns : goal.returns
returns c =
    let into = c.args.into.now in
    let at = c.args.at in
    let uses = c.args.uses in
    let count = c.write_uses-count.ensures.count in
    let second = c.min.ensures ∙ few_is (length uses) c.write_uses-count.result count in
    let item = two_is c.number.result c.min.result c.args.ty (few (length uses)) c.number.ensures second in
    let free = c.if-at-into.false in
    let less : at < length into = omega (arith, free) in
    let fits : length into ≤ 18446744073709551615 = search rules in
    let least = c.min-2.ensures in
    let many = many_uses uses in
    record {
      written = ap (λ z. slice_set c.write_uses-count.new.into at z) item
          ∙ ap (λ l. slice_set l at (result_item c.args.ty (length uses))) c.write_uses-count.ensures.written
          ∙ set_first at (result_item c.args.ty (length uses)) (map use_item uses) into less;
      end_is = omega (arith, least, count, many, less, fits);
    }
