use Rattle.std.proofs.Common.{◌≡◌, ◌∙◌, ap, map, subst, sym, ℕ, Ok}
use Rattle.ir_event.specs.trees.Tree.{op, regions_of}
use Rattle.ir_event.specs.trees.View.{region_view}
use Rattle.mlir_work_c_read.specs.Headers.{dictionaries, with_dictionaries}
use Rattle.mlir_work_c_read.proofs.header.header_of.Goals as goal

pub returns-clause-reported : goal.returns-clause-reported
returns-clause-reported c =
    let found = c.in-Ok.found in
    let reported = subst (λ (n : ℕ). dictionaries c.args.ctx.now n c.args.entries.now ≡ Ok (found.0.items, found.1.items)) c.new-name.ensures c.in-Ok.ensures in
    ap (with_dictionaries c.args.name c.args.operands.now c.args.results.now) reported
    ∙ (λ i. Ok (op (record {
      id = sym c.new.ensures i;
      name = sym c.new-name.ensures i;
      operands = sym c.in_ok-operands.ensures i;
      results = sym c.in_ok-results.ensures i;
      properties = found.0.items;
      attributes = found.1.items;
    }) (regions_of (map region_view (sym c.new-2.ensures.items i)))))
