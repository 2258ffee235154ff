use Rattle.std.proofs.Common.{◌∙◌, ap, sym, length}
use Rattle.std.proofs.lemmas.List.{length-map}
use Rattle.std.specs.Prelude.{not}
use Rattle.ir_types.specs.Terms.{type_term}
use Rattle.op_registry.specs.Registry.{types_row, row_from}
use Rattle.ir_verify_base.specs.Fits.{count_fits}
use Rattle.ir_verify_base.proofs.shapes.breaks_3.Goals as goal

pub returns : goal.returns
unfolding row_from
returns c =
    ap not (c.count_fits.ensures ∙ λ i. count_fits (c.initial_count-initial.ensures c.args._ctx.now i) (types_row c.args.def.now.results) ((ap length c.results.ensures ∙ sym (length-map c.args.node.now.head.results (type_term c.args._ctx.now))) i))
