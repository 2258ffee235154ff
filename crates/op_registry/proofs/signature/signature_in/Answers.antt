use Rattle.std.proofs.Common.{◌∙◌, ap, sym, map, Some}
use Rattle.ir_types.specs.Terms.{type_at, type_from}
use Rattle.ir_types.specs.SameTypes.{function_of}
use Rattle.op_registry.proofs.TypeLists.{types_listed}
use Rattle.op_registry.proofs.signature.signature_in.Goals as goal

pub returns-in-Func-clause-signature : goal.returns-in-Func-clause-signature
returns-in-Func-clause-signature c known =
    (λ i. Some (map (type_at known) (c.as_slice.ensures i), map (type_at known) (c.as_slice-in-Func.ensures i)))
    ∙ (λ i. Some (sym (types_listed known c.in-Func.inputs) i, sym (types_listed known c.in-Func.outputs) i))
    ∙ ap (λ n. function_of (type_from known n)) (sym c.in-Func.is)
