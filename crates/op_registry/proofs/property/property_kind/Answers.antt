use Rattle.std.proofs.Common.{◌≡◌, ◌-◌, ◌∙◌, sym, ap, arith, List, ℕ, map, slice_get}
use Rattle.std.specs.Prelude.{unwrap_or}
use Rattle.op_registry.specs.declared.property.PropertyKind.{PropertyKind}
use Rattle.op_registry.specs.declared.property.PropertyKind.TheVariants.{Any}
use Rattle.op_registry.specs.Properties.{property_kinds}
use Rattle.op_registry.proofs.ByName.{kind_is, kind_of_operation}
use Rattle.op_registry.proofs.property.property_kind.Goals as goal

pub returns-then-number-lt-OPERATIONS : goal.returns-then-number-lt-OPERATIONS
returns-then-number-lt-OPERATIONS c things sound = sym (kind_of_operation things c.args.key sound (omega arith))

pub returns : goal.returns
returns c things sound =
    let e : c.number-number.result - 39 ≡ c.args.key - 39 = omega arith in
    c.kind_at.ensures
    ∙ ap (λ n. unwrap_or (slice_get (map (λ (row : List ℕ × PropertyKind). row.1) property_kinds) n) Any) e
    ∙ sym (kind_is things c.args.key sound (omega arith))
