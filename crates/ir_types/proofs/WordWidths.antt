-- The width of a type that has no fault.
use Rattle.std.proofs.Common.{◌≡◌, refl, Bool, true, false, List, Some, None, sym, ap, ◌∙◌}
use Rattle.std.specs.Prelude.{IsTrue, if◌then◌else◌}
use Rattle.ir_types.specs.declared.node.TypeNode.{TypeNode}
use Rattle.ir_types.specs.declared.node.TypeNode.TheVariants as type
use Rattle.ir_types.specs.Terms.{TypeTerm, type_from}
use Rattle.ir_types.specs.declared.refusal.Refusal.TheVariants.{BadWidth}
use Rattle.ir_types.specs.Reasons.{is_width, type_fault, first_reason, depth_reason}
use Rattle.ir_types.specs.Bits.{HasWidth}

pub fine_width : (ty : TypeTerm) (known : List TypeTerm) (node : TypeNode) → type_fault ty ≡ None → ty ≡ type_from known node → HasWidth node
fine_width ty known (type.Int sign width) fine same = by (is_width width) refl (sym (ap type_fault same) ∙ fine)
  where
    by : (t : Bool) → is_width width ≡ t → first_reason (if t then None else Some BadWidth) (depth_reason 1) ≡ None → IsTrue t
    by true h e = refl
    by false h e = absurd (cc)
fine_width ty known type.Index fine same = tt
fine_width ty known (type.Func inputs outputs) fine same = tt
fine_width ty known (type.Memref dims elem) fine same = tt
fine_width ty known (type.Opaque text) fine same = tt
