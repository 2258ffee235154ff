-- An accepted replacement of a value keeps a module well-formed.
use Rattle.std.proofs.Common.{◌≡◌, None}
use Rattle.std.specs.Option.{option_eq}
use Rattle.ir_event.specs.types.Things.{ContextModel}
use Rattle.ir_event.specs.types.declared.refusal.Refusal.TheVariants.{NoSuchValue, NotVisible, TypeDiffers}
use Rattle.ir_event.specs.trees.declared.value.Value.{Value}
use Rattle.ir_event.specs.trees.Meaning.{isolated_in}
use Rattle.ir_event.specs.trees.WellFormed.{IsWellFormed, Module as Numbered}
use Rattle.ir_event.specs.tree_laws.Values.{has_value, type_of_value}
use Rattle.ir_event.proofs.of_tree_laws.Reasoned.{no_unless}
use Rattle.ir_event.proofs.of_tree_laws.HeadForm.{replaced_keeps}
use Rattle.ir_event.specs.tree_laws.Reasons.{is_visible_to_users}
use Rattle.rewriter_machine.specs.Edits.{Replace, edited_by, reason_by}
use Rattle.rewriter_machine.specs.Contents.{tests_in}

pub replace_keeps : (c : ContextModel) (old new : Value) (m : Numbered) → IsWellFormed (isolated_in c) m → reason_by (tests_in c) (Replace old new) m ≡ None → IsWellFormed (isolated_in c) (edited_by (tests_in c) (Replace old new) m)
replace_keeps c old new m w e =
    let a = no_unless (has_value old m.tree) NoSuchValue _ e in
    let b = no_unless (has_value new m.tree) NoSuchValue _ a.1 in
    let d = no_unless (option_eq (tests_in c).same_type (type_of_value old m.tree) (type_of_value new m.tree)) TypeDiffers _ b.1 in
    let f = no_unless (is_visible_to_users (isolated_in c) old new m.tree) NotVisible None d.1 in
    replaced_keeps (isolated_in c) old new m w f.0
