use Rattle.std.proofs.Common.{◌∙◌, ap, sym, [], Some}
use Rattle.ir_event.specs.trees.Meaning.{key_before_in}
use Rattle.ir_text_operations.specs.attributes.Keyed.{insert_entries}
use Rattle.ir_text_operations.specs.Entries.{moved}
use Rattle.ir_text_operations.specs.EntryReading.{is_property_in}
use Rattle.ir_text_operations.proofs.Placing.{put_both}
use Rattle.mlir_work_c_read.proofs.Refusing.{all_stay}
use Rattle.mlir_work_c_read.proofs.dictionaries.properties_of.Goals as goal

pub returns : goal.returns
returns c =
    let before = key_before_in c.args.ctx.now in
    let given = c.args.properties.now in
    let others = moved (is_property_in c.args.ctx.now (Some c.args.op)) c.args.attributes.now in
    c.in_ok-insert_attributes.ensures
    ∙ ap (insert_entries before c.insert_properties.new.sorted.items) (all_stay c.args.ctx.now given)
    ∙ ap (λ es. insert_entries before es given) (c.in_ok-insert_properties.ensures ∙ ap (λ es. insert_entries before es others) c.in_ok-sorted.ensures.items)
    ∙ sym (put_both before [] given others)
