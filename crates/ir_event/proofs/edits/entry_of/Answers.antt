use Rattle.std.proofs.Common.{◌≡◌, ap, sym, ◌∙◌, rules, true, false, Some}
use Rattle.std.specs.Prelude.{option_map}
use Rattle.ir_store.specs.trees.Ids.{has_id}
use Rattle.ir_store.specs.Nodes.{node_of}
use Rattle.ir_store.specs.Stored.{Stored, known}
use Rattle.ir_store.specs.trees.Edits.{entry_at}
use Rattle.ir_store.specs.trees.Meaning.{key_before_in}
use Rattle.ir_event.proofs.Shown.{known_there}
use Rattle.ir_event.proofs.Entering.{no_entry, props_entry, attrs_entry}
use Rattle.ir_event.proofs.edits.entry_of.Goals as goal

pub returns-then-not-in_tree : goal.returns-then-not-in_tree
returns-then-not-in_tree c =
    let s : Stored = c.args.store.now in
    let absent : has_id c.args.op s.module_of.tree ≡ false = search rules in
    sym (no_entry (key_before_in c.args.ctx.now) c.args.op c.args.part c.args.key s.module_of.tree absent)

pub returns-in-Props : goal.returns-in-Props
returns-in-Props c =
    let s : Stored = c.args.store.now in
    let there : has_id c.args.op s.module_of.tree ≡ true = search rules in
    let shown : option_map node_of (known c.args.op s) ≡ Some c.in_ok-node.node = search rules in
    rw c.in-Props.is (ap Some (c.entry_among.ensures ∙ ap (λ l. entry_at (key_before_in c.args.ctx.now) c.args.key l) c.properties.ensures)
    ∙ sym (props_entry (key_before_in c.args.ctx.now) c.args.op c.args.key s.module_of.tree c.in_ok-node.node (ap (option_map node_of) (sym (known_there c.args.op s there)) ∙ shown)))

pub returns-in-Attrs : goal.returns-in-Attrs
returns-in-Attrs c =
    let s : Stored = c.args.store.now in
    let there : has_id c.args.op s.module_of.tree ≡ true = search rules in
    let shown : option_map node_of (known c.args.op s) ≡ Some c.in_ok-node.node = search rules in
    rw c.in-Attrs.is (ap Some (c.entry_among-in-Attrs.ensures ∙ ap (λ l. entry_at (key_before_in c.args.ctx.now) c.args.key l) c.attributes.ensures)
    ∙ sym (attrs_entry (key_before_in c.args.ctx.now) c.args.op c.args.key s.module_of.tree c.in_ok-node.node (ap (option_map node_of) (sym (known_there c.args.op s there)) ∙ shown)))
