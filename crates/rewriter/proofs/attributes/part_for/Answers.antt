use Rattle.std.proofs.Common.{rules, ◌≡◌, sym, refl, true, false, Some}
use Rattle.std.specs.Prelude.{option_map, is_some}
use Rattle.ir_event.specs.types.Terms.{name_term}
use Rattle.ir_event.specs.types.Words.{is_inherent}
use Rattle.ir_event.specs.trees.Edits.{entry_at}
use Rattle.ir_event.specs.trees.Ids.{has_id}
use Rattle.ir_event.specs.trees.Meaning.{key_before_in}
use Rattle.ir_event.specs.store.Nodes.{node_of}
use Rattle.ir_event.specs.store.Stored.{Stored, known}
use Rattle.rewriter.proofs.Parts.{absent_part, part_by}
use Rattle.rewriter.proofs.attributes.part_for.Goals as goal

pub returns-then-not-in_tree : goal.returns-then-not-in_tree
returns-then-not-in_tree c =
    let s : Stored = c.args.store.now in
    let absent : has_id c.args.op s.module_of.tree ≡ false = search rules in
    sym (absent_part c.args.ctx.now c.args.op c.args.key s.module_of.tree absent)

pub returns-then-inherent : goal.returns-then-inherent
returns-then-inherent c =
    let s : Stored = c.args.store.now in
    let there : has_id c.args.op s.module_of.tree ≡ true = search rules in
    let shown : option_map node_of (known c.args.op s) ≡ Some c.in-Some.node = search rules in
    let inherent : is_inherent (name_term c.args.ctx.now c.in-Some.node.head.name) (name_term c.args.ctx.now c.args.key) ≡ true = search rules in
    sym (part_by c.args.ctx.now c.args.op c.args.key s c.in-Some.node true _ there shown inherent refl)

pub returns-then-has_entry : goal.returns-then-has_entry
returns-then-has_entry c =
    let s : Stored = c.args.store.now in
    let there : has_id c.args.op s.module_of.tree ≡ true = search rules in
    let shown : option_map node_of (known c.args.op s) ≡ Some c.in-Some.node = search rules in
    let other : is_inherent (name_term c.args.ctx.now c.in-Some.node.head.name) (name_term c.args.ctx.now c.args.key) ≡ false = search rules in
    let held : is_some (entry_at (key_before_in c.args.ctx.now) c.args.key c.in-Some.node.head.properties) ≡ true = search rules in
    sym (part_by c.args.ctx.now c.args.op c.args.key s c.in-Some.node false true there shown other held)

pub returns : goal.returns
returns c =
    let s : Stored = c.args.store.now in
    let there : has_id c.args.op s.module_of.tree ≡ true = search rules in
    let shown : option_map node_of (known c.args.op s) ≡ Some c.in-Some.node = search rules in
    let other : is_inherent (name_term c.args.ctx.now c.in-Some.node.head.name) (name_term c.args.ctx.now c.args.key) ≡ false = search rules in
    let held : is_some (entry_at (key_before_in c.args.ctx.now) c.args.key c.in-Some.node.head.properties) ≡ false = search rules in
    sym (part_by c.args.ctx.now c.args.op c.args.key s c.in-Some.node false false there shown other held)
