use Rattle.std.proofs.Common.{◌≡◌, sym, ap, ◌∙◌, subst, false, true}
use Rattle.std.specs.List.{list_all}
use Rattle.ir_store_reads.specs.trees.Tree.{head}
use Rattle.ir_store_reads.specs.tree_laws.Values.{has_value}
use Rattle.ir_store_reads.specs.Stored.{known}
use Rattle.ir_store.specs.Calls.{CanRestore, after_restore}
use Rattle.ir_store_reads.specs.Emptied.{after_grow}
use Rattle.ir_store.specs.Loads.{end_of}
use Rattle.ir_store.proofs.Loading.{head_unknown, head_can, head_adds}
use Rattle.ir_store.proofs.load.load_head.Goals as goal

pub create-requires : goal.create-requires
create-requires c =
    let id : c.op.inside.id ≡ (head c.args.op.now).id = ap (λ z. (head z).id) c.op.view_is in
    ap (λ z. known z c.args.store.now) id ∙ head_unknown c.args.owner c.args.region c.args.op.now c.args.store.now c.requires.may c.requires.held c.requires.below

pub restore-requires : goal.restore-requires
restore-requires c =
    let id : c.op.inside.id ≡ (head c.args.op.now).id = ap (λ z. (head z).id) c.op.view_is in
    let e : c.create.new.self ≡ after_grow (head c.args.op.now).id c.args.op.now c.args.store.now = c.in_ok-create.ensures.ok ∙ ap (λ z. after_grow z c.args.op.now c.args.store.now) id in
    let there : list_all (λ v. has_value v c.args.store.now.module_of.tree) (head c.args.op.now).operands ≡ true = ap (λ z. list_all (λ v. has_value v c.args.store.now.module_of.tree) (head z).operands) (sym c.op.view_is) ∙ ap (list_all (λ v. has_value v c.args.store.now.module_of.tree)) (sym c.deref.ensures.value) ∙ sym c.has_values.ensures ∙ c.if-not-has_values.false in
    subst (λ z. CanRestore z (end_of c.args.owner c.args.region) false c.create.new.self) (sym id)
    (subst (CanRestore (head c.args.op.now).id (end_of c.args.owner c.args.region) false) (sym e) (head_can c.args.owner c.args.region c.args.op.now c.args.store.now c.requires.may c.requires.held c.requires.below there))

pub returns : goal.returns
returns c =
    let id : c.op.inside.id ≡ (head c.args.op.now).id = ap (λ z. (head z).id) c.op.view_is in
    let e : c.create.new.self ≡ after_grow (head c.args.op.now).id c.args.op.now c.args.store.now = c.in_ok-create.ensures.ok ∙ ap (λ z. after_grow z c.args.op.now c.args.store.now) id in
    head_adds c.args.owner c.args.region c.args.op.now c.args.store.now c.requires.may c.requires.held c.requires.below c.restore.new.self
    (c.restore.ensures ∙ (λ i. after_restore (id i) (end_of c.args.owner c.args.region) false (e i)))
