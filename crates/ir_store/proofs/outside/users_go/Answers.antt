use Rattle.std.proofs.Common.{◌<◌, ◌∙◌, ℕ, sym, ap, subst, length, not}
use Rattle.ir_store_reads.specs.Lists.{list_at, after}
use Rattle.ir_store_reads.specs.trees.Ids.{has_id}
use Rattle.ir_store_reads.specs.trees.Places.{without}
use Rattle.ir_store_reads.specs.Index.{cells_of}
use Rattle.ir_store_reads.specs.Walks.{from_slot}
use Rattle.ir_store_reads.proofs.Walked.{Walks, listed_item, walk_start, walk_stops, walk_on, walk_less}
use Rattle.ir_store.specs.Outside.{leaves_use}
use Rattle.ir_store.proofs.outside.users_go.Goals as goal

pub users-init : goal.users-init
users-init c = walk_start c.args.uses.now.lists (λ u. not (leaves_use c.args.slots.now (cells_of c.args.cells.now.items) c.args.op c.args.store.now.module_of.tree u)) c.args.head _ c.first-at.ensures

pub returns-then-stays : goal.returns-then-stays
returns-then-stays c =
    let ls = c.args.uses.now.lists in
    let left = without c.args.op c.args.store.now.module_of.tree in
    let p = λ (u : ℕ). not (leaves_use c.args.slots.now (cells_of c.args.cells.now.items) c.args.op c.args.store.now.module_of.tree u) in
    sym (walk_stops ls p c.args.head (c.requires.chained.once c.args.head) c.in-Some.node (subst (Walks ls p c.args.head) c.in-Some.is c.users.invariant) (ap (λ z. not (has_id z.0 left)) (sym c.user_at-user.ensures) ∙ ap not (sym c.stays.ensures ∙ c.if-stays.true)))

pub next-at-requires : goal.next-at-requires
next-at-requires c = listed_item c.args.uses.now.lists c.args.uses.now.homes c.requires.chained c.args.head c.in-Some.node c.requires.head (c.users.invariant.there c.in-Some.node c.in-Some.is)

pub users-smaller : goal.users-smaller
users-smaller c =
    let ls = c.args.uses.now.lists in
    let p = λ (u : ℕ). not (leaves_use c.args.slots.now (cells_of c.args.cells.now.items) c.args.op c.args.store.now.module_of.tree u) in
    let m = c.requires.chained.members c.args.head c.in-Some.node (c.users.invariant.there c.in-Some.node c.in-Some.is) in
    subst (λ z. length (from_slot c.next-at.result (list_at ls c.args.head)) < length (from_slot z (list_at ls c.args.head))) (sym c.in-Some.is)
    (walk_less ls p c.args.head (c.requires.chained.once c.args.head) c.in-Some.node (subst (Walks ls p c.args.head) c.in-Some.is c.users.invariant) c.next-at.result (c.next-at.ensures ∙ ap (λ z. after c.in-Some.node (list_at ls z)) m.0))

pub users-preserved : goal.users-preserved
users-preserved c =
    let ls = c.args.uses.now.lists in
    let left = without c.args.op c.args.store.now.module_of.tree in
    let p = λ (u : ℕ). not (leaves_use c.args.slots.now (cells_of c.args.cells.now.items) c.args.op c.args.store.now.module_of.tree u) in
    let m = c.requires.chained.members c.args.head c.in-Some.node (c.users.invariant.there c.in-Some.node c.in-Some.is) in
    walk_on ls p c.args.head (c.requires.chained.once c.args.head) c.in-Some.node (subst (Walks ls p c.args.head) c.in-Some.is c.users.invariant) (ap (λ z. not (has_id z.0 left)) (sym c.user_at-user.ensures) ∙ ap not (sym c.stays.ensures ∙ c.if-stays.false)) c.next-at.result (c.next-at.ensures ∙ ap (λ z. after c.in-Some.node (list_at ls z)) m.0)
