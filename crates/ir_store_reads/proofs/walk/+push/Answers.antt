use Rattle.std.proofs.Common.{sym, ap, ◌∙◌, subst, map, [], ◌∷◌, arith}
use Rattle.std.proofs.lemmas.Bool.Decides.{nat_tests}
use Rattle.ir_store_slots.specs.Lists.{after, list_at}
use Rattle.ir_store_slots.proofs.Splits.{uncons}
use Rattle.ir_store_slots.specs.Rows.{shape_of}
use Rattle.ir_store_reads.specs.Added.{AddsRegions}
use Rattle.ir_store_slots.proofs.Items.{on_ok}
use Rattle.ir_store_slots.proofs.Walked.{listed_item}
use Rattle.ir_store_reads.proofs.Adding.{added_op, adds_empty, adds_block, adds_none, is_none, region_step, regions_done, slots_start, slots_step, slots_less, slots_done}
use Rattle.ir_store_reads.proofs.walk.+push.Goals as goal

pub push_area-returns-in-Empty : goal.push_area-returns-in-Empty
push_area-returns-in-Empty t c =
    let slots = c.args.slots.now in
    let lists = c.args.sibs.now.lists in
    let out = c.args.out.now.items in
    subst (λ z. AddsRegions slots lists (shape_of z ∷ []) out out) (sym c.in-Empty.is) (adds_empty slots lists out)

pub push_area-returns-in-Block : goal.push_area-returns-in-Block
push_area-returns-in-Block t c =
    let slots = c.args.slots.now in
    let lists = c.args.sibs.now.lists in
    let out = c.args.out.now.items in
    on_ok c.push_list.result
    (λ f. subst (λ z. AddsRegions slots lists (shape_of z ∷ []) out c.push_list.new.out.items) (sym c.in-Block.is) (adds_block slots lists (c.in-Block.args.items, c.in-Block.head) out c.push_list.new.out.items f))
    c.push_list.ensures

pub push_areas-areas-preserved : goal.push_areas-areas-preserved
push_areas-areas-preserved t c =
    let u = uncons c.areas.rest.now c.area-item.result _ c.in-len1-up.len_at_least c.area-item.is in
    region_step c.args.slots.now c.args.sibs.now.lists c.args.sibs.now.homes c.args.areas.now c.areas.rest.now _ c.area-item.result c.args.out.now.items c.areas.out.items c.push_area.new.out.items u c.in_ok-push_area.ensures c.areas.invariant

pub push_areas-returns : goal.push_areas-returns
push_areas-returns t c = regions_done c.args.slots.now c.args.sibs.now.lists c.args.sibs.now.homes c.args.areas.now c.areas.rest.now c.args.out.now.items c.areas.out.items c.in_default.len_below c.areas.invariant

pub push_list-ops-init : goal.push_list-ops-init
push_list-ops-init t c = slots_start c.args.slots.now c.args.sibs.now.lists c.args.head c.first-at.result c.args.out.now.items c.first-at.ensures

pub push_list-next-at-requires : goal.push_list-next-at-requires
push_list-next-at-requires t c = listed_item c.args.sibs.now.lists c.args.sibs.now.homes c.requires.laws c.args.head c.in-Some.key c.requires.head (c.ops.invariant.0.there c.in-Some.key c.in-Some.is)

pub push_list-ops-smaller : goal.push_list-ops-smaller
push_list-ops-smaller t c =
    let ls = c.args.sibs.now.lists in
    let m = c.requires.laws.members c.args.head c.in-Some.key (c.ops.invariant.0.there c.in-Some.key c.in-Some.is) in
    slots_less c.args.slots.now ls c.args.head (c.requires.laws.once c.args.head) c.in-Some.key c.ops.at c.next-at.result c.args.out.now.items c.ops.out.items c.in-Some.is
    (c.next-at.ensures ∙ ap (λ z. after c.in-Some.key (list_at ls z)) m.0) c.ops.invariant

pub push_list-ops-preserved : goal.push_list-ops-preserved
push_list-ops-preserved t c =
    let ls = c.args.sibs.now.lists in
    let m = c.requires.laws.members c.args.head c.in-Some.key (c.ops.invariant.0.there c.in-Some.key c.in-Some.is) in
    slots_step c.args.slots.now ls c.args.head (c.requires.laws.once c.args.head) c.in-Some.key c.ops.at c.next-at.result c.args.out.now.items c.ops.out.items c.push_item.new.out.items c.in-Some.is
    (c.next-at.ensures ∙ ap (λ z. after c.in-Some.key (list_at ls z)) m.0) c.in_ok-push_item.ensures c.ops.invariant

pub push_list-returns : goal.push_list-returns
push_list-returns t c = slots_done c.args.slots.now c.args.sibs.now.lists c.args.head c.ops.at c.args.out.now.items c.ops.out.items c.in_default.is c.ops.invariant

pub push_op-returns : goal.push_op-returns
push_op-returns t c =
    let slots = c.args.slots.now in
    let lists = c.args.sibs.now.lists in
    on_ok c.push_areas.result
    (λ g. added_op slots lists c.args.key c.args.out.now.items c.push.new.self.items c.push_areas.new.out.items c.id.result c.id.ensures c.in_ok-push.ensures.items
    (subst (λ z. AddsRegions slots lists z c.push.new.self.items c.push_areas.new.out.items) c.areas.ensures g))
    c.push_areas.ensures

pub push_item-returns : goal.push_item-returns
push_item-returns t c =
    let slots = c.args.slots.now in
    let lists = c.args.sibs.now.lists in
    let out = c.push.new.self.items in
    let none = sym c.areas.ensures ∙ ap (map shape_of) (is_none c.areas.result.now (grind (arith, nat_tests))) in
    added_op slots lists c.args.key c.args.out.now.items out out c.id.result c.id.ensures c.in_ok-push.ensures.items
    (subst (λ xs. AddsRegions slots lists xs out out) (sym none) (adds_none slots lists out))
