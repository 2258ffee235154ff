use Rattle.std.proofs.Common.{◌∙◌, sym, ap, arith}
use Rattle.std.specs.Prelude.{option_map}
use Rattle.ir_event.specs.store.Nodes.{node_of}
use Rattle.ir_event.specs.store.Stored.{known}
use Rattle.ir_event.specs.declared.world.World.{World}
use Rattle.listeners_support.specs.Gathered.{regions_found}
use Rattle.listeners_support.proofs.Reading.{absent, present, count_found, few_regions}
use Rattle.listeners_support.proofs.fact.region_count.Goals as goal

pub returns-then-not-in_tree-clause-count : goal.returns-then-not-in_tree-clause-count
returns-then-not-in_tree-clause-count c =
    let w = c.args.view.now.world.now in
    sym (ap regions_found (absent w.store w.wellformed.distinct c.args.op (sym c.if-not-in_tree.ensures.answer)))

pub returns-in-Some-clause-count : goal.returns-in-Some-clause-count
returns-in-Some-clause-count c =
    let w = c.args.view.now.world.now in
    let n = c.in-Some.node in
    let shown = ap (λ (u : World). option_map node_of (known c.args.op u.store)) (sym c.in_tree.ensures.world) ∙ sym c.in-Some.ensures.answer in
    let p = present w.store w.wellformed.distinct c.args.op n (sym c.if-not-in_tree.ensures.answer) shown in
    c.region_count.ensures ∙ count_found w.store w.wellformed.distinct c.args.op n p

pub returns-in-Some-clause-few : goal.returns-in-Some-clause-few
returns-in-Some-clause-few c =
    let w = c.args.view.now.world.now in
    let n = c.in-Some.node in
    let shown = ap (λ (u : World). option_map node_of (known c.args.op u.store)) (sym c.in_tree.ensures.world) ∙ sym c.in-Some.ensures.answer in
    let p = present w.store w.wellformed.distinct c.args.op n (sym c.if-not-in_tree.ensures.answer) shown in
    let few = few_regions w.store w.wellformed.distinct _ w.wellformed.wellformed c.args.op n p in
    let count = c.region_count.ensures in
    omega arith
