use Rattle.std.proofs.Common.{◌∙◌, sym, ap, refl, None, Some, arith}
use Rattle.std.specs.Prelude.{option_map, option_and_then}
use Rattle.ir_event.specs.types.Terms.{name_term}
use Rattle.ir_event.specs.trees.Ids.{has_id}
use Rattle.ir_event.specs.store.Nodes.{node_of}
use Rattle.ir_event.specs.store.Stored.{known}
use Rattle.ir_event.specs.declared.world.World.{World}
use Rattle.listeners_support.specs.Surroundings.{surroundings}
use Rattle.listeners_support.specs.Facts.{if_kept}
use Rattle.listeners_support.specs.Gathered.{gather_looks, gathered_in, tree_in}
use Rattle.listeners_support.proofs.Reading.{nothing_around, present, looks_counted}
use Rattle.listeners_support.proofs.Following.{fact_gathered}
use Rattle.listeners_support.proofs.Silent.{unkept}
use Rattle.listeners_support.proofs.fact.kept_at.Goals as goal

pub returns-in_default-clause-kept : goal.returns-in_default-clause-kept
returns-in_default-clause-kept g c =
    let w = c.args.view.now.world.now in
    ap (λ r. option_and_then (if_kept g.F.LocalFact.kept) r) (fact_gathered g.F.LocalFact.fact w.ctx (tree_in w) c.args.op None (sym (nothing_around w.store w.wellformed.distinct c.args.op (c.in_default.ensures.none refl))))

pub returns-in_default-clause-looks : goal.returns-in_default-clause-looks
returns-in_default-clause-looks g c =
    let none = ap gather_looks (c.in_default.ensures.none refl) in
    let one = c.in_default.ensures.absent refl in
    omega arith

pub returns-then-not-concerns-clause-kept : goal.returns-then-not-concerns-clause-kept
returns-then-not-concerns-clause-kept g c =
    let w = c.args.view.now.world.now in
    let at = c.context.ensures ∙ ap (λ (u : World). u.ctx) c.shown.ensures.world in
    unkept g.F.LocalFact.fact g.F.LocalFact.kept w.ctx w.store w.wellformed.distinct c.args.op c.in-Some.node c.in-Some.ensures.there c.in-Some.ensures.shown
    (λ s h. c.concerns.ensures c.if-not-concerns.true s (h ∙ (λ i. name_term (sym at i) (sym c.name.ensures i))))

pub returns-then-not-concerns-clause-looks : goal.returns-then-not-concerns-clause-looks
returns-then-not-concerns-clause-looks g c =
    let w = c.args.view.now.world.now in
    let n = c.in-Some.node in
    let p = present w.store w.wellformed.distinct c.args.op n c.in-Some.ensures.there c.in-Some.ensures.shown in
    let most = looks_counted w.store w.wellformed.distinct c.args.op n p in
    let two = c.shown.ensures.looks in
    omega arith

pub around_of-requires-clause-there : goal.around_of-requires-clause-there
around_of-requires-clause-there g c = ap (λ (u : World). has_id c.args.op (tree_in u)) c.shown.ensures.world ∙ c.in-Some.ensures.there

pub around_of-requires-clause-shown : goal.around_of-requires-clause-shown
around_of-requires-clause-shown g c = ap (λ (u : World). option_map node_of (known c.args.op u.store)) c.shown.ensures.world ∙ c.in-Some.ensures.shown

pub returns-clause-kept : goal.returns-clause-kept
returns-clause-kept g c =
    let w = c.args.view.now.world.now in
    let fact = g.F.LocalFact.fact in
    let at = c.context-2.ensures ∙ ap (λ (u : World). u.ctx) (c.around_of.ensures.world ∙ c.shown.ensures.world) in
    let around = c.in_ok-around.ensures.around ∙ ap (λ (u : World). surroundings c.args.op (tree_in u)) c.shown.ensures.world in
    c.if_kept.ensures
    ∙ ap (if_kept g.F.LocalFact.kept) (c.compute.ensures ∙ ap (λ k. fact (gathered_in k c.in_ok-around.around)) at)
    ∙ ap (option_and_then (if_kept g.F.LocalFact.kept)) (fact_gathered fact w.ctx (tree_in w) c.args.op (Some c.in_ok-around.around) around)
