use Rattle.std.proofs.Common.{◌≡◌, ◌∙◌, sym, ap, subst, true, map, length, arith}
use Rattle.std.specs.Prelude.{option_map, option_and_then, IfSome}
use Rattle.std.specs.List.{All}
use Rattle.ir_event.specs.Modules.{NodeIsOf}
use Rattle.listeners_support.specs.declared.op_context.ParentContext.{ParentContext}
use Rattle.ir_event.specs.tree_laws.Values.{type_of_value, has_value}
use Rattle.ir_event.specs.declared.world.World.{World}
use Rattle.ir_event.proofs.Nodes.{known_node}
use Rattle.listeners_support.specs.Gathered.{tree_in, last_name_at, from_on, outer_in, outer_at}
use Rattle.listeners_support.proofs.Reading.{present, all_gathered, looks_counted, operands_there, few_regions}
use Rattle.listeners_support.proofs.gather.around_of.Goals as goal

pub types_of-requires : goal.types_of-requires
types_of-requires c =
    let w = c.args.view.now.world.now in
    let n = c.args.node in
    let p = present w.store w.wellformed.distinct c.args.op n c.requires.there c.requires.shown in
    subst (λ vs. All (λ v. has_value v (tree_in w) ≡ true) vs) (sym c.operands.ensures)
    (operands_there w.store w.wellformed.distinct _ w.wellformed.wellformed c.args.op n p)

pub lasts_of-requires : goal.lasts_of-requires
lasts_of-requires c =
    let w = c.args.view.now.world.now in
    let n = c.args.node in
    let p = present w.store w.wellformed.distinct c.args.op n c.requires.there c.requires.shown in
    let few = few_regions w.store w.wellformed.distinct _ w.wellformed.wellformed c.args.op n p in
    let count = c.region_count.ensures in
    omega arith

pub returns-in_err-types-clause-looks : goal.returns-in_err-types-clause-looks
returns-in_err-types-clause-looks c =
    let w = c.args.view.now.world.now in
    let n = c.args.node in
    let p = present w.store w.wellformed.distinct c.args.op n c.requires.there c.requires.shown in
    let most = looks_counted w.store w.wellformed.distinct c.args.op n p in
    let three = c.types_of.ensures.looks in
    let count = ap length c.operands.ensures in
    omega arith

pub returns-in_err-lasts-clause-looks : goal.returns-in_err-lasts-clause-looks
returns-in_err-lasts-clause-looks c =
    let w = c.args.view.now.world.now in
    let n = c.args.node in
    let p = present w.store w.wellformed.distinct c.args.op n c.requires.there c.requires.shown in
    let most = looks_counted w.store w.wellformed.distinct c.args.op n p in
    let three = c.types_of.ensures.looks in
    let four = c.lasts_of.ensures.looks in
    let count = ap length c.operands.ensures in
    let regions = c.region_count.ensures in
    omega arith

pub returns-clause-around : goal.returns-clause-around
returns-clause-around c =
    let w = c.args.view.now.world.now in
    let n = c.args.node in
    let x = c.args.op in
    let e3 = c.types_of.ensures.world in
    let e4 = c.lasts_of.ensures.world ∙ e3 in
    let p = present w.store w.wellformed.distinct x n c.requires.there c.requires.shown in
    let types = c.in_ok-types.ensures.types ∙ (λ i. map (λ v. type_of_value v (tree_in w)) (c.operands.ensures i)) in
    let lasts = c.in_ok-lasts.ensures.lasts ∙ (λ i. from_on (last_name_at x (tree_in (e3 i))) 0 (c.region_count.ensures i)) in
    let outer = c.outer_of-outer.ensures.outer ∙ ap (λ u. outer_at x (tree_in u)) e4 in
    all_gathered w.store w.wellformed.distinct x n p c.in_ok-types.types.items c.in_ok-lasts.lasts.items (option_map outer_in c.outer_of-outer.result) types lasts outer

pub returns-clause-known : goal.returns-clause-known
returns-clause-known c =
    let w = c.args.view.now.world.now in
    let e4 = c.lasts_of.ensures.world ∙ c.types_of.ensures.world in
    record {
      node = known_node w c.args.op c.args.node c.requires.shown;
      types = c.in_ok-types.ensures.known;
      ended = subst (λ (u : World). IfSome (option_and_then (λ (o : ParentContext). o.ended) c.outer_of-outer.result) (NodeIsOf u.ctx)) e4 c.outer_of-outer.ensures.known;
    }

pub returns-clause-looks : goal.returns-clause-looks
returns-clause-looks c =
    let w = c.args.view.now.world.now in
    let n = c.args.node in
    let p = present w.store w.wellformed.distinct c.args.op n c.requires.there c.requires.shown in
    let most = looks_counted w.store w.wellformed.distinct c.args.op n p in
    let three = c.types_of.ensures.looks in
    let four = c.lasts_of.ensures.looks in
    let five = c.outer_of-outer.ensures.looks in
    let count = ap length c.operands.ensures in
    let regions = c.region_count.ensures in
    omega arith
