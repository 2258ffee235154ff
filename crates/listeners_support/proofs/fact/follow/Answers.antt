use Rattle.std.proofs.Common.{◌≡◌, ◌∙◌, sym, ap, subst, arith}
use Rattle.std.specs.Prelude.{OnOk}
use Rattle.std.specs.Ordering.{nat_cmp}
use Rattle.std.specs.BTreeMap.{get}
use Rattle.ir_event.specs.types.Terms.{name_term, type_term, attr_term}
use Rattle.ir_event.specs.Modules.{module_in}
use Rattle.ir_event.specs.declared.world.World.{World}
use Rattle.listeners_support.specs.Near.{near, somes}
use Rattle.listeners_support.specs.Facts.{kept_of, Renewed}
use Rattle.listeners_support.specs.Gathered.{gathers_for, tree_in}
use Rattle.listeners_support.proofs.Meanings.{map_near}
use Rattle.listeners_support.proofs.Following.{within, near_within, map_most}
use Rattle.listeners_support.proofs.fact.follow.Goals as goal

pub returns-in_err-ops-clause-looks : goal.returns-in_err-ops-clause-looks
returns-in_err-ops-clause-looks g c =
    let w = c.args.view.now.world.now in
    let most = map_most w.ctx c.args.event.now (tree_in w) in
    let below = near_within c.args.event.now (tree_in w) in
    let looks = c.near_ops.ensures.looks in
    omega arith

pub returns-clause-renewed : goal.returns-clause-renewed
returns-clause-renewed g c =
    let w = c.args.view.now.world.now in
    let fact = g.F.LocalFact.fact in
    let kept = g.F.LocalFact.kept in
    let e = c.args.event.now in
    let t0 = get nat_cmp c.args.table.now in
    let t1 = get nat_cmp c.renew_each.new.table in
    let ops = ap somes c.deref.ensures.value ∙ c.in_ok-ops.ensures.ops ∙ sym (map_near (name_term w.ctx) (type_term w.ctx) (attr_term w.ctx) e (tree_in w)) in
    subst (λ l. OnOk c.renew_each.result (Renewed (kept_of fact kept (module_in w).tree) l t0 t1)) ops
    (subst (λ (u : World). OnOk c.renew_each.result (Renewed (kept_of fact kept (module_in u).tree) (somes c.deref.result.now) t0 t1)) c.near_ops.ensures.world c.renew_each.ensures.renewed)

pub returns-clause-looks : goal.returns-clause-looks
returns-clause-looks g c =
    let w = c.args.view.now.world.now in
    let e = c.args.event.now in
    let most = map_most w.ctx e (tree_in w) in
    let below = within e (tree_in w) in
    let looks = c.near_ops.ensures.looks in
    let each = c.renew_each.ensures.looks in
    let same : gathers_for (tree_in c.near_ops.new.view.world.now) (somes c.deref.result.now) ≡ gathers_for (tree_in w) (near e (tree_in w)) = (λ i. gathers_for (tree_in (c.near_ops.ensures.world i)) ((ap somes c.deref.ensures.value ∙ c.in_ok-ops.ensures.ops) i)) in
    omega arith
