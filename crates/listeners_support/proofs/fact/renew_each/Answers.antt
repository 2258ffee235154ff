use Rattle.std.proofs.Common.{◌∙◌, ◌+◌, ◌-◌, ◌≤◌, sym, ap, subst, length, take, drop, arith}
use Rattle.std.specs.Ordering.{nat_cmp}
use Rattle.std.specs.BTreeMap.{get}
use Rattle.ir_event.specs.Modules.{module_in}
use Rattle.ir_event.specs.declared.world.World.{World}
use Rattle.listeners_support.specs.Near.{if_any, somes}
use Rattle.listeners_support.specs.Facts.{kept_of, Renewed}
use Rattle.listeners_support.specs.Gathered.{gathers_for, tree_in}
use Rattle.listeners_support.proofs.Tables.{renewed_as, renewed_none}
use Rattle.listeners_support.proofs.Following.{somes_drop}
use Rattle.listeners_support.proofs.fact.renew_each.Goals as goal
use Rattle.std.proofs.lemmas.List.{drop_all, take_rest}

pub loop-place-preserved : goal.loop-place-preserved
loop-place-preserved g c =
    let inv = c.loop-place.invariant in
    let w = c.args.view.now.world.now in
    let fact = g.F.LocalFact.fact in
    let kept = g.F.LocalFact.kept in
    let ops = c.args.ops.now in
    let place = c.loop-place.place in
    let one = c.index-ops-place.result in
    let later = somes (take (length ops - (place + 1)) (drop (place + 1) ops)) in
    let rest = ap somes (take_rest ops (place + 1)) in
    let is = somes_drop ops place one c.loop-place-test.true ∙ ap (λ o. if_any o (somes (drop (place + 1) ops))) (sym c.index-ops-place.is) ∙ ap (if_any one) (sym rest) in
    let t0 = get nat_cmp c.loop-place.table in
    let t1 = get nat_cmp c.renew_first.new.table in
    let looks = subst (λ (u : World). c.renew_first.new.view.looks + gathers_for (tree_in u) later ≤ c.loop-place.view.looks + gathers_for (tree_in u) (if_any one later)) inv.world c.renew_first.ensures.looks in
    let before = inv.looks in
    let same = ap (gathers_for (tree_in w)) is in
    let trailing = ap (gathers_for (tree_in w)) rest in
    record {
      world = c.renew_first.ensures.world ∙ inv.world;
      looks = omega arith;
      renewed = λ final r. inv.renewed final (renewed_as (kept_of fact kept (module_in w).tree) (if_any one later) (somes (drop place ops)) t0 final (sym is)
          (subst (λ (u : World). Renewed (kept_of fact kept (module_in u).tree) later t1 final → Renewed (kept_of fact kept (module_in u).tree) (if_any one later) t0 final) inv.world (c.in_ok-renew_first.ensures.renewed final) (renewed_as (kept_of fact kept (module_in w).tree) (somes (drop (place + 1) ops)) later t1 final (sym rest) r)));
    }

pub returns-clause-renewed : goal.returns-clause-renewed
returns-clause-renewed g c =
    let t0 = get nat_cmp c.loop-place.table in
    c.loop-place.invariant.renewed t0 (renewed_none _ (somes (drop c.loop-place.place c.args.ops.now)) t0 (ap somes (drop_all c.loop-place.place c.args.ops.now c.loop-place-test.false)))
