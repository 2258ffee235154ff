use Rattle.std.proofs.Common.{sym, ◌∙◌, ◌<◌, subst, eqb-true}
use Rattle.ir_store.specs.Lifted.{level_of}
use Rattle.ir_store.proofs.Climbing.{level_up, below_next}
use Rattle.ir_store.proofs.Preceding.{placeless_level, precedes_none, same_level_up, precedes_up, precedes_regions, precedes_list}
use Rattle.ir_store.proofs.store.Store.goes_first.Goals as goal
use Rattle.std.proofs.lemmas.Bool.{eqb-false}

pub returns-in_default : goal.returns-in_default
returns-in_default c =
    let t = c.args.self.now.module_of.tree in
    let z = placeless_level t c.distinct.ensures c.around.first (sym c.in_default.ensures) in
    sym (precedes_none t c.distinct.ensures c.around.first c.around.second z (sym c.around.invariant.level ∙ z)) ∙ c.around.invariant.same

pub returns-in_default-place : goal.returns-in_default-place
returns-in_default-place c =
    let t = c.args.self.now.module_of.tree in
    let z = placeless_level t c.distinct.ensures c.around.second (sym c.in_default-place.ensures) in
    sym (precedes_none t c.distinct.ensures c.around.first c.around.second (c.around.invariant.level ∙ z) z) ∙ c.around.invariant.same

pub returns-then-place-trailing : goal.returns-then-place-trailing
returns-then-place-trailing c =
    let t = c.args.self.now.module_of.tree in
    c.is_before.ensures
    ∙ precedes_list t c.distinct.ensures c.around.first c.around.second c.in-Some.place c.in-Some-place.trailing (sym c.in-Some.ensures) (sym c.in-Some-place.ensures) (eqb-true _ _ (sym c.if-eq.ensures)) c.if-place-trailing.true
    ∙ c.around.invariant.same

pub returns-then-eq : goal.returns-then-eq
returns-then-eq c =
    let t = c.args.self.now.module_of.tree in
    precedes_regions t c.distinct.ensures c.around.first c.around.second c.in-Some.place c.in-Some-place.trailing (sym c.in-Some.ensures) (sym c.in-Some-place.ensures) (eqb-true _ _ (sym c.if-eq.ensures)) c.if-place-trailing.false
    ∙ c.around.invariant.same

pub around-smaller : goal.around-smaller
around-smaller c =
    let t = c.args.self.now.module_of.tree in
    subst (λ n. level_of c.in-Some.place.parent t < n) (sym (level_up t c.distinct.ensures c.around.first c.in-Some.place (sym c.in-Some.ensures))) (below_next (level_of c.in-Some.place.parent t))

pub around-preserved : goal.around-preserved
around-preserved c =
    let t = c.args.self.now.module_of.tree in
    record {
      level = same_level_up t c.distinct.ensures c.around.first c.around.second c.in-Some.place c.in-Some-place.trailing (sym c.in-Some.ensures) (sym c.in-Some-place.ensures) c.around.invariant.level;
      same =
          sym (precedes_up t c.distinct.ensures c.around.first c.around.second c.in-Some.place c.in-Some-place.trailing (sym c.in-Some.ensures) (sym c.in-Some-place.ensures) c.around.invariant.level (eqb-false _ _ (sym c.if-eq.ensures)))
          ∙ c.around.invariant.same;
    }
