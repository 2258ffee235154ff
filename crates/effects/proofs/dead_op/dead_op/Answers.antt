use Rattle.std.proofs.Common.{◌≡◌, ◌∙◌, ◌<◌, refl, ap, sym, subst, ℕ, true, false, length, [], arith}
use Rattle.ir_event.specs.types.Terms.{name_term}
use Rattle.ir_event.specs.trees.declared.value.Value.TheVariants.{Result}
use Rattle.ir_event.specs.trees.Uses.{uses_of}
use Rattle.effects.specs.Dead.{is_kept}
use Rattle.effects.specs.Effects.{own_by}
use Rattle.effects.specs.Idle.{AreUnused, idle_at}
use Rattle.effects.proofs.Unused.{dead_none, dead_shown, few_results, none_used, used_result}
use Rattle.effects.proofs.dead_op.dead_op.Goals as goal

pub returns-in_default : goal.returns-in_default
returns-in_default c = dead_none c.args.world.now.ctx c.args.op c.args.world.now.store.module_of.tree c.in_default.ensures.node

pub overflow_cast-results : goal.overflow_cast-results
overflow_cast-results c =
    let few = few_results c.args.world.now c.args.op c.in-Some.node c.in-Some.ensures.node in
    let same = ap length c.results.ensures in
    omega (arith, few, same)

pub returns-then-not-is_unused : goal.returns-then-not-is_unused
returns-then-not-is_unused c =
    let t = c.args.world.now.store.module_of.tree in
    let used = subst (AreUnused c.args.op (length c.results.result.now) t) c.if-not-is_unused.true c.is_unused.ensures in
    sym (dead_shown c.args.world.now.ctx c.args.op t c.in-Some.node c.in-Some.ensures.node (is_kept (name_term c.args.world.now.ctx c.in-Some.node.head.name)) false (idle_at (own_by c.args.world.now.ctx) c.args.op t) refl (used_result c.args.op used.0 t used.1) refl)

pub returns-then-is_kept : goal.returns-then-is_kept
returns-then-is_kept c =
    let t = c.args.world.now.store.module_of.tree in
    let unused : (k : ℕ) → k < length c.results.result.now → uses_of (Result c.args.op k) t ≡ [] = subst (AreUnused c.args.op (length c.results.result.now) t) c.if-not-is_unused.false c.is_unused.ensures in
    let same = ap length c.results.ensures in
    let kept = sym c.if-is_kept.true ∙ c.is_kept.ensures ∙ ap (λ n. is_kept (name_term c.args.world.now.ctx n)) c.name.ensures in
    sym (dead_shown c.args.world.now.ctx c.args.op t c.in-Some.node c.in-Some.ensures.node true true (idle_at (own_by c.args.world.now.ctx) c.args.op t) kept (none_used c.args.world.now c.args.op c.in-Some.node c.in-Some.ensures.node (λ k l. unused k (omega (arith, l, same)))) refl)

pub returns : goal.returns
returns c =
    let t = c.args.world.now.store.module_of.tree in
    let unused : (k : ℕ) → k < length c.results.result.now → uses_of (Result c.args.op k) t ≡ [] = subst (AreUnused c.args.op (length c.results.result.now) t) c.if-not-is_unused.false c.is_unused.ensures in
    let same = ap length c.results.ensures in
    let kept = sym c.if-is_kept.false ∙ c.is_kept.ensures ∙ ap (λ n. is_kept (name_term c.args.world.now.ctx n)) c.name.ensures in
    sym (dead_shown c.args.world.now.ctx c.args.op t c.in-Some.node c.in-Some.ensures.node false true c.is_idle.result kept (none_used c.args.world.now c.args.op c.in-Some.node c.in-Some.ensures.node (λ k l. unused k (omega (arith, l, same)))) c.is_idle.ensures)
