use Rattle.std.proofs.Common.{◌≡◌, ◌∙◌, sym, ap, subst, true, List, [], ◌≤◌, suc, length, arith}
use Rattle.ir_event.specs.trees.WellFormed.{Module}
use Rattle.ir_event.specs.trees.Uses.{uses_of}
use Rattle.ir_event.specs.store.Stored.{Stored}
use Rattle.ir_event.specs.store.Calls.{after_operand}
use Rattle.ir_event.specs.store.Using.{is_use}
use Rattle.ir_event.specs.tree_laws.Reasons.{set_operand_reason}
use Rattle.ir_event.specs.trees.Meaning.{isolated_in}
use Rattle.rewriter.specs.Contents.{tests_in}
use Rattle.rewriter.specs.Edits.{Replace}
use Rattle.rewriter.proofs.Noted.{made_module}
use Rattle.rewriter.proofs.Together.{underway_none, underway_made, refused_on}
use Rattle.rewriter.proofs.replace.set_uses.Goals as goal

pub uses-init : goal.uses-init
uses-init g c = underway_none g.L.Analysis.meaning c.led_benches_are_kept.ensures.none (Replace c.args.old.now c.args.new.now) c.args.bench.now c.is_wellformed.ensures.wellformed c.requires.free

pub uses-preserved : goal.uses-preserved
uses-preserved g c =
    let w = tests_in c.args.bench.now.transaction.ctx in
    let m = c.uses.bench.transaction.store.module_of in
    let h = c.uses.invariant in
    let use_is : is_use c.in-Some.site.0 c.in-Some.site.1 (uses_of c.args.old.now m.tree) ≡ true = subst (λ (s : Stored). is_use c.in-Some.site.0 c.in-Some.site.1 (uses_of c.args.old.now s.module_of.tree) ≡ true) c.world.ensures.store c.in-Some.ensures in
    underway_made g.L.Analysis.meaning c.led_benches_are_kept.ensures.more (Replace c.args.old.now c.args.new.now) (after_operand c.in-Some.site.0 c.in-Some.site.1 c.args.new.now c.uses.bench.transaction.store)
    c.args.bench.now c.uses.bench c.set_operand.new.self c.is_wellformed.ensures.context.holds h c.in_default-set_operand.ensures.ok
    (c.replacing_by_uses.ensures.wellformed w c.args.old.now c.args.new.now c.in-Some.site.0 c.in-Some.site.1 m h.wellformed h.free use_is)
    (c.replacing_by_uses.ensures.still w c.args.old.now c.args.new.now c.in-Some.site.0 c.in-Some.site.1 m h.wellformed h.free c.requires.differ use_is)
    (c.replacing_by_uses.ensures.same w c.args.old.now c.args.new.now c.in-Some.site.0 c.in-Some.site.1 m h.wellformed use_is)

pub uses-smaller : goal.uses-smaller
uses-smaller g c =
    let w = tests_in c.args.bench.now.transaction.ctx in
    let m = c.uses.bench.transaction.store.module_of in
    let h = c.uses.invariant in
    let use_is : is_use c.in-Some.site.0 c.in-Some.site.1 (uses_of c.args.old.now m.tree) ≡ true = subst (λ (s : Stored). is_use c.in-Some.site.0 c.in-Some.site.1 (uses_of c.args.old.now s.module_of.tree) ≡ true) c.world.ensures.store c.in-Some.ensures in
    let one = c.replacing_by_uses.ensures.fewer w c.args.old.now c.args.new.now c.in-Some.site.0 c.in-Some.site.1 m h.wellformed c.requires.differ use_is in
    let made = ap (λ (m : Module). suc (length (uses_of c.args.old.now m.tree))) (made_module g.L.Analysis.meaning _ c.uses.bench c.set_operand.new.self c.in_default-set_operand.ensures.ok) in
    omega (arith, made, one)

pub returns-in-Err-clause-refused : goal.returns-in-Err-clause-refused
returns-in-Err-clause-refused g c =
    let w = tests_in c.args.bench.now.transaction.ctx in
    let b = c.uses.bench in
    let h = c.uses.invariant in
    let use_is : is_use c.in-Some.site.0 c.in-Some.site.1 (uses_of c.args.old.now b.transaction.store.module_of.tree) ≡ true = subst (λ (s : Stored). is_use c.in-Some.site.0 c.in-Some.site.1 (uses_of c.args.old.now s.module_of.tree) ≡ true) c.world.ensures.store c.in-Some.ensures in
    refused_on g.L.Analysis.meaning (set_operand_reason (isolated_in b.transaction.ctx) c.in-Some.site.0 c.in-Some.site.1 c.args.new.now b.transaction.store.module_of.tree) c.in-Err.refusal c.args.bench.now b h.onward
    (ap (λ d. set_operand_reason (isolated_in d) c.in-Some.site.0 c.in-Some.site.1 c.args.new.now b.transaction.store.module_of.tree) h.onward.ctx
    ∙ c.replacing_by_uses.ensures.reason w c.args.old.now c.args.new.now c.in-Some.site.0 c.in-Some.site.1 b.transaction.store.module_of h.wellformed h.free use_is)
    c.in-Err.ensures.refused

pub returns-clause-ok : goal.returns-clause-ok
returns-clause-ok g c =
    let w = tests_in c.args.bench.now.transaction.ctx in
    let m = c.uses.bench.transaction.store.module_of in
    sym (c.replacing_by_uses.ensures.done w c.args.old.now c.args.new.now m (subst (λ (s : Stored). uses_of c.args.old.now s.module_of.tree ≡ []) c.world.ensures.store c.in_default.ensures)) ∙ c.uses.invariant.same
