use Rattle.std.proofs.Common.{◌≡◌, ◌∙◌, ℕ, sym, ap, subst, false, true, None, List, [], ◌∷◌, ◌++◌, ◌≤◌, ◌+◌, suc, length, arith, length-append, eqb}
use Rattle.ir_event.specs.types.declared.refusal.Refusal.TheVariants.{NoSuchOp}
use Rattle.ir_event.specs.trees.Tree.{Op}
use Rattle.ir_event.specs.trees.Ids.{find, has_id}
use Rattle.ir_event.specs.tree_laws.Reasons.{take_reason}
use Rattle.ir_event.proofs.of_tree_laws.Reasoned.{no_unless}
use Rattle.ir_event.specs.store.Stored.{Stored}
use Rattle.ir_event.specs.store.Calls.{after_take}
use Rattle.rewriter.specs.Contents.{tests_in}
use Rattle.rewriter.specs.Edits.{Erase, erase_reason}
use Rattle.ir_event.specs.trees.WellFormed.{Module}
use Rattle.rewriter_machine.specs.Erasing.{ids_in}
use Rattle.rewriter.proofs.There.{not_gone}
use Rattle.rewriter.proofs.Noted.{made_module}
use Rattle.rewriter.proofs.Together.{onward_made, underway_none, underway_made, refused_on}
use Rattle.rewriter.proofs.erase.take_all.Goals as goal

pub rest-init : goal.rest-init
rest-init g c = underway_none g.L.Analysis.meaning c.led_benches_are_kept.ensures.none (Erase c.args.op) c.args.bench.now c.is_wellformed.ensures.wellformed c.requires

pub rest-preserved : goal.rest-preserved
rest-preserved g c =
    let w = tests_in c.args.bench.now.transaction.ctx in
    let m = c.rest.bench.transaction.store.module_of in
    let h = c.rest.invariant in
    let end : (ys : List ℕ) × (ids_in (find c.args.op m.tree) ≡ ys ++ c.in-Some.last ∷ []) = subst (λ (s : Stored). (ys : List ℕ) × (ids_in (find c.args.op s.module_of.tree) ≡ ys ++ c.in-Some.last ∷ [])) c.world.ensures.store c.in-Some.ensures in
    let differ : eqb c.in-Some.last c.args.op ≡ false = sym c.eq.ensures ∙ c.if-eq.false in
    underway_made g.L.Analysis.meaning c.led_benches_are_kept.ensures.more (Erase c.args.op) (after_take c.in-Some.last c.rest.bench.transaction.store)
    c.args.bench.now c.rest.bench c.take.new.self c.is_wellformed.ensures.context.holds h c.in_default-take.ensures.ok
    (c.erasing_by_last.ensures.wellformed w c.args.op c.in-Some.last end.0 m h.wellformed h.free end.1)
    (c.erasing_by_last.ensures.still w c.args.op c.in-Some.last end.0 m h.wellformed h.free end.1 differ)
    (c.erasing_by_last.ensures.same w c.args.op c.in-Some.last end.0 m h.wellformed h.free end.1 differ)

pub rest-smaller : goal.rest-smaller
rest-smaller g c =
    let w = tests_in c.args.bench.now.transaction.ctx in
    let m = c.rest.bench.transaction.store.module_of in
    let h = c.rest.invariant in
    let end : (ys : List ℕ) × (ids_in (find c.args.op m.tree) ≡ ys ++ c.in-Some.last ∷ []) = subst (λ (s : Stored). (ys : List ℕ) × (ids_in (find c.args.op s.module_of.tree) ≡ ys ++ c.in-Some.last ∷ [])) c.world.ensures.store c.in-Some.ensures in
    let left = ap (λ (l : List ℕ). length l) (c.erasing_by_last.ensures.fewer w c.args.op c.in-Some.last end.0 m h.wellformed h.free end.1) in
    let whole : length (ids_in (find c.args.op m.tree)) ≡ length end.0 + 1 = ap (λ (l : List ℕ). length l) end.1 ∙ length-append end.0 (c.in-Some.last ∷ []) in
    let made = ap (λ (m : Module). length (ids_in (find c.args.op m.tree))) (made_module g.L.Analysis.meaning _ c.rest.bench c.take.new.self c.in_default-take.ensures.ok) in
    omega (arith, left, whole, made)

pub returns-in-Err-clause-refused : goal.returns-in-Err-clause-refused
returns-in-Err-clause-refused g c =
    let w = tests_in c.args.bench.now.transaction.ctx in
    let m = c.rest.bench.transaction.store.module_of in
    let h = c.rest.invariant in
    let end : (ys : List ℕ) × (ids_in (find c.args.op m.tree) ≡ ys ++ c.in-Some.last ∷ []) = subst (λ (s : Stored). (ys : List ℕ) × (ids_in (find c.args.op s.module_of.tree) ≡ ys ++ c.in-Some.last ∷ [])) c.world.ensures.store c.in-Some.ensures in
    refused_on g.L.Analysis.meaning (take_reason c.in-Some.last m.tree) c.in-Err.refusal c.args.bench.now c.rest.bench h.onward
    (c.erasing_by_last.ensures.reason w c.args.op c.in-Some.last end.0 m h.wellformed h.free end.1) c.in-Err.ensures.refused

pub returns-then-eq-clause-onward : goal.returns-then-eq-clause-onward
returns-then-eq-clause-onward g c =
    onward_made g.L.Analysis.meaning c.led_benches_are_kept.ensures.more (after_take c.in-Some.last c.rest.bench.transaction.store) c.args.bench.now c.rest.bench c.take.new.self c.is_wellformed.ensures.context.holds c.rest.invariant.onward c.in_default-take.ensures.ok

pub returns-clause-ok : goal.returns-clause-ok
returns-clause-ok g c =
    let t = c.rest.bench.transaction.store.module_of.tree in
    let free : erase_reason c.args.op t ≡ None = c.rest.invariant.free in
    let gone : find c.args.op t ≡ None = subst (λ (s : Stored). find c.args.op s.module_of.tree ≡ None) c.world.ensures.store c.in_default.ensures in
    absurd (not_gone c.args.op t c.rest.invariant.wellformed.distinct (no_unless (has_id c.args.op t) NoSuchOp _ free).0 gone)
