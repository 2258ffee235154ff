use Rattle.std.proofs.Common.{◌≡◌, ◌⊎◌, sym, subst}
use Rattle.ir_event.specs.types.Things.{ContextModel}
use Rattle.ir_event.specs.types.declared.refusal.Refusal.TheVariants.{Memory}
use Rattle.ir_event.specs.trees.Meaning.{IsSoundIn}
use Rattle.rewriter.specs.Contents.{tests_in}
use Rattle.rewriter.specs.Creating.{AreHeadersOf, IsRefusedAmong}
use Rattle.rewriter.proofs.IsMadeOrRefused.{header_there, made_none, made_more, made_refused}
use Rattle.rewriter.proofs.making.make_each.Goals as goal

pub loop-header-init : goal.loop-header-init
loop-header-init g c = made_none g.L.Analysis.meaning c.led_benches_are_kept.ensures.none c.deref-header-items.result.now c.args.bench.now

pub make-requires-clause-sound : goal.make-requires-clause-sound
make-requires-clause-sound g c =
    let are = subst (AreHeadersOf c.args.bench.now.transaction.ctx) (sym c.deref-header-items.ensures.value) c.requires in
    let there = header_there c.args.bench.now.transaction.ctx c.deref-header-items.result.now c.loop-header.header-index c.header-item.result are c.loop-header-test.true c.header-item.is in
    subst (λ (d : ContextModel). IsSoundIn d c.header-item.result.1) (sym c.loop-header.invariant.onward.ctx) there.0

pub make-requires-clause-bare : goal.make-requires-clause-bare
make-requires-clause-bare g c =
    let are = subst (AreHeadersOf c.args.bench.now.transaction.ctx) (sym c.deref-header-items.ensures.value) c.requires in
    (header_there c.args.bench.now.transaction.ctx c.deref-header-items.result.now c.loop-header.header-index c.header-item.result are c.loop-header-test.true c.header-item.is).1

pub returns-in-Err-clause-pattern_set : goal.returns-in-Err-clause-pattern_set
returns-in-Err-clause-pattern_set g c =
    subst (λ hs. (c.in-Err.refusal ≡ Memory) ⊎ IsRefusedAmong (tests_in c.args.bench.now.transaction.ctx) hs c.args.bench.now.transaction.store.module_of c.in-Err.refusal) c.deref-header-items.ensures.value
    (made_refused g.L.Analysis.meaning c.deref-header-items.result.now c.loop-header.header-index c.header-item.result c.in-Err.refusal c.args.bench.now c.loop-header.bench c.loop-header-test.true c.header-item.is c.loop-header.invariant c.in-Err.ensures.refused)

pub loop-header-preserved : goal.loop-header-preserved
loop-header-preserved g c =
    made_more g.L.Analysis.meaning c.inserting_is_making.ensures.parts c.led_benches_are_kept.ensures.more c.deref-header-items.result.now c.loop-header.header-index c.header-item.result c.args.bench.now c.loop-header.bench c.make.new.self
    c.is_wellformed.ensures.context.holds c.loop-header-test.true c.header-item.is c.loop-header.invariant c.in_default.ensures.ok
