use Rattle.std.proofs.Common.{◌∙◌, ap, subst, inl, inr, refl, None, rules}
use Rattle.ir_event.specs.trees.Meaning.{IsSoundIn}
use Rattle.ir_event.specs.types.Things.{ContextModel}
use Rattle.ir_event.specs.store.Stored.{Stored}
use Rattle.rewriter_machine.specs.Machine.{Refused}
use Rattle.rewriter_machine.specs.Points.{point_place}
use Rattle.rewriter.specs.RewriterCalls.{id_reply_of}
use Rattle.mlir_work_script_base.specs.InsertionPoints.{insertion_point_of}
use Rattle.mlir_work_c_read.specs.Edits.{InsertsAt}
use Rattle.mlir_work_c_read.proofs.Testing.{fails, passes}
use Rattle.mlir_work_c_read.proofs.insert.insert.Goals as goal

pub returns-then-not-sound-clause-inserts : goal.returns-then-not-sound-clause-inserts
returns-then-not-sound-clause-inserts g c =
    inl (fails (λ (d : ContextModel). IsSoundIn d c.args.header.now) _ _ c.world.ensures.ctx c.sound.result c.sound.ensures (search rules), refl, refl)

pub returns-in-Err-clause-inserts : goal.returns-in-Err-clause-inserts
returns-in-Err-clause-inserts g c =
    let sound = passes (λ (d : ContextModel). IsSoundIn d c.args.header.now) _ _ c.world.ensures.ctx c.sound.result c.sound.ensures (search rules) in
    let point = insertion_point_of c.args.point.now in
    let place = c.in-Err.ensures ∙ ap (λ (s : Stored). point_place None point s.module_of.tree) c.world-2.ensures.store in
    inr (sound, subst (λ r. InsertsAt g.L.Analysis.meaning c.args.header.now r (Refused c.in-Err.refusal) c.args.bench.now c.args.bench.now) place (refl, refl))

pub returns-clause-inserts : goal.returns-clause-inserts
returns-clause-inserts g c =
    let sound = passes (λ (d : ContextModel). IsSoundIn d c.args.header.now) _ _ c.world.ensures.ctx c.sound.result c.sound.ensures (search rules) in
    let point = insertion_point_of c.args.point.now in
    let place = c.in-Ok.ensures ∙ ap (λ (s : Stored). point_place None point s.module_of.tree) c.world-2.ensures.store in
    inr (sound, subst (λ r. InsertsAt g.L.Analysis.meaning c.args.header.now r (id_reply_of c.make.result) c.args.bench.now c.make.new.self) place c.make.ensures.does)

pub make-requires-clause-sound : goal.make-requires-clause-sound
make-requires-clause-sound g c = passes (λ (d : ContextModel). IsSoundIn d c.args.header.now) _ _ c.world.ensures.ctx c.sound.result c.sound.ensures (search rules)

pub returns-clause-kept : goal.returns-clause-kept
returns-clause-kept g c = c.led_benches_are_kept.ensures.kept _ _ c.make.ensures.led c.requires.kept

pub returns-clause-mode : goal.returns-clause-mode
returns-clause-mode g c = ap (λ (d : ContextModel). d.opaque) c.make.ensures.ctx
