use Rattle.std.proofs.Common.{◌≡◌, ◌⊎◌, refl, subst, Err, Ok, Option}
use Rattle.std.specs.Prelude.{Result}
use Rattle.ir_event.specs.types.Things.{ContextModel}
use Rattle.ir_event.specs.types.declared.refusal.Refusal.{Refusal}
use Rattle.ir_event.specs.types.declared.refusal.Refusal.TheVariants.{Memory}
use Rattle.ir_event.specs.trees.Tree.{Op}
use Rattle.rewriter.specs.Points.{Point}
use Rattle.rewriter.specs.RewriterCalls.{id_reply_of}
use Rattle.mlir_work_script_base.specs.InsertionPoints.{insertion_point_of}
use Rattle.mlir_work_c_read.specs.Headers.{header}
use Rattle.mlir_work_c.specs.Numbered.{InsertsOr}
use Rattle.mlir_work_c.specs.Queries.{context_of}
use Rattle.mlir_work_c.specs.declared.session.Session.{Session}
use Rattle.mlir_work_c.proofs.Inserting.{inserted_so, refused_so}
use Rattle.mlir_work_c.proofs.numbered.insert_in.Goals as goal

pub returns-in_default-clause-inserts : goal.returns-in_default-clause-inserts
returns-in_default-clause-inserts c =
    let reported = header (context_of c.args.session.now) c.args.new.now.name c.args.operands.now c.args.results.now c.args.entries.now in
    subst (λ (p : Option Point). InsertsOr p reported c.args.session.now c.refused.result c.args.session.now) c.in_default.ensures (c.refused.ensures, refl)

pub returns-in-Err-clause-inserts : goal.returns-in-Err-clause-inserts
returns-in-Err-clause-inserts c =
    let s = c.args.session.now in
    let point = insertion_point_of c.in-Some.point in
    let reported : ContextModel → Result Op Refusal = λ d. header d c.args.new.now.name c.args.operands.now c.args.results.now c.args.entries.now in
    let fault = subst (λ (d : ContextModel). (c.in-Err.refusal ≡ Memory) ⊎ (reported d ≡ Err c.in-Err.refusal)) c.world.ensures.ctx c.in-Err.ensures.reported in
    subst (λ (p : Option Point). InsertsOr p (reported (context_of s)) s c.refused-in-Err.result s) c.in-Some.ensures (refused_so point (reported (context_of s)) s c.refused-in-Err.result c.in-Err.refusal c.refused-in-Err.ensures fault)

pub returns-in-Ok-clause-inserts : goal.returns-in-Ok-clause-inserts
returns-in-Ok-clause-inserts c =
    let s = c.args.session.now in
    let point = insertion_point_of c.in-Some.point in
    let reported : ContextModel → Result Op Refusal = λ d. header d c.args.new.now.name c.args.operands.now c.args.results.now c.args.entries.now in
    let made = subst (λ (d : ContextModel). reported d ≡ Ok c.in-Ok.header) c.world.ensures.ctx c.in-Ok.ensures.reported in
    let t : Session = record { bench = c.insert.new.bench; registry = s.registry; limit = s.limit; bytes = s.bytes; shows = s.shows } in
    subst (λ (p : Option Point). InsertsOr p (reported (context_of s)) s c.inserted.result t) c.in-Some.ensures
    (inserted_so point (reported (context_of s)) s c.inserted.result c.in-Ok.header (id_reply_of c.insert.result) t made c.insert.ensures.inserts c.inserted.ensures
    (record { registry = refl; limit = refl; counted = refl; shows = refl; mode = c.insert.ensures.mode }))
