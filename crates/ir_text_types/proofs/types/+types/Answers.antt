use Rattle.std.proofs.Common.{◌≡◌, ◌++◌, ◌∷◌, [], ◌+◌, Some, None, length, refl, arith}
use Rattle.std.proofs.lemmas.Result.{err_from_is_err_and}
use Rattle.std.proofs.lemmas.List.{length-append}
use Rattle.ir_text_tokens.specs.declared.token.Mark.TheVariants.{CloseRound, Comma}
use Rattle.ir_text_types.specs.Marks.{after}
use Rattle.ir_text_types.specs.Outcomes.{of_option}
use Rattle.ir_text_types.specs.Typed.{after_typed}
use Rattle.ir_text_types.specs.TypeReading.{type_at, many}
use Rattle.ir_text_types.proofs.ListSteps.{goes_on, closes, no_item, no_comma, is_full, fails_option, got}
use Rattle.ir_types.proofs.Growth.{grows_trans}
use Rattle.ir_text_types.proofs.Known.{signature_known}
use Rattle.ir_text_types.proofs.types.+types.Goals as goal

pub function-intern_node-requires : goal.function-intern_node-requires
function-intern_node-requires t c =
    let k = signature_known c.args.opaque c.args.depth many c.args.bytes.now _ c.args.ctx.now c.signature.new.ctx (c.in-Ok.found.0.0.items, c.in-Ok.found.0.1.items) c.sound.ensures c.in-Ok.ensures.reads in
    rw (c.new.ensures, c.new-2.ensures) k

pub types-returns-in-Err-clause-reads : goal.types-returns-in-Err-clause-reads
types-returns-in-Err-clause-reads t c =
    no_item after_typed CloseRound (λ before. type_at c.args.opaque c.args.depth) c.items.items.items c.args.headroom c.items.counter (c.items.rest.now, c.items.ctx) _ c.items.invariant.reads c.items-test.true c.in-Err.e c.in-Err.ensures.reads

pub types-returns-in-Some-after-clause-reads : goal.types-returns-in-Some-after-clause-reads
types-returns-in-Some-after-clause-reads t c =
    let k : after_typed CloseRound (c.in-Ok.found.1.now, c.ty.new.ctx) ≡ Some (c.in-Some-after.end.now, c.ty.new.ctx) = rw (← c.in-Some-after.ensures) refl in
    let e : c.push.new.self.items ≡ c.items.items.items ++ c.in-Ok.found.0 ∷ [] = c.in_ok-push.ensures.items in
    rw e (closes after_typed CloseRound (λ before. type_at c.args.opaque c.args.depth) c.items.items.items c.args.headroom c.items.counter (c.items.rest.now, c.items.ctx) _ c.items.invariant.reads c.items-test.true c.in-Ok.found.0 (c.in-Ok.found.1.now, c.ty.new.ctx) (c.in-Some-after.end.now, c.ty.new.ctx) c.in-Ok.ensures.reads k)

pub types-returns-in_err-rest-clause-reads : goal.types-returns-in_err-rest-clause-reads
types-returns-in_err-rest-clause-reads t c =
    let p = err_from_is_err_and c.from_residual-in_err-rest.result c.from_residual-in_err-rest.ensures.1 in
    let k : after_typed CloseRound (c.in-Ok.found.1.now, c.ty.new.ctx) ≡ None = rw (← c.in_default-after.ensures) refl in
    rw (p.1, p.2) (no_comma after_typed CloseRound (λ before. type_at c.args.opaque c.args.depth) c.items.items.items c.args.headroom c.items.counter (c.items.rest.now, c.items.ctx) _ c.items.invariant.reads c.items-test.true c.in_err-rest.field-0.0 c.in-Ok.found.0 (c.in-Ok.found.1.now, c.ty.new.ctx) c.in-Ok.ensures.reads k (fails_option c.in_err-rest.field-0.0 (after Comma c.in-Ok.found.1.now) (of_option (after_typed Comma (c.in-Ok.found.1.now, c.ty.new.ctx))) (λ none. rw none refl) c.in_err-rest.ensures))

pub types-items-preserved : goal.types-items-preserved
types-items-preserved t c =
    let k : after_typed CloseRound (c.in-Ok.found.1.now, c.ty.new.ctx) ≡ None = rw (← c.in_default-after.ensures) refl in
    let comma : after_typed Comma (c.in-Ok.found.1.now, c.ty.new.ctx) ≡ Some (c.in_ok-rest.rest.now, c.ty.new.ctx) = rw (got (after Comma c.in-Ok.found.1.now) c.in_ok-rest.rest.now c.in_ok-rest.ensures) refl in
    let e : c.push.new.self.items ≡ c.items.items.items ++ c.in-Ok.found.0 ∷ [] = c.in_ok-push.ensures.items in
    let n : length c.push.new.self.items ≡ c.items.counter + 1 = rw c.in_ok-push.ensures.items (omega (arith, c.items.invariant.count, length-append c.items.items.items (c.in-Ok.found.0 ∷ []))) in
    record { reads = rw e (goes_on after_typed CloseRound (λ before. type_at c.args.opaque c.args.depth) c.items.items.items c.args.headroom c.items.counter (c.items.rest.now, c.items.ctx) _ c.items.invariant.reads c.items-test.true c.in-Ok.found.0 (c.in-Ok.found.1.now, c.ty.new.ctx) (c.in_ok-rest.rest.now, c.ty.new.ctx) c.in-Ok.ensures.reads k comma); grows = grows_trans c.args.ctx.now c.items.ctx c.ty.new.ctx c.items.invariant.grows c.in-Ok.ensures.grows; count = n }

pub types-returns-clause-reads : goal.types-returns-clause-reads
types-returns-clause-reads t c = is_full after_typed CloseRound (λ before. type_at c.args.opaque c.args.depth) c.items.items.items c.args.headroom c.items.counter (c.items.rest.now, c.items.ctx) _ c.items.invariant.reads (omega (arith, c.items-test.false))
