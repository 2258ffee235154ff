use Rattle.std.proofs.Common.{◌≡◌, ◌++◌, ◌∷◌, [], ◌+◌, Some, None, length, refl, arith}
use Rattle.std.proofs.lemmas.List.{length-append}
use Rattle.ir_text_tokens.specs.declared.token.Mark.TheVariants.{DoubleColon}
use Rattle.ir_text_types.specs.Typed.{after_typed}
use Rattle.ir_text_types.specs.TypeReading.{many}
use Rattle.ir_types.proofs.Growth.{grows_trans}
use Rattle.ir_text_attributes.proofs.PartSteps.{goes_on, ends, no_part, is_full}
use Rattle.ir_text_attributes.proofs.symbols.parts.Goals as goal

pub returns-in-Err-clause-reads : goal.returns-in-Err-clause-reads
returns-in-Err-clause-reads c = no_part c.items.items.items many c.items.counter (c.items.rest.now, c.items.ctx) _ c.items.invariant.reads c.items-test.true c.in-Err.e c.in-Err.ensures.reads

pub returns-in_default-clause-reads : goal.returns-in_default-clause-reads
returns-in_default-clause-reads c =
    let k : after_typed DoubleColon (c.in-Ok.found.1.now, c.part.new.ctx) ≡ None = rw (← c.in_default.ensures) refl in
    let e : c.push.new.self.items ≡ c.items.items.items ++ c.in-Ok.found.0 ∷ [] = c.in_ok-push.ensures.items in
    rw e (ends c.items.items.items many c.items.counter (c.items.rest.now, c.items.ctx) _ c.items.invariant.reads c.items-test.true c.in-Ok.found.0 (c.in-Ok.found.1.now, c.part.new.ctx) c.in-Ok.ensures.reads k)

pub items-preserved : goal.items-preserved
items-preserved c =
    let k : after_typed DoubleColon (c.in-Ok.found.1.now, c.part.new.ctx) ≡ Some (c.in-Some.next.now, c.part.new.ctx) = rw (← c.in-Some.ensures) refl in
    let e : c.push.new.self.items ≡ c.items.items.items ++ c.in-Ok.found.0 ∷ [] = c.in_ok-push.ensures.items in
    let n : length c.push.new.self.items ≡ c.items.counter + 1 = rw c.in_ok-push.ensures.items (omega (arith, c.items.invariant.count, length-append c.items.items.items (c.in-Ok.found.0 ∷ []))) in
    record {
      reads = rw e (goes_on c.items.items.items many c.items.counter (c.items.rest.now, c.items.ctx) _ c.items.invariant.reads c.items-test.true c.in-Ok.found.0 (c.in-Ok.found.1.now, c.part.new.ctx) (c.in-Some.next.now, c.part.new.ctx) c.in-Ok.ensures.reads k);
      grows = grows_trans c.args.ctx.now c.items.ctx c.part.new.ctx c.items.invariant.grows c.in-Ok.ensures.grows;
      count = n;
    }

pub returns-clause-reads : goal.returns-clause-reads
returns-clause-reads c = is_full c.items.items.items many c.items.counter (c.items.rest.now, c.items.ctx) _ c.items.invariant.reads (omega (arith, c.items-test.false))

pub returns-in-Err-clause-grows : goal.returns-in-Err-clause-grows
returns-in-Err-clause-grows c = grows_trans c.args.ctx.now c.items.ctx c.part.new.ctx c.items.invariant.grows c.in-Err.ensures.grows

pub returns-in_err-push-clause-grows : goal.returns-in_err-push-clause-grows
returns-in_err-push-clause-grows c = grows_trans c.args.ctx.now c.items.ctx c.part.new.ctx c.items.invariant.grows c.in-Ok.ensures.grows

pub returns-in_default-clause-grows : goal.returns-in_default-clause-grows
returns-in_default-clause-grows c = grows_trans c.args.ctx.now c.items.ctx c.part.new.ctx c.items.invariant.grows c.in-Ok.ensures.grows
