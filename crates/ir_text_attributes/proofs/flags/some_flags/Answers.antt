use Rattle.std.proofs.Common.{◌≡◌, ◌++◌, ◌∷◌, [], ◌+◌, Some, None, length, refl, arith}
use Rattle.std.proofs.lemmas.Result.{err_from_is_err_and}
use Rattle.std.proofs.lemmas.List.{length-append}
use Rattle.ir_text_tokens.specs.declared.token.Mark.TheVariants.{Greater, Comma}
use Rattle.ir_text_types.specs.Marks.{after}
use Rattle.ir_text_types.specs.Outcomes.{of_option}
use Rattle.ir_text_types.specs.Typed.{after_typed}
use Rattle.ir_text_types.specs.TypeReading.{many}
use Rattle.ir_text_attributes.specs.AttrReading.{flag_at}
use Rattle.ir_text_types.proofs.ListSteps.{goes_on, closes, no_item, no_comma, is_full, fails_option, got}
use Rattle.ir_text_attributes.proofs.flags.some_flags.Goals as goal

pub returns-in-Err : goal.returns-in-Err
returns-in-Err c = λ k.
    no_item after_typed Greater (λ before. flag_at) c.items.items.items many c.items.counter (c.items.rest.now, k) _ (c.items.invariant.reads k) c.items-test.true c.in-Err.e (c.in-Err.ensures k)

pub returns-in-Some : goal.returns-in-Some
returns-in-Some c = λ k.
    let closed : after_typed Greater (c.in-Ok.found.1.now, k) ≡ Some (c.in-Some.end.now, k) = rw (← c.in-Some.ensures) refl in
    let e : c.push.new.self.items ≡ c.items.items.items ++ c.in-Ok.found.0 ∷ [] = c.in_ok-push.ensures.items in
    rw e (closes after_typed Greater (λ before. flag_at) c.items.items.items many c.items.counter (c.items.rest.now, k) _ (c.items.invariant.reads k) c.items-test.true c.in-Ok.found.0 (c.in-Ok.found.1.now, k) (c.in-Some.end.now, k) (c.in-Ok.ensures k) closed)

pub returns-in_err-rest : goal.returns-in_err-rest
returns-in_err-rest c = λ k.
    let p = err_from_is_err_and c.from_residual-in_err-rest.result c.from_residual-in_err-rest.ensures.1 in
    let going : after_typed Greater (c.in-Ok.found.1.now, k) ≡ None = rw (← c.in_default.ensures) refl in
    rw (p.1, p.2) (no_comma after_typed Greater (λ before. flag_at) c.items.items.items many c.items.counter (c.items.rest.now, k) _ (c.items.invariant.reads k) c.items-test.true c.in_err-rest.field-0.0 c.in-Ok.found.0 (c.in-Ok.found.1.now, k) (c.in-Ok.ensures k) going (fails_option c.in_err-rest.field-0.0 (after Comma c.in-Ok.found.1.now) (of_option (after_typed Comma (c.in-Ok.found.1.now, k))) (λ none. rw none refl) c.in_err-rest.ensures))

pub items-preserved : goal.items-preserved
items-preserved c =
    let e : c.push.new.self.items ≡ c.items.items.items ++ c.in-Ok.found.0 ∷ [] = c.in_ok-push.ensures.items in
    let n : length c.push.new.self.items ≡ c.items.counter + 1 = rw c.in_ok-push.ensures.items (omega (arith, c.items.invariant.count, length-append c.items.items.items (c.in-Ok.found.0 ∷ []))) in
    record {
      reads = λ k.
          let going : after_typed Greater (c.in-Ok.found.1.now, k) ≡ None = rw (← c.in_default.ensures) refl in
          let comma : after_typed Comma (c.in-Ok.found.1.now, k) ≡ Some (c.in_ok-rest.rest.now, k) = rw (got (after Comma c.in-Ok.found.1.now) c.in_ok-rest.rest.now c.in_ok-rest.ensures) refl in
          rw e (goes_on after_typed Greater (λ before. flag_at) c.items.items.items many c.items.counter (c.items.rest.now, k) _ (c.items.invariant.reads k) c.items-test.true c.in-Ok.found.0 (c.in-Ok.found.1.now, k) (c.in_ok-rest.rest.now, k) (c.in-Ok.ensures k) going comma);
      count = n;
    }

pub returns : goal.returns
returns c = λ k. is_full after_typed Greater (λ before. flag_at) c.items.items.items many c.items.counter (c.items.rest.now, k) _ (c.items.invariant.reads k) (omega (arith, c.items-test.false))
