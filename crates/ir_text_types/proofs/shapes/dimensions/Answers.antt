use Rattle.std.proofs.Common.{◌≡◌, ◌++◌, ◌∷◌, [], ◌+◌, true, false, Some, length, ap, arith}
use Rattle.std.proofs.lemmas.List.{length-append}
use Rattle.ir_text_tokens.specs.Tokens.{skip}
use Rattle.ir_text_types.specs.Outcomes.{of_option}
use Rattle.ir_text_types.specs.ShapeGrammar.{begins_dimension}
use Rattle.ir_text_types.specs.ShapeReading.{dimension_at}
use Rattle.ir_text_types.specs.TypeReading.{many}
use Rattle.ir_text_types.proofs.ListSteps.{got}
use Rattle.ir_text_types.proofs.ShapeSteps.{goes_on, ends, no_dimension, last_ends, is_full}
use Rattle.ir_text_types.proofs.shapes.dimensions.Goals as goal

pub returns-then-not-begins_dimension : goal.returns-then-not-begins_dimension
returns-then-not-begins_dimension c =
    let none : begins_dimension (skip c.items.rest.now) ≡ false = cc in
    ap of_option (ends c.items.items.items many c.items.counter c.items.rest.now _ c.items.invariant.reads c.items-test.true none)

pub returns-in-Err : goal.returns-in-Err
returns-in-Err c =
    let begins : begins_dimension (skip c.items.rest.now) ≡ true = cc in
    no_dimension c.items.items.items many c.items.counter c.items.rest.now _ c.items.invariant.reads c.items-test.true c.in-Err.e begins c.in-Err.ensures

pub items-preserved : goal.items-preserved
items-preserved c =
    let begins : begins_dimension (skip c.items.rest.now) ≡ true = cc in
    let item : dimension_at c.items.rest.now ≡ Some (c.in-Ok.found.0, c.in-Ok.found.1.now) = got (dimension_at c.items.rest.now) (c.in-Ok.found.0, c.in-Ok.found.1.now) c.in-Ok.ensures in
    let e : c.push.new.self.items ≡ c.items.items.items ++ c.in-Ok.found.0 ∷ [] = c.in_ok-push.ensures.items in
    let n : length c.push.new.self.items ≡ c.items.counter + 1 = rw c.in_ok-push.ensures.items (omega (arith, c.items.invariant.count, length-append c.items.items.items (c.in-Ok.found.0 ∷ []))) in
    record { reads = rw e (goes_on c.items.items.items many c.items.counter c.items.rest.now _ c.items.invariant.reads c.items-test.true c.in-Ok.found.0 c.in-Ok.found.1.now begins item); count = n }

pub returns-then-begins_dimension : goal.returns-then-begins_dimension
returns-then-begins_dimension c =
    let begins : begins_dimension (skip c.items.rest.now) ≡ true = cc in
    ap of_option (is_full c.items.items.items many c.items.counter c.items.rest.now _ c.items.invariant.reads (omega (arith, c.items-test.false)) begins)

pub returns : goal.returns
returns c =
    let none : begins_dimension (skip c.items.rest.now) ≡ false = cc in
    ap of_option (last_ends c.items.items.items many c.items.counter c.items.rest.now _ c.items.invariant.reads (omega (arith, c.items-test.false)) none)
