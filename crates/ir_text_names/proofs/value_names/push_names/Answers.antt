use Rattle.std.proofs.Common.{◌≡◌, ◌++◌, ◌∷◌, [], List, map, arith}
use Rattle.std.proofs.lemmas.List.{map_push}
use Rattle.ir_text_tokens.specs.declared.token.Mark.TheVariants.{Equal}
use Rattle.ir_text_types.specs.Marks.{after}
use Rattle.ir_text_types.specs.Outcomes.{Parse}
use Rattle.ir_text_types.proofs.ListSteps.{goes_on, closes, no_item, no_comma, is_full}
use Rattle.ir_text_names.specs.Packs.{Counted, counts, named_view}
use Rattle.ir_text_types.specs.Typed.{Text}
use Rattle.ir_text_names.specs.NameReading.{result_at}
use Rattle.ir_text_names.proofs.Counts.{counts_push, result_fits}
use Rattle.ir_text_names.proofs.value_names.push_names.Goals as goal

abbrev item : List Counted → Parse Text Counted
item before = result_at (counts before)

pub returns-in-Err : goal.returns-in-Err
returns-in-Err c =
    no_item after Equal item (map named_view c.items.items.items) 256 c.items.counter c.items.rest.now _ c.items.invariant.reads c.items-test.true c.in-Err.e (rw c.items.invariant.total c.in-Err.ensures)

pub overflow_add-total : goal.overflow_add-total
overflow_add-total c = omega (arith, result_fits c.items.total c.items.rest.now (named_view c.in-Ok.found.0) c.in-Ok.found.1.now c.in-Ok.ensures)

pub returns-in-Ok-End : goal.returns-in-Ok-End
returns-in-Ok-End c =
    let ends = rw c.in-Ok-End.field-0-is at c.in-Ok-End.ensures in
    let e : map named_view c.push.new.self.items ≡ (map named_view c.items.items.items) ++ named_view c.in-Ok.found.0 ∷ [] = rw c.in_ok-push.ensures.items (map_push _ c.items.items.items _) in
    rw e (closes after Equal item (map named_view c.items.items.items) 256 c.items.counter c.items.rest.now _ c.items.invariant.reads c.items-test.true (named_view c.in-Ok.found.0) c.in-Ok.found.1.now c.in-Ok-End.end.now (rw c.items.invariant.total c.in-Ok.ensures) ends)

pub returns-in-Err-after_item : goal.returns-in-Err-after_item
returns-in-Err-after_item c =
    no_comma after Equal item (map named_view c.items.items.items) 256 c.items.counter c.items.rest.now _ c.items.invariant.reads c.items-test.true c.in-Err-after_item.e (named_view c.in-Ok.found.0) c.in-Ok.found.1.now (rw c.items.invariant.total c.in-Ok.ensures) c.in-Err-after_item.ensures.0 c.in-Err-after_item.ensures.1

pub items-preserved : goal.items-preserved
items-preserved c =
    let more = rw c.in-Ok-More.field-0-is at c.in-Ok-More.ensures in
    let e : map named_view c.push.new.self.items ≡ (map named_view c.items.items.items) ++ named_view c.in-Ok.found.0 ∷ [] = rw c.in_ok-push.ensures.items (map_push _ c.items.items.items _) in
    let fits = result_fits c.items.total c.items.rest.now (named_view c.in-Ok.found.0) c.in-Ok.found.1.now c.in-Ok.ensures in
    record {
      reads = rw e (goes_on after Equal item (map named_view c.items.items.items) 256 c.items.counter c.items.rest.now _ c.items.invariant.reads c.items-test.true (named_view c.in-Ok.found.0) c.in-Ok.found.1.now c.in-Ok-More.more.now (rw c.items.invariant.total c.in-Ok.ensures) more.0 more.1);
      total = rw e (omega (arith, counts_push (map named_view c.items.items.items) (named_view c.in-Ok.found.0), c.items.invariant.total));
      within = omega (arith, fits);
    }

pub returns : goal.returns
returns c =
    is_full after Equal item (map named_view c.items.items.items) 256 c.items.counter c.items.rest.now _ c.items.invariant.reads (omega (arith, c.items-test.false))
