use Rattle.std.proofs.Common.{sym, map, option_map}
use Rattle.user_patterns_text.specs.Parts.{bytes_of, part_view}
use Rattle.user_patterns_sema.specs.Sema.{term_at}
use Rattle.user_patterns_sema.specs.SemaViews.{sema_view, places_view}
use Rattle.user_patterns_sema.proofs.Steps.{gathered_ends, gathered_fails, gathered_more, gives_same}
use Rattle.user_patterns_sema.proofs.TermSteps.{operation_fails, operation_closed, operation_refused, operation_typed, type_fails, value_found, operation_found}
use Rattle.user_patterns_sema.proofs.terms.+term.Goals as goal

pub operands-returns-in-Some : goal.operands-returns-in-Some
operands-returns-in-Some t c =
    gathered_ends (term_at (places_view c.args.places.now) c.args.left c.args.depth) c.args.headroom c.args.found.now.items (map part_view c.args.parts.now, sema_view c.args.sema.now)
    c.if-headroom-eq0.false _ (sym c.in-Some.ensures)

pub operands-returns-in-Err : goal.operands-returns-in-Err
operands-returns-in-Err t c =
    gathered_fails (term_at (places_view c.args.places.now) c.args.left c.args.depth) c.args.headroom c.args.found.now.items (map part_view c.args.parts.now, sema_view c.args.sema.now)
    c.if-headroom-eq0.false c.in-Err.e (sym c.in_default.ensures) c.in-Err.ensures

pub operands-returns-in-Ok-push : goal.operands-returns-in-Ok-push
operands-returns-in-Ok-push t c =
    gives_same _ c.operands.result _ _
    (gathered_more (term_at (places_view c.args.places.now) c.args.left c.args.depth) c.args.headroom c.args.found.now.items (map part_view c.args.parts.now, sema_view c.args.sema.now)
    c.if-headroom-eq0.false (_, _) _ (sym c.in_default.ensures) c.in-Ok.ensures c.in-Ok-push.ensures.items)
    c.operands.ensures

pub operation-returns-in-Err-operands : goal.operation-returns-in-Err-operands
operation-returns-in-Err-operands t c = operation_fails (places_view c.args.places.now) (term_at (places_view c.args.places.now) c.args.left c.args.depth) c.args.left c.args.at c.args.name.now (option_map bytes_of c.args.asks) (map part_view c.args.parts.now, sema_view c.args.sema.now) c.in-Ok.slot _ c.new-entries.result.items c.new-entries.ensures.items c.in-Ok.ensures.slot c.in-Ok.ensures.begun c.in-Err-operands.e c.in-Err-operands.ensures

pub operation-returns-in-Ok-closed : goal.operation-returns-in-Ok-closed
operation-returns-in-Ok-closed t c =
    operation_closed (places_view c.args.places.now) (term_at (places_view c.args.places.now) c.args.left c.args.depth) c.args.left c.args.at c.args.name.now (option_map bytes_of c.args.asks) (map part_view c.args.parts.now, sema_view c.args.sema.now) c.in-Ok.slot _ c.new-entries.result.items c.new-entries.ensures.items c.in-Ok.ensures.slot c.in-Ok.ensures.begun _ c.deref.result.now (_, _) c.in-Ok-operands.ensures c.deref.ensures.value (_, _) c.in-Ok-closed.ensures

pub operation-returns : goal.operation-returns
operation-returns t c =
    operation_refused (places_view c.args.places.now) (term_at (places_view c.args.places.now) c.args.left c.args.depth) c.args.left c.args.at c.args.name.now (option_map bytes_of c.args.asks) (map part_view c.args.parts.now, sema_view c.args.sema.now) c.in-Ok.slot _ c.new-entries.result.items c.new-entries.ensures.items c.in-Ok.ensures.slot c.in-Ok.ensures.begun _ c.deref.result.now (_, _) c.in-Ok-operands.ensures c.deref.ensures.value c.in-Err-closed.e c.in-Err-closed.ensures

pub typed_operation-returns-in-Ok : goal.typed_operation-returns-in-Ok
typed_operation-returns-in-Ok t c =
    gives_same _ c.typed_entry.result _ _ (operation_typed (places_view c.args.places.now) (term_at (places_view c.args.places.now) c.args.left c.args.depth) c.args.left c.args.at c.args.name.now (option_map bytes_of c.args.asks) (map part_view c.args.parts.now, sema_view c.args.sema.now) (_, _) c.in-Ok.ensures) c.typed_entry.ensures

pub typed_operation-returns-in-Err : goal.typed_operation-returns-in-Err
typed_operation-returns-in-Err t c = type_fails (places_view c.args.places.now) (term_at (places_view c.args.places.now) c.args.left c.args.depth) c.args.left c.args.at c.args.name.now (option_map bytes_of c.args.asks) (map part_view c.args.parts.now, sema_view c.args.sema.now) c.in-Err.e c.in-Err.ensures

pub term-returns-in-Value : goal.term-returns-in-Value
term-returns-in-Value t c =
    gives_same _ c.value_at.result _ _ (value_found (places_view c.args.places.now) c.args.left (sema_view c.args.sema.now) c.args.depth c.args.parts.now _ c.if-depth-eq0.false c.in-len1-up.len_at_least c.in-Value.name c.in-Value.is) c.value_at.ensures

pub term-returns-in-Operation : goal.term-returns-in-Operation
term-returns-in-Operation t c =
    gives_same _ c.typed_operation.result _ _ (operation_found (places_view c.args.places.now) c.args.left (sema_view c.args.sema.now) c.args.depth c.args.parts.now _ c.if-depth-eq0.false c.in-len1-up.len_at_least c.in-Operation.name c.in-Operation.asks c.in-Operation.is) c.typed_operation.ensures
