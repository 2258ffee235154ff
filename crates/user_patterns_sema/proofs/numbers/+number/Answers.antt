use Rattle.std.proofs.Common.{sym, map}
use Rattle.user_patterns_text.specs.Parts.{part_view}
use Rattle.user_patterns_sema.specs.Sema.{number_at}
use Rattle.user_patterns_sema.specs.SemaViews.{sema_view, places_view}
use Rattle.user_patterns_sema.proofs.Steps.{gathered_ends, gathered_fails, gathered_more, gives_same}
use Rattle.user_patterns_sema.proofs.NumberSteps.{function_fails, function_applied, function_refused, literal_found, name_found, name_refused, function_found}
use Rattle.user_patterns_sema.proofs.numbers.+number.Goals as goal

pub arguments-returns-in-Some : goal.arguments-returns-in-Some
arguments-returns-in-Some t c =
    gathered_ends (number_at (places_view c.args.places.now) c.args.depth c.args.slot) c.args.headroom c.args.found.now.items (map part_view c.args.parts.now, sema_view c.args.sema.now)
    c.if-headroom-eq0.false _ (sym c.in-Some.ensures)

pub arguments-returns-in-Err : goal.arguments-returns-in-Err
arguments-returns-in-Err t c =
    gathered_fails (number_at (places_view c.args.places.now) c.args.depth c.args.slot) c.args.headroom c.args.found.now.items (map part_view c.args.parts.now, sema_view c.args.sema.now)
    c.if-headroom-eq0.false c.in-Err.e (sym c.in_default.ensures) c.in-Err.ensures

pub arguments-returns-in-Ok-push : goal.arguments-returns-in-Ok-push
arguments-returns-in-Ok-push t c =
    gives_same _ c.arguments.result _ _
    (gathered_more (number_at (places_view c.args.places.now) c.args.depth c.args.slot) c.args.headroom c.args.found.now.items (map part_view c.args.parts.now, sema_view c.args.sema.now)
    c.if-headroom-eq0.false (_, _) _ (sym c.in_default.ensures) c.in-Ok.ensures c.in-Ok-push.ensures.items)
    c.arguments.ensures

pub function-returns-in-Err : goal.function-returns-in-Err
function-returns-in-Err t c = function_fails (places_view c.args.places.now) (number_at (places_view c.args.places.now) c.args.depth c.args.slot) c.args.name.now c.args.slot c.args.at (map part_view c.args.parts.now, sema_view c.args.sema.now) c.new-found.result.items c.new-found.ensures.items c.in-Err.e c.in-Err.ensures

pub function-returns-in-Ok-applied : goal.function-returns-in-Ok-applied
function-returns-in-Ok-applied t c =
    function_applied (places_view c.args.places.now) (number_at (places_view c.args.places.now) c.args.depth c.args.slot) c.args.name.now c.args.slot c.args.at (map part_view c.args.parts.now, sema_view c.args.sema.now) c.new-found.result.items c.new-found.ensures.items _ c.deref.result.now (_, _) c.function_named.result c.in-Ok.ensures c.deref.ensures.value c.function_named.ensures (_, _) c.in-Ok-applied.ensures

pub function-returns : goal.function-returns
function-returns t c =
    function_refused (places_view c.args.places.now) (number_at (places_view c.args.places.now) c.args.depth c.args.slot) c.args.name.now c.args.slot c.args.at (map part_view c.args.parts.now, sema_view c.args.sema.now) c.new-found.result.items c.new-found.ensures.items _ c.deref.result.now (_, _) c.function_named.result c.in-Ok.ensures c.deref.ensures.value c.function_named.ensures c.in-Err-applied.e c.in-Err-applied.ensures

pub analyze_number-returns-in-Ok : goal.analyze_number-returns-in-Ok
analyze_number-returns-in-Ok t c =
    literal_found (places_view c.args.places.now) c.args.slot (sema_view c.args.sema.now) c.args.depth c.args.parts.now _ c.if-depth-eq0.false c.in-len1-up.len_at_least c.in-Literal.negative c.in-Literal.magnitude (_, _) c.in-Literal.is c.in-Ok.ensures

pub analyze_number-returns-in-Ok-of_word : goal.analyze_number-returns-in-Ok-of_word
analyze_number-returns-in-Ok-of_word t c =
    name_found (places_view c.args.places.now) c.args.slot (sema_view c.args.sema.now) c.args.depth c.args.parts.now _ c.if-depth-eq0.false c.in-len1-up.len_at_least c.in-Name.name c.in-Name.is (_, _) c.in-Ok-of_word.ensures

pub analyze_number-returns-in-Err-of_word : goal.analyze_number-returns-in-Err-of_word
analyze_number-returns-in-Err-of_word t c =
    name_refused (places_view c.args.places.now) c.args.slot (sema_view c.args.sema.now) c.args.depth c.args.parts.now _ c.if-depth-eq0.false c.in-len1-up.len_at_least c.in-Name.name c.in-Name.is c.in-Err-of_word.e c.in-Err-of_word.ensures

pub analyze_number-returns-in-Function : goal.analyze_number-returns-in-Function
analyze_number-returns-in-Function t c =
    gives_same _ c.function.result _ _ (function_found (places_view c.args.places.now) c.args.slot (sema_view c.args.sema.now) c.args.depth c.args.parts.now _ c.if-depth-eq0.false c.in-len1-up.len_at_least c.in-Function.name c.in-Function.is) c.function.ensures
