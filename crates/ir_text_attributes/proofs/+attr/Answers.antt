use Rattle.std.proofs.Common.{◌≡◌, ◌++◌, ◌∷◌, [], ◌+◌, Some, None, length, refl, arith}
use Rattle.std.proofs.lemmas.Result.{err_from_is_err_and}
use Rattle.std.proofs.lemmas.List.{length-append}
use Rattle.ir_text_tokens.specs.declared.token.Mark.TheVariants.{CloseCurly, CloseSquare, Comma}
use Rattle.ir_text_types.specs.Marks.{after}
use Rattle.ir_text_types.specs.Outcomes.{of_option}
use Rattle.ir_text_types.specs.Typed.{after_typed}
use Rattle.ir_text_types.specs.TypeReading.{many}
use Rattle.ir_types.proofs.Growth.{grows_trans}
use Rattle.ir_text_types.proofs.ListSteps.{goes_on, closes, no_item, no_comma, is_full, fails_option, got}
use Rattle.ir_text_attributes.specs.AttrReading.{attr_at, entry_by}
use Rattle.ir_text_attributes.specs.AttrGrammar.{IsAttr}
use Rattle.ir_text_attributes.proofs.AttrLaws.{attr_exact}
use Rattle.ir_text_attributes.proofs.PartLaws.{attrs_known, entries_known}
use Rattle.ir_text_attributes.proofs.MarkSteps.{attr_mark}
use Rattle.ir_text_attributes.proofs.+attr.Goals as goal

pub arrays::array-intern_node-requires : goal.arrays::array-intern_node-requires
arrays::array-intern_node-requires t c =
    let k = attrs_known c.args.depth (attr_at c.args.opaque c.args.depth) (IsAttr c.args.opaque c.args.depth) (attr_exact c.args.opaque c.args.depth) c.args.bytes.now _ c.args.ctx.now c.attrs.new.ctx c.in-Ok.found.0.items c.sound.ensures c.in-Ok.ensures.reads in
    rw c.new.ensures k

pub dictionaries::dictionary-intern_node-requires : goal.dictionaries::dictionary-intern_node-requires
dictionaries::dictionary-intern_node-requires t c =
    let k = entries_known c.args.depth (attr_at c.args.opaque c.args.depth) (IsAttr c.args.opaque c.args.depth) (attr_exact c.args.opaque c.args.depth) c.args.bytes.now _ c.args.ctx.now c.entries.new.ctx c.in-Ok.found.0.items c.sound.ensures c.in-Ok.ensures.reads in
    rw c.new.ensures k

pub arrays::attrs-returns-in-Err-clause-reads : goal.arrays::attrs-returns-in-Err-clause-reads
arrays::attrs-returns-in-Err-clause-reads t c = no_item after_typed CloseSquare (λ before. attr_at c.args.opaque c.args.depth) c.items.items.items many c.items.counter (c.items.rest.now, c.items.ctx) _ c.items.invariant.reads c.items-test.true c.in-Err.e c.in-Err.ensures.reads

pub arrays::attrs-returns-in-Some-after-clause-reads : goal.arrays::attrs-returns-in-Some-after-clause-reads
arrays::attrs-returns-in-Some-after-clause-reads t c =
    let k : after_typed CloseSquare (c.in-Ok.found.1.now, c.attr.new.ctx) ≡ Some (c.in-Some-after.end.now, c.attr.new.ctx) = rw (← c.in-Some-after.ensures) refl in
    let e : c.push.new.self.items ≡ c.items.items.items ++ c.in-Ok.found.0 ∷ [] = c.in_ok-push.ensures.items in
    rw e (closes after_typed CloseSquare (λ before. attr_at c.args.opaque c.args.depth) c.items.items.items many c.items.counter (c.items.rest.now, c.items.ctx) _ c.items.invariant.reads c.items-test.true c.in-Ok.found.0 (c.in-Ok.found.1.now, c.attr.new.ctx) (c.in-Some-after.end.now, c.attr.new.ctx) c.in-Ok.ensures.reads k)

pub arrays::attrs-returns-in_err-rest-clause-reads : goal.arrays::attrs-returns-in_err-rest-clause-reads
arrays::attrs-returns-in_err-rest-clause-reads t c =
    let p = err_from_is_err_and c.from_residual-in_err-rest.result c.from_residual-in_err-rest.ensures.1 in
    let k : after_typed CloseSquare (c.in-Ok.found.1.now, c.attr.new.ctx) ≡ None = rw (← c.in_default-after.ensures) refl in
    rw (p.1, p.2) (no_comma after_typed CloseSquare (λ before. attr_at c.args.opaque c.args.depth) c.items.items.items many c.items.counter (c.items.rest.now, c.items.ctx) _ c.items.invariant.reads c.items-test.true c.in_err-rest.field-0.0 c.in-Ok.found.0 (c.in-Ok.found.1.now, c.attr.new.ctx) c.in-Ok.ensures.reads k (fails_option c.in_err-rest.field-0.0 (after Comma c.in-Ok.found.1.now) (of_option (after_typed Comma (c.in-Ok.found.1.now, c.attr.new.ctx))) (λ none. rw none refl) c.in_err-rest.ensures))

pub arrays::attrs-items-preserved : goal.arrays::attrs-items-preserved
arrays::attrs-items-preserved t c =
    let k : after_typed CloseSquare (c.in-Ok.found.1.now, c.attr.new.ctx) ≡ None = rw (← c.in_default-after.ensures) refl in
    let comma : after_typed Comma (c.in-Ok.found.1.now, c.attr.new.ctx) ≡ Some (c.in_ok-rest.rest.now, c.attr.new.ctx) = rw (got (after Comma c.in-Ok.found.1.now) c.in_ok-rest.rest.now c.in_ok-rest.ensures) refl in
    let e : c.push.new.self.items ≡ c.items.items.items ++ c.in-Ok.found.0 ∷ [] = c.in_ok-push.ensures.items in
    let n : length c.push.new.self.items ≡ c.items.counter + 1 = rw c.in_ok-push.ensures.items (omega (arith, c.items.invariant.count, length-append c.items.items.items (c.in-Ok.found.0 ∷ []))) in
    record { reads = rw e (goes_on after_typed CloseSquare (λ before. attr_at c.args.opaque c.args.depth) c.items.items.items many c.items.counter (c.items.rest.now, c.items.ctx) _ c.items.invariant.reads c.items-test.true c.in-Ok.found.0 (c.in-Ok.found.1.now, c.attr.new.ctx) (c.in_ok-rest.rest.now, c.attr.new.ctx) c.in-Ok.ensures.reads k comma); grows = grows_trans c.args.ctx.now c.items.ctx c.attr.new.ctx c.items.invariant.grows c.in-Ok.ensures.grows; count = n }

pub arrays::attrs-returns-clause-reads : goal.arrays::attrs-returns-clause-reads
arrays::attrs-returns-clause-reads t c = is_full after_typed CloseSquare (λ before. attr_at c.args.opaque c.args.depth) c.items.items.items many c.items.counter (c.items.rest.now, c.items.ctx) _ c.items.invariant.reads (omega (arith, c.items-test.false))

pub dictionaries::entries-returns-in-Err-clause-reads : goal.dictionaries::entries-returns-in-Err-clause-reads
dictionaries::entries-returns-in-Err-clause-reads t c = no_item after_typed CloseCurly (entry_by c.args.depth (attr_at c.args.opaque c.args.depth)) c.items.items.items 256 c.items.counter (c.items.rest.now, c.items.ctx) _ c.items.invariant.reads c.items-test.true c.in-Err.e (rw c.deref.ensures.value at c.in-Err.ensures.reads)

pub dictionaries::entries-returns-in-Some-after-clause-reads : goal.dictionaries::entries-returns-in-Some-after-clause-reads
dictionaries::entries-returns-in-Some-after-clause-reads t c =
    let k : after_typed CloseCurly (c.in-Ok.found.1.now, c.entry.new.ctx) ≡ Some (c.in-Some-after.end.now, c.entry.new.ctx) = rw (← c.in-Some-after.ensures) refl in
    let e : c.push.new.self.items ≡ c.items.items.items ++ c.in-Ok.found.0 ∷ [] = c.in_ok-push.ensures.items in
    rw e (closes after_typed CloseCurly (entry_by c.args.depth (attr_at c.args.opaque c.args.depth)) c.items.items.items 256 c.items.counter (c.items.rest.now, c.items.ctx) _ c.items.invariant.reads c.items-test.true c.in-Ok.found.0 (c.in-Ok.found.1.now, c.entry.new.ctx) (c.in-Some-after.end.now, c.entry.new.ctx) (rw c.deref.ensures.value at c.in-Ok.ensures.reads) k)

pub dictionaries::entries-returns-in_err-rest-clause-reads : goal.dictionaries::entries-returns-in_err-rest-clause-reads
dictionaries::entries-returns-in_err-rest-clause-reads t c =
    let p = err_from_is_err_and c.from_residual-in_err-rest.result c.from_residual-in_err-rest.ensures.1 in
    let k : after_typed CloseCurly (c.in-Ok.found.1.now, c.entry.new.ctx) ≡ None = rw (← c.in_default-after.ensures) refl in
    rw (p.1, p.2) (no_comma after_typed CloseCurly (entry_by c.args.depth (attr_at c.args.opaque c.args.depth)) c.items.items.items 256 c.items.counter (c.items.rest.now, c.items.ctx) _ c.items.invariant.reads c.items-test.true c.in_err-rest.field-0.0 c.in-Ok.found.0 (c.in-Ok.found.1.now, c.entry.new.ctx) (rw c.deref.ensures.value at c.in-Ok.ensures.reads) k (fails_option c.in_err-rest.field-0.0 (after Comma c.in-Ok.found.1.now) (of_option (after_typed Comma (c.in-Ok.found.1.now, c.entry.new.ctx))) (λ none. rw none refl) c.in_err-rest.ensures))

pub dictionaries::entries-items-preserved : goal.dictionaries::entries-items-preserved
dictionaries::entries-items-preserved t c =
    let k : after_typed CloseCurly (c.in-Ok.found.1.now, c.entry.new.ctx) ≡ None = rw (← c.in_default-after.ensures) refl in
    let comma : after_typed Comma (c.in-Ok.found.1.now, c.entry.new.ctx) ≡ Some (c.in_ok-rest.rest.now, c.entry.new.ctx) = rw (got (after Comma c.in-Ok.found.1.now) c.in_ok-rest.rest.now c.in_ok-rest.ensures) refl in
    let e : c.push.new.self.items ≡ c.items.items.items ++ c.in-Ok.found.0 ∷ [] = c.in_ok-push.ensures.items in
    let n : length c.push.new.self.items ≡ c.items.counter + 1 = rw c.in_ok-push.ensures.items (omega (arith, c.items.invariant.count, length-append c.items.items.items (c.in-Ok.found.0 ∷ []))) in
    record { reads = rw e (goes_on after_typed CloseCurly (entry_by c.args.depth (attr_at c.args.opaque c.args.depth)) c.items.items.items 256 c.items.counter (c.items.rest.now, c.items.ctx) _ c.items.invariant.reads c.items-test.true c.in-Ok.found.0 (c.in-Ok.found.1.now, c.entry.new.ctx) (c.in_ok-rest.rest.now, c.entry.new.ctx) (rw c.deref.ensures.value at c.in-Ok.ensures.reads) k comma); grows = grows_trans c.args.ctx.now c.items.ctx c.entry.new.ctx c.items.invariant.grows c.in-Ok.ensures.grows; count = n }

pub dictionaries::entries-returns-clause-reads : goal.dictionaries::entries-returns-clause-reads
dictionaries::entries-returns-clause-reads t c = is_full after_typed CloseCurly (entry_by c.args.depth (attr_at c.args.opaque c.args.depth)) c.items.items.items 256 c.items.counter (c.items.rest.now, c.items.ctx) _ c.items.invariant.reads (omega (arith, c.items-test.false))

pub attributes::attr-returns-in-Mark-clause-reads : goal.attributes::attr-returns-in-Mark-clause-reads
attributes::attr-returns-in-Mark-clause-reads t c =
    let e = attr_mark c.args.opaque c.args.depth c.args.bytes.now c.in_ok-found.rest.now c.args.ctx.now c.in-Mark.mark (omega (arith, c.if-depth-eq0.false)) (rw c.in-Mark.is at c.in_ok-found.ensures) in
    rw e c.mark_attr.ensures.reads

pub attributes::attr-returns-in-Symbol-clause-grows : goal.attributes::attr-returns-in-Symbol-clause-grows
attributes::attr-returns-in-Symbol-clause-grows t c = c.symbol.ensures.grows

pub attributes::attr-returns-in-Quoted-clause-grows : goal.attributes::attr-returns-in-Quoted-clause-grows
attributes::attr-returns-in-Quoted-clause-grows t c = c.symbol-in-Quoted.ensures.grows

pub attributes::mark_attr-returns-in-Minus-clause-grows : goal.attributes::mark_attr-returns-in-Minus-clause-grows
attributes::mark_attr-returns-in-Minus-clause-grows t c = c.negative.ensures.grows

pub attributes::mark_attr-returns-in-OpenSquare-clause-grows : goal.attributes::mark_attr-returns-in-OpenSquare-clause-grows
attributes::mark_attr-returns-in-OpenSquare-clause-grows t c = c.array.ensures.grows

pub attributes::mark_attr-returns-in-OpenCurly-clause-grows : goal.attributes::mark_attr-returns-in-OpenCurly-clause-grows
attributes::mark_attr-returns-in-OpenCurly-clause-grows t c = c.dictionary.ensures.grows

pub dictionaries::entries-returns-clause-grows : goal.dictionaries::entries-returns-clause-grows
dictionaries::entries-returns-clause-grows t c = grows_trans c.args.ctx.now c.items.ctx c.past_fault.new.ctx c.items.invariant.grows c.past_fault.ensures

pub arrays::attrs-returns-in-Err-clause-grows : goal.arrays::attrs-returns-in-Err-clause-grows
arrays::attrs-returns-in-Err-clause-grows t c = grows_trans c.args.ctx.now c.items.ctx c.attr.new.ctx c.items.invariant.grows c.in-Err.ensures.grows

pub arrays::attrs-returns-in_err-push-clause-grows : goal.arrays::attrs-returns-in_err-push-clause-grows
arrays::attrs-returns-in_err-push-clause-grows t c = grows_trans c.args.ctx.now c.items.ctx c.attr.new.ctx c.items.invariant.grows c.in-Ok.ensures.grows

pub arrays::attrs-returns-in-Some-after-clause-grows : goal.arrays::attrs-returns-in-Some-after-clause-grows
arrays::attrs-returns-in-Some-after-clause-grows t c = grows_trans c.args.ctx.now c.items.ctx c.attr.new.ctx c.items.invariant.grows c.in-Ok.ensures.grows

pub arrays::attrs-returns-in_err-rest-clause-grows : goal.arrays::attrs-returns-in_err-rest-clause-grows
arrays::attrs-returns-in_err-rest-clause-grows t c = grows_trans c.args.ctx.now c.items.ctx c.attr.new.ctx c.items.invariant.grows c.in-Ok.ensures.grows

pub dictionaries::entries-returns-in-Err-clause-grows : goal.dictionaries::entries-returns-in-Err-clause-grows
dictionaries::entries-returns-in-Err-clause-grows t c = grows_trans c.args.ctx.now c.items.ctx c.entry.new.ctx c.items.invariant.grows c.in-Err.ensures.grows

pub dictionaries::entries-returns-in_err-push-clause-grows : goal.dictionaries::entries-returns-in_err-push-clause-grows
dictionaries::entries-returns-in_err-push-clause-grows t c = grows_trans c.args.ctx.now c.items.ctx c.entry.new.ctx c.items.invariant.grows c.in-Ok.ensures.grows

pub dictionaries::entries-returns-in-Some-after-clause-grows : goal.dictionaries::entries-returns-in-Some-after-clause-grows
dictionaries::entries-returns-in-Some-after-clause-grows t c = grows_trans c.args.ctx.now c.items.ctx c.entry.new.ctx c.items.invariant.grows c.in-Ok.ensures.grows

pub dictionaries::entries-returns-in_err-rest-clause-grows : goal.dictionaries::entries-returns-in_err-rest-clause-grows
dictionaries::entries-returns-in_err-rest-clause-grows t c = grows_trans c.args.ctx.now c.items.ctx c.entry.new.ctx c.items.invariant.grows c.in-Ok.ensures.grows
