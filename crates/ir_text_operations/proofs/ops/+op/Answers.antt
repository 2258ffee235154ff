use Rattle.std.proofs.Common.{◌≡◌, ◌++◌, ◌∷◌, [], ◌+◌, Some, None, length, map, refl, ◌∙◌, arith}
use Rattle.std.specs.Prelude.{option_map}
use Rattle.std.proofs.lemmas.List.{map_push, length-append, length-map}
use Rattle.ir_text_tokens.specs.declared.token.Mark.TheVariants.{CloseRound, CloseCurly, Comma}
use Rattle.ir_tree.specs.View.{region_view}
use Rattle.ir_text_types.specs.Marks.{after}
use Rattle.ir_text_types.specs.Outcomes.{of_option}
use Rattle.ir_types.proofs.Growth.{grows_trans}
use Rattle.ir_text_types.proofs.ListSteps.{goes_on, closes, no_item, no_comma, is_full, fails_option}
use Rattle.ir_tree.specs.Limits.{most_ops}
use Rattle.ir_text_operations.specs.Free.{free_bound}
use Rattle.ir_text_names.specs.States.{after_in, state_of}
use Rattle.ir_text_operations.specs.OpReading.{region_at, op_at, ops_at}
use Rattle.ir_text_operations.proofs.OpParts.{no_head, no_ops, region_read, no_opening, no_regions, tail_left, too_deep, too_many, goes_in}
use Rattle.ir_text_operations.proofs.OpSteps as one
use Rattle.ir_text_operations.proofs.ops.+op.Goals as goal

pub ops-returns-in-Some-clause-reads : goal.ops-returns-in-Some-clause-reads
ops-returns-in-Some-clause-reads g t c =
    let k : after_in c.args.close (state_of c.items.rest.now c.items.scope c.items.ctx) ≡ Some (state_of c.in-Some.end.now c.items.scope c.items.ctx) = rw (← c.in-Some.ensures) refl in
    rw c.shrink_to_fit.ensures.items (one.closes c.args.close (op_at (free_bound (g.O.Outer.types c.args.around.now.outer.now)) c.args.around.now.last c.args.depth) c.items.items.items most_ops c.items.counter (state_of c.items.rest.now c.items.scope c.items.ctx) _ c.items.invariant.reads c.items-test.true (state_of c.in-Some.end.now c.items.scope c.items.ctx) k)

pub ops-returns-in-Err-clause-reads : goal.ops-returns-in-Err-clause-reads
ops-returns-in-Err-clause-reads g t c =
    let k : after_in c.args.close (state_of c.items.rest.now c.items.scope c.items.ctx) ≡ None = rw (← c.in_default.ensures) refl in
    one.no_item c.args.close (op_at (free_bound (g.O.Outer.types c.args.around.now.outer.now)) c.args.around.now.last c.args.depth) c.items.items.items most_ops c.items.counter (state_of c.items.rest.now c.items.scope c.items.ctx) _ c.items.invariant.reads c.items-test.true c.in-Err.e k c.in-Err.ensures.reads

pub ops-items-preserved : goal.ops-items-preserved
ops-items-preserved g t c =
    let k : after_in c.args.close (state_of c.items.rest.now c.items.scope c.items.ctx) ≡ None = rw (← c.in_default.ensures) refl in
    record { reads = rw c.in_ok-push.ensures.items (one.goes_on c.args.close (op_at (free_bound (g.O.Outer.types c.args.around.now.outer.now)) c.args.around.now.last c.args.depth) c.items.items.items most_ops c.items.counter (state_of c.items.rest.now c.items.scope c.items.ctx) _ c.items.invariant.reads c.items-test.true c.in-Ok.found.0 (state_of c.in-Ok.found.1.now c.op.new.scope c.op.new.ctx) k c.in-Ok.ensures.reads); grows = grows_trans c.args.ctx.now c.items.ctx c.op.new.ctx c.items.invariant.grows c.in-Ok.ensures.grows }

pub ops-returns-clause-reads : goal.ops-returns-clause-reads
ops-returns-clause-reads g t c = one.is_full c.args.close (op_at (free_bound (g.O.Outer.types c.args.around.now.outer.now)) c.args.around.now.last c.args.depth) c.items.items.items most_ops c.items.counter (state_of c.items.rest.now c.items.scope c.items.ctx) _ c.items.invariant.reads (omega (arith, c.items-test.false))

pub regions-returns-in-Err-clause-reads : goal.regions-returns-in-Err-clause-reads
regions-returns-in-Err-clause-reads g t c =
    let ens = c.in-Err.ensures.reads (map region_view c.items.items.items) (length-map c.items.items.items region_view ∙ c.items.invariant.count) in
    no_item after_in CloseRound (region_at (ops_at CloseCurly (op_at (free_bound (g.O.Outer.types c.args.around.now.outer.now)) c.args.around.now.last c.args.depth) most_ops []) c.args.id c.args.isolated) (map region_view c.items.items.items) 16 c.items.count (state_of c.items.rest.now c.items.scope c.items.ctx) _ c.items.invariant.reads c.items-test.true c.in-Err.e ens

pub regions-returns-in-Ok-End-clause-reads : goal.regions-returns-in-Ok-End-clause-reads
regions-returns-in-Ok-End-clause-reads g t c =
    let ends = rw c.in-Ok-End.field-0-is at c.in-Ok-End.ensures in
    let e : map region_view c.shrink_to_fit.new.self.items ≡ (map region_view c.items.items.items) ++ (region_view c.in-Ok.found.0) ∷ [] = rw (c.shrink_to_fit.ensures.items, c.in_ok-push.ensures.items) (map_push _ c.items.items.items _) in
    let ens = c.in-Ok.ensures.reads (map region_view c.items.items.items) (length-map c.items.items.items region_view ∙ c.items.invariant.count) in
    rw e (closes after_in CloseRound (region_at (ops_at CloseCurly (op_at (free_bound (g.O.Outer.types c.args.around.now.outer.now)) c.args.around.now.last c.args.depth) most_ops []) c.args.id c.args.isolated) (map region_view c.items.items.items) 16 c.items.count (state_of c.items.rest.now c.items.scope c.items.ctx) _ c.items.invariant.reads c.items-test.true (region_view c.in-Ok.found.0) (state_of c.in-Ok.found.1.now c.region.new.scope c.region.new.ctx) (state_of c.in-Ok-End.end.now c.region.new.scope c.region.new.ctx) ens (rw ends refl))

pub regions-returns-in-Err-after_item-clause-reads : goal.regions-returns-in-Err-after_item-clause-reads
regions-returns-in-Err-after_item-clause-reads g t c =
    let going = c.in-Err-after_item.ensures.0 in
    let ens = c.in-Ok.ensures.reads (map region_view c.items.items.items) (length-map c.items.items.items region_view ∙ c.items.invariant.count) in
    no_comma after_in CloseRound (region_at (ops_at CloseCurly (op_at (free_bound (g.O.Outer.types c.args.around.now.outer.now)) c.args.around.now.last c.args.depth) most_ops []) c.args.id c.args.isolated) (map region_view c.items.items.items) 16 c.items.count (state_of c.items.rest.now c.items.scope c.items.ctx) _ c.items.invariant.reads c.items-test.true c.in-Err-after_item.e (region_view c.in-Ok.found.0) (state_of c.in-Ok.found.1.now c.region.new.scope c.region.new.ctx) ens (rw going refl) (fails_option c.in-Err-after_item.e (after Comma c.in-Ok.found.1.now) (of_option (after_in Comma (state_of c.in-Ok.found.1.now c.region.new.scope c.region.new.ctx))) (λ none. rw none refl) c.in-Err-after_item.ensures.1)

pub regions-items-preserved : goal.regions-items-preserved
regions-items-preserved g t c =
    let more = rw c.in-Ok-More.field-0-is at c.in-Ok-More.ensures in
    let going = more.0 in
    let comma = more.1 in
    let e : map region_view c.push.new.self.items ≡ (map region_view c.items.items.items) ++ (region_view c.in-Ok.found.0) ∷ [] = rw c.in_ok-push.ensures.items (map_push _ c.items.items.items _) in
    let ens = c.in-Ok.ensures.reads (map region_view c.items.items.items) (length-map c.items.items.items region_view ∙ c.items.invariant.count) in
    let n : length c.push.new.self.items ≡ c.items.count + 1 = rw c.in_ok-push.ensures.items (omega (arith, c.items.invariant.count, length-append c.items.items.items (c.in-Ok.found.0 ∷ []))) in
    record { reads = rw e (goes_on after_in CloseRound (region_at (ops_at CloseCurly (op_at (free_bound (g.O.Outer.types c.args.around.now.outer.now)) c.args.around.now.last c.args.depth) most_ops []) c.args.id c.args.isolated) (map region_view c.items.items.items) 16 c.items.count (state_of c.items.rest.now c.items.scope c.items.ctx) _ c.items.invariant.reads c.items-test.true (region_view c.in-Ok.found.0) (state_of c.in-Ok.found.1.now c.region.new.scope c.region.new.ctx) (state_of c.in-Ok-More.more.now c.region.new.scope c.region.new.ctx) ens (rw going refl) (rw comma refl)); grows = grows_trans c.args.ctx.now c.items.ctx c.region.new.ctx c.items.invariant.grows c.in-Ok.ensures.grows; count = n }

pub regions-returns-clause-reads : goal.regions-returns-clause-reads
regions-returns-clause-reads g t c = is_full after_in CloseRound (region_at (ops_at CloseCurly (op_at (free_bound (g.O.Outer.types c.args.around.now.outer.now)) c.args.around.now.last c.args.depth) most_ops []) c.args.id c.args.isolated) (map region_view c.items.items.items) 16 c.items.count (state_of c.items.rest.now c.items.scope c.items.ctx) _ c.items.invariant.reads (omega (arith, c.items-test.false))

pub region-returns-in-Err-clause-reads : goal.region-returns-in-Err-clause-reads
region-returns-in-Err-clause-reads g t c = λ before n. no_head (ops_at CloseCurly (op_at (free_bound (g.O.Outer.types c.args.around.now.outer.now)) c.args.around.now.last c.args.depth) most_ops []) c.args.id c.args.isolated before (state_of c.args.bytes.now c.args.scope.now c.args.ctx.now) c.in-Err.e (rw n c.in-Err.ensures.reads)

pub region-returns-in-Err-ops-clause-reads : goal.region-returns-in-Err-ops-clause-reads
region-returns-in-Err-ops-clause-reads g t c = λ before n. no_ops (ops_at CloseCurly (op_at (free_bound (g.O.Outer.types c.args.around.now.outer.now)) c.args.around.now.last c.args.depth) most_ops []) c.args.id c.args.isolated before (state_of c.args.bytes.now c.args.scope.now c.args.ctx.now) (option_map (λ v. v.items) c.in-Ok.found.0, state_of c.in-Ok.found.1.now c.region_head.new.scope c.region_head.new.ctx) (rw n c.in-Ok.ensures.reads) c.in-Err-ops.e c.in-Err-ops.ensures.reads

pub region-returns-clause-reads : goal.region-returns-clause-reads
region-returns-clause-reads g t c = λ before n. rw (c.region_of.ensures, c.leave.ensures) (region_read (ops_at CloseCurly (op_at (free_bound (g.O.Outer.types c.args.around.now.outer.now)) c.args.around.now.last c.args.depth) most_ops []) c.args.id c.args.isolated before (state_of c.args.bytes.now c.args.scope.now c.args.ctx.now) _ (rw n c.in-Ok.ensures.reads) _ c.in-Ok-ops.ensures.reads)

pub op_with-returns-in-Err-clause-reads : goal.op_with-returns-in-Err-clause-reads
op_with-returns-in-Err-clause-reads g t c = no_opening (free_bound (g.O.Outer.types c.args.around.now.outer.now)) (ops_at CloseCurly (op_at (free_bound (g.O.Outer.types c.args.around.now.outer.now)) c.args.around.now.last c.args.depth) most_ops []) (state_of c.args.bytes.now c.args.scope.now c.args.ctx.now) c.in-Err.e c.in-Err.ensures.reads

pub op_with-returns-in-Err-regions-clause-reads : goal.op_with-returns-in-Err-regions-clause-reads
op_with-returns-in-Err-regions-clause-reads g t c = no_regions (free_bound (g.O.Outer.types c.args.around.now.outer.now)) (ops_at CloseCurly (op_at (free_bound (g.O.Outer.types c.args.around.now.outer.now)) c.args.around.now.last c.args.depth) most_ops []) (state_of c.args.bytes.now c.args.scope.now c.args.ctx.now) _ c.in-Ok.ensures.reads c.in-Err-regions.e c.in-Err-regions.ensures.reads

pub op_with-returns-clause-reads : goal.op_with-returns-clause-reads
op_with-returns-clause-reads g t c = rw (tail_left (free_bound (g.O.Outer.types c.args.around.now.outer.now)) (ops_at CloseCurly (op_at (free_bound (g.O.Outer.types c.args.around.now.outer.now)) c.args.around.now.last c.args.depth) most_ops []) (state_of c.args.bytes.now c.args.scope.now c.args.ctx.now) _ c.in-Ok.ensures.reads _ c.in-Ok-regions.ensures.reads) c.closing.ensures.reads

pub op-returns-then-depth-eq0-clause-reads : goal.op-returns-then-depth-eq0-clause-reads
op-returns-then-depth-eq0-clause-reads g t c = too_deep (free_bound (g.O.Outer.types c.args.around.now.outer.now)) c.args.around.now.last (state_of c.args.bytes.now c.args.scope.now c.args.ctx.now) c.args.depth c.error_at_name.result c.if-depth-eq0.true c.error_at_name.ensures

pub op-returns-then-scope-around-clause-reads : goal.op-returns-then-scope-around-clause-reads
op-returns-then-scope-around-clause-reads g t c = too_many (free_bound (g.O.Outer.types c.args.around.now.outer.now)) c.args.around.now.last (state_of c.args.bytes.now c.args.scope.now c.args.ctx.now) c.args.depth c.error_at_name-then-scope-around.result c.if-scope-around.true c.error_at_name-then-scope-around.ensures

pub op-returns-clause-reads : goal.op-returns-clause-reads
op-returns-clause-reads g t c = rw (goes_in (free_bound (g.O.Outer.types c.args.around.now.outer.now)) c.args.around.now.last (state_of c.args.bytes.now c.args.scope.now c.args.ctx.now) c.args.depth (omega arith) (omega (arith, c.if-scope-around.false))) c.op_with.ensures.reads

pub regions-returns-in-Err-clause-grows : goal.regions-returns-in-Err-clause-grows
regions-returns-in-Err-clause-grows g t c = grows_trans c.args.ctx.now c.items.ctx c.region.new.ctx c.items.invariant.grows c.in-Err.ensures.grows

pub regions-returns-in_err-push-clause-grows : goal.regions-returns-in_err-push-clause-grows
regions-returns-in_err-push-clause-grows g t c = grows_trans c.args.ctx.now c.items.ctx c.region.new.ctx c.items.invariant.grows c.in-Ok.ensures.grows

pub regions-returns-in-Ok-End-clause-grows : goal.regions-returns-in-Ok-End-clause-grows
regions-returns-in-Ok-End-clause-grows g t c = grows_trans c.args.ctx.now c.items.ctx c.region.new.ctx c.items.invariant.grows c.in-Ok.ensures.grows

pub regions-returns-in-Err-after_item-clause-grows : goal.regions-returns-in-Err-after_item-clause-grows
regions-returns-in-Err-after_item-clause-grows g t c = grows_trans c.args.ctx.now c.items.ctx c.region.new.ctx c.items.invariant.grows c.in-Ok.ensures.grows

pub ops-returns-in-Err-clause-grows : goal.ops-returns-in-Err-clause-grows
ops-returns-in-Err-clause-grows g t c = grows_trans c.args.ctx.now c.items.ctx c.op.new.ctx c.items.invariant.grows c.in-Err.ensures.grows

pub ops-returns-in_err-push-clause-grows : goal.ops-returns-in_err-push-clause-grows
ops-returns-in_err-push-clause-grows g t c = grows_trans c.args.ctx.now c.items.ctx c.op.new.ctx c.items.invariant.grows c.in-Ok.ensures.grows

pub region-returns-in-Err-ops-clause-grows : goal.region-returns-in-Err-ops-clause-grows
region-returns-in-Err-ops-clause-grows g t c = grows_trans c.args.ctx.now c.region_head.new.ctx c.ops.new.ctx c.in-Ok.ensures.grows c.in-Err-ops.ensures.grows

pub region-returns-clause-grows : goal.region-returns-clause-grows
region-returns-clause-grows g t c = grows_trans c.args.ctx.now c.region_head.new.ctx c.ops.new.ctx c.in-Ok.ensures.grows c.in-Ok-ops.ensures.grows

pub op_with-returns-in-Err-regions-clause-grows : goal.op_with-returns-in-Err-regions-clause-grows
op_with-returns-in-Err-regions-clause-grows g t c = grows_trans c.args.ctx.now c.read_opening.new.ctx c.regions.new.ctx c.in-Ok.ensures.grows c.in-Err-regions.ensures.grows

pub op_with-returns-clause-grows : goal.op_with-returns-clause-grows
op_with-returns-clause-grows g t c = grows_trans c.args.ctx.now c.read_opening.new.ctx c.closing.new.ctx c.in-Ok.ensures.grows (grows_trans c.read_opening.new.ctx c.regions.new.ctx c.closing.new.ctx c.in-Ok-regions.ensures.grows c.closing.ensures.grows)
