use Rattle.std.proofs.Common.{subst}
use Rattle.ir_text_types.specs.declared.error.ReadError.TheVariants as errors
use Rattle.ir_text_operations.specs.Free.{free_bound, free_term}
use Rattle.ir_text_operations.specs.Spelling.{IsSingleOp}
use Rattle.ir_text_operations.specs.Claims.{IsOnly, IsNone}
use Rattle.ir_types.proofs.Growth.{grows_trans}
use Rattle.ir_text_operations.proofs.Singles.{text_is, frees_stand, alone_read, alone_wrong, part_rendered, no_part, single_none}
use Rattle.ir_text_operations.proofs.single.op_of_text.Goals as goal

pub returns-in-Ok-before_ids-clause-refused : goal.returns-in-Ok-before_ids-clause-refused
returns-in-Ok-before_ids-clause-refused g c =
    let types = g.O.Outer.types c.args.outer.now in
    let next = c.next_id-next.result in
    let frees = frees_stand types c.args.ctx.now c.requires in
    let none = alone_wrong (free_bound types) (free_term types c.args.ctx.now) c.last_from-last.result next c.args.bytes.now c.args.ctx.now c.sound.ensures frees (rw c.in-Err-Refused.field-0-is at c.in-Err-Refused.ensures.reads) in
    λ f e. rw (← c.next_id-next.ensures) (single_none c.args.ctx.now.opaque (free_term types c.args.ctx.now) next c.args.bytes.now (subst (λ l. IsNone (IsSingleOp c.args.ctx.now.opaque (free_term types c.args.ctx.now) l next c.args.bytes.now)) c.last_from-last.ensures none))

pub returns-in-Err-before_ids-clause-refused : goal.returns-in-Err-before_ids-clause-refused
returns-in-Err-before_ids-clause-refused g c =
    let types = g.O.Outer.types c.args.outer.now in
    let next = c.next_id-next.result in
    let frees = frees_stand types c.args.ctx.now c.requires in
    let none = alone_wrong (free_bound types) (free_term types c.args.ctx.now) c.last_from-last.result next c.args.bytes.now c.args.ctx.now c.sound.ensures frees (rw c.in-Err-Refused.field-0-is at c.in-Err-Refused.ensures.reads) in
    λ f e. rw (← c.next_id-next.ensures) (single_none c.args.ctx.now.opaque (free_term types c.args.ctx.now) next c.args.bytes.now (subst (λ l. IsNone (IsSingleOp c.args.ctx.now.opaque (free_term types c.args.ctx.now) l next c.args.bytes.now)) c.last_from-last.ensures none))

pub returns-in-Err-before_ids-clause-exhausted : goal.returns-in-Err-before_ids-clause-exhausted
returns-in-Err-before_ids-clause-exhausted g c =
    let types = g.O.Outer.types c.args.outer.now in
    let next = c.next_id-next.result in
    let frees = frees_stand types c.args.ctx.now c.requires in
    let none = alone_wrong (free_bound types) (free_term types c.args.ctx.now) c.last_from-last.result next c.args.bytes.now c.args.ctx.now c.sound.ensures frees (rw c.in-Err-Refused.field-0-is at c.in-Err-Refused.ensures.reads) in
    λ e. rw (← c.next_id-next.ensures) (single_none c.args.ctx.now.opaque (free_term types c.args.ctx.now) next c.args.bytes.now (subst (λ l. IsNone (IsSingleOp c.args.ctx.now.opaque (free_term types c.args.ctx.now) l next c.args.bytes.now)) c.last_from-last.ensures none))

pub returns-in-Ok-looked_at-clause-read : goal.returns-in-Ok-looked_at-clause-read
returns-in-Ok-looked_at-clause-read g c =
    let types = g.O.Outer.types c.args.outer.now in
    let next = c.next_id-next.result in
    let frees = frees_stand types c.args.ctx.now c.requires in
    let alone = alone_read (free_bound types) (free_term types c.args.ctx.now) c.last_from-last.result next c.args.bytes.now c.args.ctx.now c.sound.ensures frees c.in-Ok-single.tree c.single.new.ctx c.in-Ok-single.ensures.reads in
    let single = subst (λ l. IsOnly (IsSingleOp c.args.ctx.now.opaque (free_term types c.args.ctx.now) l next c.args.bytes.now) c.single.new.ctx c.in-Ok-single.tree) c.last_from-last.ensures alone in
    rw (← c.next_id-next.ensures) (part_rendered c.args.ctx.now.opaque (free_term types c.args.ctx.now) next c.args.bytes.now c.single.new.ctx c.in-Ok-single.tree c.in-Ok.ensures.ok single c.in-Ok-looked_at.ensures.ok)

pub returns-in-Err-looked_at-clause-refused : goal.returns-in-Err-looked_at-clause-refused
returns-in-Err-looked_at-clause-refused g c =
    let types = g.O.Outer.types c.args.outer.now in
    let next = c.next_id-next.result in
    let frees = frees_stand types c.args.ctx.now c.requires in
    let alone = alone_read (free_bound types) (free_term types c.args.ctx.now) c.last_from-last.result next c.args.bytes.now c.args.ctx.now c.sound.ensures frees c.in-Ok-single.tree c.single.new.ctx c.in-Ok-single.ensures.reads in
    let single = subst (λ l. IsOnly (IsSingleOp c.args.ctx.now.opaque (free_term types c.args.ctx.now) l next c.args.bytes.now) c.single.new.ctx c.in-Ok-single.tree) c.last_from-last.ensures alone in
    λ f e. rw (← c.next_id-next.ensures) (no_part c.args.ctx.now.opaque (free_term types c.args.ctx.now) next c.args.bytes.now c.single.new.ctx c.in-Ok-single.tree single (c.in-Err-looked_at.ensures.refused f (text_is c.in-Err-looked_at.e (errors.Refused f) e)))

pub returns-in-Ok-before_ids-clause-grows : goal.returns-in-Ok-before_ids-clause-grows
returns-in-Ok-before_ids-clause-grows g c = grows_trans c.args.ctx.now c.single.new.ctx c.before_ids.new.ctx c.in-Err-Refused.ensures.grows c.in-Ok-before_ids.ensures

pub returns-in-Err-before_ids-clause-grows : goal.returns-in-Err-before_ids-clause-grows
returns-in-Err-before_ids-clause-grows g c = grows_trans c.args.ctx.now c.single.new.ctx c.before_ids.new.ctx c.in-Err-Refused.ensures.grows c.in-Err-before_ids.ensures
