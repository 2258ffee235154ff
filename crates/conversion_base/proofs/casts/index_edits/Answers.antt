use Rattle.std.proofs.Common.{◌≡◌, ◌∙◌, ap, sym, subst, ℕ, Some}
use Rattle.patterns_base.specs.Lists.{AllFit, edits_meaning}
use Rattle.patterns_base.specs.Looks.{insertion_point}
use Rattle.conversion_base.specs.Numbers.{cast_edits}
use Rattle.conversion_base.proofs.Recast.{cast_fits, cast_meant, none_ends, none_placed, none_taken, none_there, some_taken}
use Rattle.conversion_base.proofs.casts.index_edits.Goals as goal

pub returns-in_default-clause-edits : goal.returns-in_default-clause-edits
returns-in_default-clause-edits c = (let m = c.args.world.now.store.module_of in none_there c.args.world.now.ctx m.tree m.next c.args.op c.in_default.ensures.node)

pub returns-in_default-place-clause-edits : goal.returns-in_default-place-clause-edits
returns-in_default-place-clause-edits c = (let m = c.args.world.now.store.module_of in none_placed c.args.world.now.ctx m.tree m.next c.args.op c.in_default-place.ensures)

pub returns-in_default-ends_of-clause-edits : goal.returns-in_default-ends_of-clause-edits
returns-in_default-ends_of-clause-edits c =
    let m = c.args.world.now.store.module_of in
    none_ends c.args.world.now.ctx m.tree m.next c.args.op c.in-Some.node c.in-Some.ensures.node c.in-Some-place.place c.in-Some-place.ensures c.in_default-ends_of.ensures.ends

pub returns-then-not-takes_index-clause-edits : goal.returns-then-not-takes_index-clause-edits
returns-then-not-takes_index-clause-edits c =
    let m = c.args.world.now.store.module_of in
    none_taken c.args.world.now.ctx m.tree m.next c.args.op c.in-Some.node c.in-Some.ensures.node c.in-Some-place.place c.in-Some-place.ensures c.in-Some-ends_of.ends c.in-Some-ends_of.ensures.ends
    c.takes_index.result c.takes_index.ensures c.if-not-takes_index.true

pub returns-clause-edits : goal.returns-clause-edits
returns-clause-edits c =
    let ctx = c.args.world.now.ctx in
    let m = c.args.world.now.store.module_of in
    let ends = c.in-Some-ends_of.ends in
    let insertion = insertion_point c.args.op c.in-Some-place.place in
    let next : c.new-next.result ≡ m.next = c.new-next.ensures ∙ c.next_id.ensures in
    ap Some (ap (edits_meaning ctx) (c.in_ok-edits.ensures ∙ ap (λ (k : ℕ). cast_edits insertion k c.args.op ends.operand ends.ty) next) ∙ cast_meant ctx c.sound.ensures insertion m.next c.args.op ends.operand ends.ty)
    ∙ some_taken ctx m.tree m.next c.args.op c.in-Some.node c.in-Some.ensures.node c.in-Some-place.place c.in-Some-place.ensures ends c.in-Some-ends_of.ensures.ends
    c.takes_index.result c.takes_index.ensures c.if-not-takes_index.false

pub returns-clause-fits_in : goal.returns-clause-fits_in
returns-clause-fits_in c =
    let ctx = c.args.world.now.ctx in
    let ends = c.in-Some-ends_of.ends in
    let insertion = insertion_point c.args.op c.in-Some-place.place in
    subst (AllFit ctx) (sym c.in_ok-edits.ensures) (cast_fits ctx c.sound.ensures insertion c.new-next.result c.args.op ends.operand ends.ty (c.in-Some-ends_of.ensures.of ctx c.in-Some.ensures.of))
