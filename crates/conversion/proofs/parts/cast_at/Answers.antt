use Rattle.std.proofs.Common.{[], ◌∙◌, ap, sym, subst, if◌then◌else◌}
use Rattle.conversion_base.specs.Conversion.{Ended, cast_ended, converted}
use Rattle.conversion_base.specs.Reconciling.{index_rewrite}
use Rattle.conversion.specs.States.{Faults}
use Rattle.conversion.proofs.Turns.{cast_faults}
use Rattle.conversion.proofs.parts.cast_at.Goals as goal

pub returns-in-Err-clause-ends : goal.returns-in-Err-clause-ends
returns-in-Err-clause-ends g c =
    let state = g.B.ConversionRewriter.state in
    let m = (state c.args.bench.now).held in
    let here = sym c.is_cast.ensures ∙ c.if-not-is_cast.false in
    subst (λ (d : Ended). Faults d c.without_op.result (state c.cast_index.new.self).things) (sym (ap (λ b. if b then cast_ended c.args.op (index_rewrite m c.args.op) else converted m []) here))
    (cast_faults c.args.op (index_rewrite m c.args.op) (state c.cast_index.new.self).things c.in-Err.refusal c.without_op.result c.in-Err.ensures.answers.0 c.without_op.ensures.refusal c.without_op.ensures.id)
