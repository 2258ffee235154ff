use Rattle.std.proofs.Common.{ap, eqb, length, refl, subst, sym, ◌∙◌}
use Rattle.std.specs.List.{IsDistinct}
use Rattle.ir_event.specs.trees.Ids.{ids}
use Rattle.conversion_base.specs.Listing.{casts_among}
use Rattle.conversion_base.specs.Reconciling.{is_cast}
use Rattle.conversion_base.proofs.Listed.{casts_have}
use Rattle.conversion.proofs.Turns.{up_to_all}
use Rattle.conversion.proofs.Walking.{filtered_distinct}
use Rattle.conversion.proofs.collapsing.collapse_listed.Goals as goal

pub collapse_casts-requires : goal.collapse_casts-requires
collapse_casts-requires g c =
    let t = (g.B.ConversionRewriter.state c.args.bench.now).held.tree in
    let is = c.deref.ensures.value ∙ c.in-Ok.ensures ∙ ap (λ ys. casts_among ys t) c.requires.ops in
    record { distinct = subst (IsDistinct eqb) (sym is) (filtered_distinct (λ x. is_cast x t) (ids t) c.is_whole.ensures.distinct); listed = casts_have t c.deref.result.now is }

pub returns-in-Ok-clause-ends : goal.returns-in-Ok-clause-ends
returns-in-Ok-clause-ends g c =
    let state = g.B.ConversionRewriter.state in
    up_to_all (state c.args.bench.now).held (length c.args.ops.now) c.args.ops.now c.collapse_casts.result (state c.collapse_casts.new.bench) refl c.requires.ops c.collapse_casts.ensures.ends
