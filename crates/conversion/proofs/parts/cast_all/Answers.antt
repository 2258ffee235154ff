use Rattle.std.proofs.Common.{subst, ◌∙◌, ℕ, List}
use Rattle.conversion_base.specs.Conversion.{cast_at, in_turn}
use Rattle.conversion.specs.States.{Ends, none_of}
use Rattle.conversion.proofs.Turns.{none_left}
use Rattle.conversion.proofs.parts.cast_all.Goals as goal

pub returns-in-Ok-clause-none : goal.returns-in-Ok-clause-none
returns-in-Ok-clause-none g c =
    let state = g.B.ConversionRewriter.state in
    none_left (state c.args.bench.now).held c.cast_each.result (state c.cast_each.new.bench) c.is_whole.ensures
    (subst (λ (xs : List ℕ). Ends (in_turn cast_at xs (state c.args.bench.now).held) (none_of c.cast_each.result) (state c.cast_each.new.bench)) (c.deref.ensures.value ∙ c.in-Ok.ensures) c.cast_each.ensures.ends)
