use Rattle.std.proofs.Common.{ap, sym, ◌∙◌}
use Rattle.ir_event.specs.Modules.{module_in}
use Rattle.patterns_base.specs.Looks.{is_verified}
use Rattle.user_patterns_check.specs.Outcomes.{given}
use Rattle.user_patterns_data.specs.Matching.{known}
use Rattle.user_patterns_apply.proofs.Ordered.{known_first}
use Rattle.user_patterns_apply.proofs.constants.known_at.Goals as goal

pub returns : goal.returns
returns c =
    let t = (module_in c.args.world.now).tree in
    c.in_ok-known.ensures ∙ known_first t c.in-Some.value (sym c.is_first.ensures ∙ c.if-not-is_first.false) ∙ ap (λ s. given s (known t (is_verified t))) c.in-Some.ensures
