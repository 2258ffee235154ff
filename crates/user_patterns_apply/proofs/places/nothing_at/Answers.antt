use Rattle.std.proofs.Common.{◌≡◌, ap, ◌∙◌, ◌+◌, length, arith}
use Rattle.user_patterns_data.specs.Matching.{nothing}
use Rattle.user_patterns_apply.proofs.Placed.{nothing_five}
use Rattle.user_patterns_apply.proofs.places.nothing_at.Goals as goal

pub returns : goal.returns
returns c =
    let p = c.args.pattern.now in
    let count : c.len.result + c.len-2.result + c.len-3.result + c.len-4.result + c.len-5.result ≡ length p.values.items + length p.extra.items + length p.given.items + length p.old.items + length p.new.items =
    omega (arith, c.len.ensures, c.len-2.ensures, c.len-3.ensures, c.len-4.ensures, c.len-5.ensures, p.values.ok.0, p.extra.ok.0, p.given.ok.0, p.old.ok.0, p.new.ok.0) in
    nothing_five c.in_ok-values.values.items c.push_nothing.new.values.items c.push_nothing-2.new.values.items c.push_nothing-3.new.values.items c.push_nothing-4.new.values.items c.push_nothing-5.new.values.items
    c.len.result c.len-2.result c.len-3.result c.len-4.result c.len-5.result
    c.in_ok-values.ensures.items c.in_ok-push_nothing.ensures c.in_ok-push_nothing-2.ensures c.in_ok-push_nothing-3.ensures c.in_ok-push_nothing-4.ensures c.in_ok-push_nothing-5.ensures
    ∙ ap nothing count
