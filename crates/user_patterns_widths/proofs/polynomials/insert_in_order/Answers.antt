use Rattle.std.proofs.Common.{◌∙◌, ap, nat_le, sym}
use Rattle.std.specs.List.{position}
use Rattle.user_patterns_widths.proofs.Inserting.{inserted_at, inserted_last}
use Rattle.user_patterns_widths.proofs.polynomials.insert_in_order.Goals as goal

pub returns-in_ok-insert-in-Some : goal.returns-in_ok-insert-in-Some
returns-in_ok-insert-in-Some c =
    let there = sym (c.in-Some.ensures ∙ ap (position (nat_le c.args.place)) c.deref.ensures.value) in
    c.in_ok-insert-in-Some.ensures.items ∙ inserted_at c.args.place c.args.places.now.items c.in-Some.at there

pub returns-in_ok-push-in-None : goal.returns-in_ok-push-in-None
returns-in_ok-push-in-None c =
    let nowhere = sym (c.in-None.ensures ∙ ap (position (nat_le c.args.place)) c.deref.ensures.value) in
    c.in_ok-push-in-None.ensures.items ∙ inserted_last c.args.place c.args.places.now.items nowhere
