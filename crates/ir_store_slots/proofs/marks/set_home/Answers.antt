use Rattle.std.proofs.Common.{◌∙◌, sym, ap, set}
use Rattle.ir_store_slots.specs.Marks.{home_of}
use Rattle.ir_store_slots.proofs.Marking.{set_twice}
use Rattle.ir_store_slots.proofs.marks.set_home.Goals.{then-is_some, else-is_some}
use Rattle.ir_store_slots.proofs.marks.set_home.Goals as goal

pub returns-in-Some : goal.returns-in-Some
returns-in-Some c =
    let u = c.args.node in
    let h = c.in-Some.head in
    c.push_back.ensures.homes
    ∙ elim c.if-is_some.branch [
      | then-is_some w ↦ ap (λ z. set z.homes u h) w.marks-is ∙ ap (λ z. set z u h) w.remove.ensures.homes ∙ set_twice c.args.marks.now.homes u _ h
      | else-is_some w ↦ ap (λ z. set z.homes u h) w.marks-is
    ]
    ∙ ap (λ o. set c.args.marks.now.homes u (home_of o)) (sym c.in-Some.is)
