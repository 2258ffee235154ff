use Rattle.std.proofs.Common.{◌≡◌, ◌∷◌, ◌+◌, ◌-◌, drop, take, length, ap, ◌∙◌, sym, arith}
use Rattle.std.proofs.lemmas.Grind.{common_steps}
use Rattle.mlir_work_script_base.specs.Items.{items_of}
use Rattle.mlir_work_script_base.proofs.Listed.{items_found, items_missing}
use Rattle.mlir_work_script_base.proofs.items.split_item.Goals as goal

pub returns-in-Some-clause-items : goal.returns-in-Some-clause-items
returns-in-Some-clause-items c =
    let text = c.args.text.now in
    let whole : take (length text - (c.in-Some.place + 1)) (drop (c.in-Some.place + 1) text) ≡ drop (c.in-Some.place + 1) text = grind (arith, common_steps) in
    items_found text c.in-Some.place c.in-Some.ensures ∙ ap (λ rest. take c.in-Some.place text ∷ items_of rest) (sym whole)

pub returns-in-None-clause-items : goal.returns-in-None-clause-items
returns-in-None-clause-items c = items_missing c.args.text.now c.in-None.ensures
