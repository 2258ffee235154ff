use mir.Val.{SFits}
use Rattle.std.specs.Int.{w64}
use Rattle.std.proofs.Common.{ap, refl, map, pos, get_or, rules}
use Rattle.std.specs.Prelude.{codes}
use Rattle.std.proofs.lemmas.Int.{to_z-of_z}
use Rattle.ir_text.specs.AttrText.{number_text}
use Rattle.ir_text.proofs.Rows.{one_more, no_more}
use Rattle.ir_text.proofs.attributes.write_numbers.Goals as goal
use Rattle.std.proofs.lemmas.List.{drop_more}

pub numbers-preserved : goal.numbers-preserved
numbers-preserved c =
    let number = get_or c.args.numbers.now c.numbers.number-index (pos 0) in
    let fits : SFits w64 number = search rules in
    let next = drop_more c.args.numbers.now c.numbers.number-index (pos 0) c.numbers-test.true in
    one_more (codes ", ") _ _ _ _ _ c.numbers.first _ _ (ap (map (number_text c.args.truth)) next) c.in_ok-write_between.ensures (rw (to_z-of_z w64 number fits) at c.in_ok-write_item.ensures) c.numbers.invariant

pub returns : goal.returns
returns c = no_more (codes ", ") _ _ c.numbers.first (map (number_text c.args.truth)) c.args.numbers.now c.numbers.number-index c.numbers-test.false refl c.numbers.invariant
