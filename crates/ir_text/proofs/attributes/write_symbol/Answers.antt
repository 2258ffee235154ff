use Rattle.std.proofs.Common.{◌≡◌, ◌∙◌, ◌++◌, ap, refl, map, ℕ, List, append_assoc}
use Rattle.std.specs.Prelude.{codes}
use Rattle.ir_types.specs.Terms.{name_term}
use Rattle.ir_text.specs.AttrText.{part_text}
use Rattle.ir_text.proofs.Rows.{one_more, no_more}
use Rattle.ir_text.proofs.attributes.write_symbol.Goals as goal
use Rattle.ir_tree.proofs.Steps.{next_left}

pub parts-preserved : goal.parts-preserved
parts-preserved c =
    let next = next_left c.args.parts.now c.parts.part-index c.part-item.result c.parts-test.true c.part-item.is in
    one_more (codes "::") _ _ _ _ _ c.parts.first _ _ (ap (λ (ns : List ℕ). map part_text (map (name_term c.args.ctx.now) ns)) next) c.in_ok-write_between.ensures c.in_ok-write_part.ensures c.parts.invariant

pub returns : goal.returns
returns c = no_more (codes "::") _ _ c.parts.first (λ ns. map part_text (map (name_term c.args.ctx.now) ns)) c.args.parts.now c.parts.part-index c.parts-test.false refl c.parts.invariant
