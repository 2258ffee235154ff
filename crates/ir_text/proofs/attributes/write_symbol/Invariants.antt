use Rattle.std.proofs.Common.{◌≡◌, ◌++◌, drop, map, true}
use Rattle.std.specs.Prelude.{codes}
use Rattle.ir_types.specs.Terms.{name_term}
use Rattle.ir_text.specs.Rows.{parted}
use Rattle.ir_text.specs.AttrText.{part_text}
use Rattle.ir_text.proofs.attributes.write_symbol.Given as goal

abbrev pub invariant-parts : goal.invariant-parts
invariant-parts l = l.out.items ++ parted (codes "::") l.first (map part_text (map (name_term l.ctx) (drop l.part-index l.parts))) ≡ l.fn.out.items ++ parted (codes "::") true (map part_text (map (name_term l.ctx) l.parts))
