use Rattle.std.proofs.Common.{◌≡◌, ◌++◌, drop, map, true}
use Rattle.std.specs.Prelude.{codes}
use Rattle.ir_text.specs.Rows.{parted}
use Rattle.ir_text.specs.AttrText.{number_text}
use Rattle.ir_text.proofs.attributes.write_numbers.Given as goal

abbrev pub invariant-numbers : goal.invariant-numbers
invariant-numbers l = l.out.items ++ parted (codes ", ") l.first (map (number_text l.truth) (drop l.number-index l.numbers)) ≡ l.fn.out.items ++ parted (codes ", ") true (map (number_text l.truth) l.numbers)
