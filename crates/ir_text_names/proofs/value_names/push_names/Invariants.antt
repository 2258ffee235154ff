use Rattle.std.proofs.Common.{◌≡◌, ◌≤◌, ◌-◌, map}
use Rattle.ir_text_tokens.specs.declared.token.Mark.TheVariants.{Equal}
use Rattle.ir_text_types.specs.Marks.{after}
use Rattle.ir_text_types.specs.Lists.{more_at}
use Rattle.ir_text_names.specs.Packs.{counts, named_view}
use Rattle.ir_text_names.specs.NameReading.{result_at, names_at}
use Rattle.ir_text_names.proofs.value_names.push_names.Given as goal

abbrev pub invariant-items : goal.invariant-items
invariant-items l = record {
  reads : more_at after Equal (λ before. result_at (counts before)) (256 - l.counter) (map named_view l.items.items) l.rest ≡ names_at l.bytes;
  total : counts (map named_view l.items.items) ≡ l.total;
  within : l.total ≤ 256;
}
