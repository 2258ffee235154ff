use Rattle.std.proofs.Common.{◌≡◌, take, length}
use Rattle.ir_text_tokens.specs.Places.{Agrees}
use Rattle.ir_text_tokens.proofs.names.cut.Given as goal

abbrev pub invariant-entries : goal.invariant-entries
invariant-entries g l = record {
  agrees : Agrees l.latest l.entries.items;
  same : take l.count l.entries.items ≡ take l.count l.fn.entries.items;
}

abbrev pub decreases-entries : goal.decreases-entries
decreases-entries g l = length l.entries.items
