use Rattle.std.proofs.Common.{◌≡◌, ◌≤◌, [], ◌∷◌, length}
use Rattle.std.specs.Prelude.{reverse}
use Rattle.ir_text_aliases.specs.Values.{group_end}
use Rattle.ir_text_aliases.proofs.values.group_end.Given as goal

abbrev pub invariant-lexemes : goal.invariant-lexemes
invariant-lexemes l = record {
  same : group_end (reverse l.coming.items) 0 l.rest ≡ group_end (l.closer ∷ []) 0 l.bytes;
  headroom : length l.coming.items ≤ 32;
}

abbrev pub decreases-lexemes : goal.decreases-lexemes
decreases-lexemes l = length l.rest
