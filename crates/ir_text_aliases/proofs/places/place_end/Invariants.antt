use Rattle.std.proofs.Common.{◌≡◌, ◌≤◌, [], ◌∷◌, length}
use Rattle.std.specs.Prelude.{reverse}
use Rattle.ir_text_aliases.specs.Places.{place_end}
use Rattle.ir_text_aliases.proofs.places.place_end.Given as goal

abbrev pub invariant-lexemes : goal.invariant-lexemes
invariant-lexemes l = record {
  same : place_end (reverse l.coming.items) 0 l.rest ≡ place_end (41 ∷ []) 0 l.bytes;
  headroom : length l.coming.items ≤ 32;
}

abbrev pub decreases-lexemes : goal.decreases-lexemes
decreases-lexemes l = length l.rest
