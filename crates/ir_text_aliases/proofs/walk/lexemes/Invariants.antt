use Rattle.std.proofs.Common.{◌≡◌, length}
use Rattle.std.specs.Prelude.{reverse}
use Rattle.ir_text_aliases.specs.Walk.{walk}
use Rattle.ir_text_aliases.proofs.walk.lexemes.Given as goal

abbrev pub invariant-lexemes : goal.invariant-lexemes
invariant-lexemes l =
    walk l.part l.values l.names.here l.at.scanned (reverse l.at.outer.items) 0 l.rest l.out.text.items l.out.marks.items
    ≡ walk l.part l.values l.names.here l.initial.at.scanned (reverse l.initial.at.outer.items) 0 l.bytes l.initial.out.text.items l.initial.out.marks.items

abbrev pub decreases-lexemes : goal.decreases-lexemes
decreases-lexemes l = length l.rest
