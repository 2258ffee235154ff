use Rattle.std.proofs.Common.{◌≡◌, ◌++◌, ◌∷◌, take}
use Rattle.std.specs.Prelude.{flat_map}
use Rattle.ir_text_tokens.specs.Printing.{byte_text}
use Rattle.ir_text_tokens.proofs.print.print_string.Given as goal

abbrev pub invariant-bytes : goal.invariant-bytes
invariant-bytes l = l.out.items ≡ l.fn.out.items ++ 34 ∷ flat_map byte_text (take l.byte-index l.text)
