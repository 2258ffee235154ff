use Rattle.std.proofs.Common.{◌≡◌, ◌++◌, ◌∷◌, take}
use Rattle.std.specs.Prelude.{flat_map}
use Rattle.json.specs.Print.{escape_byte}
use Rattle.mlir_work_session_base.proofs.json_text.write_quoted.Given as goal

abbrev pub invariant-bytes : goal.invariant-bytes
invariant-bytes l = l.out.items ≡ l.fn.out.items ++ 34 ∷ flat_map escape_byte (take l.byte-index l.text)
