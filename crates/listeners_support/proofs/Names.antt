-- The bytes of names.
use Rattle.std.proofs.Common.{◌≡◌, sym, ℕ, List}
use Rattle.std.specs.Str.{bytes_eq}
use Rattle.std.proofs.lemmas.Bool.Decides.{same_from_decides}
use Rattle.std.proofs.lemmas.Slice.Eq.{bytes_eq-Decides}
use Rattle.ir_event.proofs.of_types.Truths.{turned}
