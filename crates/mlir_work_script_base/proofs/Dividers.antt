-- A line that begins differently isn't the divider.
use Rattle.std.proofs.Common.{◌≡◌, ℕ, Bool, true, false, cond, List, [], ◌∷◌, refl}
use Rattle.std.specs.Prelude.{◌==◌, codes}
use Rattle.std.specs.Str.{bytes_eq}
use Rattle.mlir_work_script_base.specs.Lines.{is_newline, line_of}
use Rattle.mlir_work_script_base.specs.Parts.{at_divider}

pub no_slash : (b : ℕ) (bs : List ℕ) → (b == 47) ≡ false → at_divider (b ∷ bs) ≡ false
no_slash b bs e = by_newline (is_newline b) (line_of bs)
  where
    by_newline : (t : Bool) (l : List ℕ) → bytes_eq (cond t [] (b ∷ l)) (codes "// -----") ≡ false
    by_newline true l = refl
    by_newline false l = rw e refl
