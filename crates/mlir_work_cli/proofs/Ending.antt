-- Proofs about the last byte of a text.
use Rattle.std.proofs.Common.{◌≡◌, ℕ, List, [], ◌∷◌, Option, Some, None, refl, sym, ap, ◌∙◌, length, ◌-◌, arith}
use Rattle.std.specs.Prelude.{get_or, nat_eq}
use Rattle.std.specs.List.{slice_get}
use Rattle.std.proofs.lemmas.Option.{get_or_from_slice_get}
use Rattle.mlir_work_cli.specs.Inputs.{ends_line}

last_at : (x : ℕ) (xs : List ℕ) (d : ℕ) → ends_line (x ∷ xs) ≡ nat_eq (get_or (x ∷ xs) (length xs) d) 10
last_at x [] d = refl
last_at x (y ∷ ys) d = last_at y ys d

before_last : (x : ℕ) (xs : List ℕ) → length (x ∷ xs) - 1 ≡ length xs
before_last x xs = omega arith

-- the last byte shows whether a text ends with a line feed
pub ends_so : (text : List ℕ) (b : ℕ) → slice_get text (length text - 1) ≡ Some b → nat_eq b 10 ≡ ends_line text
ends_so [] b e = absurd cc
ends_so (x ∷ xs) b e =
    let there : slice_get (x ∷ xs) (length xs) ≡ Some b = rw (← before_last x xs) e in
    sym (last_at x xs b ∙ ap (λ (c : ℕ). nat_eq c 10) (get_or_from_slice_get (x ∷ xs) (length xs) b b there))
