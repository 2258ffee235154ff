-- Concatenation of note entries.
use Rattle.std.proofs.Common.{◌≡◌, ℕ, List, [], ◌∷◌, ◌++◌, refl, sym, ap, ◌∙◌, append_assoc, Result, Ok, Err}
use Rattle.std.specs.Prelude.{codes}
use Rattle.mlir_work_notes.specs.Notes.{Note, AppendsNotes, note_text, spaced_notes}

pub reported_both : (xs ys : List Note) → spaced_notes (xs ++ ys) ≡ spaced_notes xs ++ spaced_notes ys
reported_both [] ys = refl
reported_both (x ∷ xs) ys =
    ap (λ zs. (codes " " ++ note_text x) ++ zs) (reported_both xs ys)
    ∙ sym (append_assoc (codes " " ++ note_text x) (spaced_notes xs) (spaced_notes ys))

-- appending entries after other entries
pub tells_both : {E : Type 0} (r : Result (Unit {0}) E) (a b c : List ℕ) (xs ys : List Note) → b ≡ a ++ spaced_notes xs → AppendsNotes r b c ys → AppendsNotes r a c (xs ++ ys)
tells_both (Err e) a b c xs ys p q = tt
tells_both (Ok u) a b c xs ys p q =
    q ∙ (ap (λ zs. zs ++ spaced_notes ys) p ∙ (append_assoc a (spaced_notes xs) (spaced_notes ys) ∙ ap (λ zs. a ++ zs) (sym (reported_both xs ys))))
