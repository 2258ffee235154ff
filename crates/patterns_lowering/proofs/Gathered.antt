-- Operations that are moved from the last to the first.
use Rattle.std.proofs.Common.{◌≡◌, ap, sym, ◌∙◌, ℕ, ◌+◌, ◌-◌, ◌<◌, ◌≤◌, List, [], ◌∷◌, ◌++◌, append_assoc, length, take, reverse, get_or, arith}
use Rattle.std.proofs.lemmas.List.{reverse-append, take_all, take_more}
use Rattle.patterns_soundness.specs.base.Lowering.{before_in}
use Rattle.patterns_soundness.specs.base.declared.edit.Edit.{Edit}
use Rattle.patterns_soundness.specs.base.declared.edit.Edit.TheVariants.{Move}
use Rattle.patterns_lowering.specs.Numbers.{gather_edits}

-- the last of a number of operations moves first
pub gathered_last : (y r z k : ℕ) (xs : List ℕ) (x : ℕ) → 0 < k → k ≤ length xs → x ≡ get_or xs (k - 1) x → gather_edits y r z (reverse (take k xs)) ≡ Move x (before_in y r z) ∷ gather_edits y r x (reverse (take (k - 1) xs))
gathered_last y r z k xs x some few is =
    let n : k ≡ (k - 1) + 1 = omega (arith, some) in
    ap (λ (j : ℕ). gather_edits y r z (reverse (take j xs))) n
    ∙ ap (λ (l : List ℕ). gather_edits y r z (reverse l)) (take_more xs (k - 1) x (omega (arith, some, few)) ∙ ap (λ v. take (k - 1) xs ++ v ∷ []) (sym is))
    ∙ ap (gather_edits y r z) (reverse-append (take (k - 1) xs) (x ∷ []))

-- so one more of them was moved
pub gathered_more : (y r z k : ℕ) (xs : List ℕ) (x : ℕ) (edits more whole : List Edit) → 0 < k → k ≤ length xs → x ≡ get_or xs (k - 1) x → more ≡ edits ++ Move x (before_in y r z) ∷ [] → edits ++ gather_edits y r z (reverse (take k xs)) ≡ whole
    → more ++ gather_edits y r x (reverse (take (k - 1) xs)) ≡ whole
gathered_more y r z k xs x edits more whole some few is put h =
    ap (λ l. l ++ gather_edits y r x (reverse (take (k - 1) xs))) put ∙ append_assoc edits (Move x (before_in y r z) ∷ []) (gather_edits y r x (reverse (take (k - 1) xs)))
    ∙ ap (λ l. edits ++ l) (sym (gathered_last y r z k xs x some few is)) ∙ h

pub gathered_all : (y r z : ℕ) (xs : List ℕ) (edits : List Edit) (k : ℕ) → k ≡ length xs → edits ++ gather_edits y r z (reverse (take k xs)) ≡ edits ++ gather_edits y r z (reverse xs)
gathered_all y r z xs edits k is = ap (λ (l : List ℕ). edits ++ gather_edits y r z (reverse l)) (take_all k xs (omega (arith, is)))
