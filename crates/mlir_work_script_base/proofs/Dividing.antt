-- Proofs about the parts of an input around the divider.
use Rattle.std.proofs.Common.{◌≡◌, ℕ, List, [], ◌∷◌, ◌++◌, Bool, true, false, if◌then◌else◌, inl, inr, refl, ap, ◌∙◌}
use Rattle.std.specs.Prelude.{◌&&◌, codes}
use Rattle.ir_event.proofs.of_types.Growth.{name_is}
use Rattle.mlir_work_script_base.specs.Lines.{is_newline, line_of, after_line}
use Rattle.mlir_work_script_base.specs.Parts.{EndsLine, IsSplit, at_divider, module_from, script_from}
use Rattle.ir_event.proofs.of_types.SameTerms.{number_is}

line_if : (t : Bool) (b : ℕ) (bs line rest : List ℕ) → is_newline b ≡ t → (end : List ℕ) × (bs ≡ line ++ end) × EndsLine end rest → (end : List ℕ) × (b ∷ bs ≡ (if t then [] else b ∷ line) ++ end) × EndsLine end (if t then bs else rest)
line_if true b bs line rest e h = (b ∷ bs, refl, inl (ap (λ c. c ∷ bs) (number_is b 10 e)))
line_if false b bs line rest e (end, is, ends) = (end, ap (λ xs. b ∷ xs) is, ends)

line_ends : (text : List ℕ) → (end : List ℕ) × (text ≡ line_of text ++ end) × EndsLine end (after_line text)
line_ends [] = ([], refl, inr (refl, refl))
line_ends (b ∷ bs) = line_if (is_newline b) b bs (line_of bs) (after_line bs) refl (line_ends bs)

both : (a b : Bool) → (a && b) ≡ true → b ≡ true
both true b e = e
both false b e = absurd cc

more : (b : ℕ) (bs first second : List ℕ) → IsSplit bs first second → IsSplit (b ∷ bs) (b ∷ first) second
more b bs first second (inl (end, is, ends)) = inl (end, ap (λ xs. b ∷ xs) is, ends)
more b bs first second (inr (is, none)) = inr (ap (λ xs. b ∷ xs) is, none)

at_line : (text : List ℕ) → at_divider text ≡ true → IsSplit text [] (after_line text)
at_line text e =
    let h = line_ends text in
    let is : line_of text ≡ codes "// -----" = name_is (line_of text) (codes "// -----") e in
    inl (h.0, h.1 ∙ ap (λ xs. xs ++ h.0) is, h.2)

split_if : (t : Bool) (b : ℕ) (bs first second : List ℕ) → (t ≡ true → at_divider (b ∷ bs) ≡ true) → IsSplit bs first second
    → IsSplit (b ∷ bs) (if t then [] else b ∷ first) (if t then after_line (b ∷ bs) else second)
split_if true b bs first second e h = at_line (b ∷ bs) (e refl)
split_if false b bs first second e h = more b bs first second h

pub divided : (start : Bool) (text : List ℕ) → IsSplit text (module_from start text) (script_from start text)
divided start [] = inr (refl, refl)
divided start (b ∷ bs) =
    split_if (start && at_divider (b ∷ bs)) b bs (module_from (is_newline b) bs) (script_from (is_newline b) bs) (both start (at_divider (b ∷ bs))) (divided (is_newline b) bs)
