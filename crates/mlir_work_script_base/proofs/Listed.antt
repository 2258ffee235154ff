-- Proofs about comma-separated lists.
use Rattle.std.proofs.Common.{◌≡◌, ℕ, ◌+◌, ◌<◌, ◌≤◌, List, [], ◌∷◌, length, take, drop, Bool, true, false, not, cond, if◌then◌else◌, refl, ap, arith, Some, None, Option, position}
use Rattle.std.proofs.lemmas.Grind.{common_steps}
use Rattle.std.specs.List.{position_or_len}
use Rattle.mlir_work_script_base.specs.Cuts.{before, after}
use Rattle.mlir_work_script_base.specs.Lines.{onto_first}
use Rattle.mlir_work_script_base.specs.Items.{is_comma, items_of}
use Rattle.mlir_work_script_base.proofs.Cutting.{cut_found}

found : (text : List ℕ) → position_or_len is_comma text < length text → items_of text ≡ before is_comma text ∷ items_of (after is_comma text)
found [] h = absurd (omega arith)
found (b ∷ bs) h =
    let Q : (t : Bool) → cond (not t) (1 + position_or_len is_comma bs) 0 < length (b ∷ bs) → (if t then [] ∷ items_of bs else onto_first b (items_of bs)) ≡ (if t then [] else b ∷ before is_comma bs) ∷ items_of (if t then bs else after is_comma bs) = λ t. elim t as (λ t. cond (not t) (1 + position_or_len is_comma bs) 0 < length (b ∷ bs) → (if t then [] ∷ items_of bs else onto_first b (items_of bs)) ≡ (if t then [] else b ∷ before is_comma bs) ∷ items_of (if t then bs else after is_comma bs)) [ true ↦ λ h. refl | false ↦ λ h. ap (onto_first b) (found bs (omega arith)) ] in
    Q (is_comma b) h

missing : (text : List ℕ) → length text ≤ position_or_len is_comma text → items_of text ≡ text ∷ []
missing [] h = refl
missing (b ∷ bs) h =
    let Q : (t : Bool) → length (b ∷ bs) ≤ cond (not t) (1 + position_or_len is_comma bs) 0 → (if t then [] ∷ items_of bs else onto_first b (items_of bs)) ≡ (b ∷ bs) ∷ [] = λ t. elim t as (λ t. length (b ∷ bs) ≤ cond (not t) (1 + position_or_len is_comma bs) 0 → (if t then [] ∷ items_of bs else onto_first b (items_of bs)) ≡ (b ∷ bs) ∷ []) [ true ↦ λ h. absurd (omega arith) | false ↦ λ h. ap (onto_first b) (missing bs (omega arith)) ] in
    Q (is_comma b) h

at_comma : (text : List ℕ) (n : ℕ) → Some n ≡ position is_comma text → position_or_len is_comma text < length text
at_comma text n e = grind (arith, common_steps)

no_comma : (text : List ℕ) → None ≡ position is_comma text → length text ≤ position_or_len is_comma text
no_comma text e = grind (arith, common_steps)

-- a list with a comma at `n`
pub items_found : (text : List ℕ) (n : ℕ) → Some n ≡ position is_comma text → items_of text ≡ take n text ∷ items_of (drop (n + 1) text)
items_found text n e = let cut = cut_found is_comma text n e in rw (found text (at_comma text n e), cut.0, cut.1) refl

-- a list without a comma
pub items_missing : (text : List ℕ) → None ≡ position is_comma text → items_of text ≡ text ∷ []
items_missing text e = missing text (no_comma text e)

-- the length of the remaining list
abbrev pub left_of : Option (List ℕ) → ℕ
left_of None = 0
left_of (Some text) = 1 + length text
