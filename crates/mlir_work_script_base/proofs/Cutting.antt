-- Proofs about splitting a text at the first occurrence of a byte.
use Rattle.std.proofs.Common.{◌≡◌, ℕ, ◌+◌, ◌<◌, ◌≤◌, List, [], ◌∷◌, length, take, drop, Bool, true, false, not, cond, if◌then◌else◌, refl, ap, arith, Some, None, position}
use Rattle.std.proofs.lemmas.Grind.{common_steps}
use Rattle.std.specs.List.{position_or_len}
use Rattle.mlir_work_script_base.specs.Cuts.{before, after}
use Rattle.mlir_work_script_base.specs.Lines.{is_newline, line_of, after_line, lines_of, onto_first}

before_is : (p : ℕ → Bool) (text : List ℕ) → before p text ≡ take (position_or_len p text) text
before_is p [] = refl
before_is p (b ∷ bs) = let ih = before_is p bs in elim (p b) as (λ t. (if t then [] else b ∷ before p bs) ≡ take (cond (not t) (1 + position_or_len p bs) 0) (b ∷ bs)) [ true ↦ refl | false ↦ grind (arith, common_steps, ih) ]

after_is : (p : ℕ → Bool) (text : List ℕ) → after p text ≡ drop (position_or_len p text + 1) text
after_is p [] = refl
after_is p (b ∷ bs) = let ih = after_is p bs in elim (p b) as (λ t. (if t then bs else after p bs) ≡ drop (cond (not t) (1 + position_or_len p bs) 0 + 1) (b ∷ bs)) [ true ↦ refl | false ↦ grind (arith, common_steps, ih) ]

found : (p : ℕ → Bool) (xs : List ℕ) (n : ℕ) → Some n ≡ position p xs → position_or_len p xs ≡ n
found p xs n e = grind (arith, common_steps)

missing : (p : ℕ → Bool) (xs : List ℕ) → None ≡ position p xs → length xs ≤ position_or_len p xs
missing p xs e = grind (arith, common_steps)

-- the parts before and after the byte at `n`
pub cut_found : (p : ℕ → Bool) (text : List ℕ) (n : ℕ) → Some n ≡ position p text → (take n text ≡ before p text) × (drop (n + 1) text ≡ after p text)
cut_found p text n e = let at = found p text n e in (rw (before_is p text, at) refl, rw (after_is p text, at) refl)

-- the parts of a text without such a byte
pub cut_missing : (p : ℕ → Bool) (text : List ℕ) → None ≡ position p text → (text ≡ before p text) × ([] ≡ after p text)
cut_missing p text e = let at = missing p text e in (rw (before_is p text) (grind (arith, common_steps, at)), rw (after_is p text) (grind (arith, common_steps, at)))

-- the lines of a text that isn't empty are its first line and the lines of the rest
pub lines_step : (text : List ℕ) → 0 < length text → lines_of text ≡ line_of text ∷ lines_of (after_line text)
lines_step [] h = absurd (omega arith)
lines_step (b ∷ []) h = elim (is_newline b) as (λ t. (if t then [] ∷ [] else (b ∷ []) ∷ []) ≡ (if t then [] else b ∷ []) ∷ lines_of (if t then [] else [])) [ true ↦ refl | false ↦ refl ]
lines_step (b ∷ c ∷ cs) h = let ih = lines_step (c ∷ cs) (omega arith) in elim (is_newline b) as (λ t. (if t then [] ∷ lines_of (c ∷ cs) else onto_first b (lines_of (c ∷ cs))) ≡ (if t then [] else b ∷ line_of (c ∷ cs)) ∷ lines_of (if t then c ∷ cs else after_line (c ∷ cs))) [ true ↦ refl | false ↦ ap (onto_first b) ih ]
