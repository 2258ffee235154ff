-- Proofs about the first part and the first cell of a text.
use Rattle.std.proofs.Common.{◌≡◌, ℕ, suc, ◌+◌, ◌<◌, List, [], ◌∷◌, length, take, drop, Bool, true, false, if◌then◌else◌, refl, ap, ◌∙◌, arith}
use Rattle.mlir_work_json.specs.Cuts.{parts, ends_cell, quoted_after, cell_len, cell, trailing, cells, cells_from}
use Rattle.mlir_work_script_base.specs.Cuts.{before, after}
use Rattle.mlir_work_script_base.specs.Lines.{onto_first}

-- the parts of a text that isn't empty are its first part and the parts of the rest
pub parts_step : (p : ℕ → Bool) (text : List ℕ) → 0 < length text → parts p text ≡ before p text ∷ parts p (after p text)
parts_step p [] h = absurd (omega arith)
parts_step p (b ∷ []) h = elim (p b) as (λ t. (if t then [] ∷ [] else (b ∷ []) ∷ []) ≡ (if t then [] else b ∷ []) ∷ parts p (if t then [] else [])) [ true ↦ refl | false ↦ refl ]
parts_step p (b ∷ c ∷ cs) h = let ih = parts_step p (c ∷ cs) (omega arith) in elim (p b) as (λ t. (if t then [] ∷ parts p (c ∷ cs) else onto_first b (parts p (c ∷ cs))) ≡ (if t then [] else b ∷ before p (c ∷ cs)) ∷ parts p (if t then c ∷ cs else after p (c ∷ cs))) [ true ↦ refl | false ↦ ap (onto_first b) ih ]

-- ---- cells

-- a byte that ends the cell
pub cell_ends : (quoted : Bool) (b : ℕ) (bs : List ℕ) → ends_cell quoted b ≡ true → cell_len quoted (b ∷ bs) ≡ 0
cell_ends quoted b bs e = rw e refl

-- a byte that doesn't end the cell
pub cell_goes_on : (quoted : Bool) (b : ℕ) (bs : List ℕ) → ends_cell quoted b ≡ false → cell_len quoted (b ∷ bs) ≡ suc (cell_len (quoted_after quoted b) bs)
cell_goes_on quoted b bs e = rw e refl

-- the cells of a text that isn't empty are its first cell and the cells of the rest
cells_step_from : (quoted : Bool) (b : ℕ) (bs : List ℕ) → cells_from quoted (b ∷ bs) ≡ take (cell_len quoted (b ∷ bs)) (b ∷ bs) ∷ cells_from false (drop (cell_len quoted (b ∷ bs) + 1) (b ∷ bs))
cells_step_from quoted b [] =
    elim (ends_cell quoted b) as (λ t. (if t then [] ∷ [] else (b ∷ []) ∷ []) ≡ take (if t then 0 else 1) (b ∷ []) ∷ cells_from false (drop ((if t then 0 else 1) + 1) (b ∷ []))) [ true ↦ refl | false ↦ refl ]
cells_step_from quoted b (c ∷ cs) =
    let trailing = quoted_after quoted b in
    let n = cell_len trailing (c ∷ cs) in
    let ih = cells_step_from trailing c cs in
    let more : suc (n + 1) ≡ suc n + 1 = omega arith in
    elim (ends_cell quoted b) as (λ t. (if t then [] ∷ cells_from false (c ∷ cs) else onto_first b (cells_from trailing (c ∷ cs))) ≡ take (if t then 0 else suc n) (b ∷ c ∷ cs) ∷ cells_from false (drop ((if t then 0 else suc n) + 1) (b ∷ c ∷ cs)))
    [ true ↦ refl | false ↦ ap (onto_first b) ih ∙ ap (λ k. (b ∷ take n (c ∷ cs)) ∷ cells_from false (drop k (b ∷ c ∷ cs))) more ]

pub cells_step : (text : List ℕ) → 0 < length text → cells text ≡ cell text ∷ cells (trailing text)
cells_step [] h = absurd (omega arith)
cells_step (b ∷ bs) h = cells_step_from false b bs
