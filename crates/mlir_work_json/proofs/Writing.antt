-- Proofs about writing the parts of a text one by one.
use Rattle.std.proofs.Common.{◌≡◌, ◌==◌, ℕ, ◌<◌, List, [], ◌∷◌, ◌++◌, map, length, Bool, true, ap, sym, ◌∙◌, append_assoc, append-nil, arith}
use Rattle.std.proofs.lemmas.List.{map-append}
use Rattle.serde_json.specs.Data.{Data}
use Rattle.mlir_work_json.specs.Cuts.{trailing, cell, cells, parts}
use Rattle.mlir_work_json.specs.Lines.{json_line, json_lines}
use Rattle.mlir_work_script_base.specs.Cuts.{before, after}
use Rattle.mlir_work_script_base.specs.Lines.{is_newline}
use Rattle.mlir_work_json.proofs.Cutting.{cells_step, parts_step}

-- the first part of a text is written after the parts so far
pub part_done : {V : Type 0} (f : V → Data) (g : List ℕ → Data) (p : ℕ → Bool) (done : List V) (v : V) (text : List ℕ) → 0 < length text → f v ≡ g (before p text)
    → map f (done ++ v ∷ []) ++ map g (parts p (after p text)) ≡ map f done ++ map g (parts p text)
part_done f g p done v text h e =
    let rest = map g (parts p (after p text)) in
    ap (λ xs. xs ++ rest) (map-append f done (v ∷ [])) ∙ append_assoc (map f done) (f v ∷ []) rest
    ∙ ap (λ ys. map f done ++ ys) (ap (λ d. d ∷ rest) e ∙ sym (ap (map g) (parts_step p text h)))

-- the first cell is written after the cells so far
pub cell_done : {V : Type 0} (f : V → Data) (g : List ℕ → Data) (done : List V) (v : V) (text : List ℕ) → 0 < length text → f v ≡ g (cell text)
    → map f (done ++ v ∷ []) ++ map g (cells (trailing text)) ≡ map f done ++ map g (cells text)
cell_done f g done v text h e =
    let rest = map g (cells (trailing text)) in
    ap (λ xs. xs ++ rest) (map-append f done (v ∷ [])) ∙ append_assoc (map f done) (f v ∷ []) rest
    ∙ ap (λ ys. map f done ++ ys) (ap (λ d. d ∷ rest) e ∙ sym (ap (map g) (cells_step text h)))

-- the first line of a text is appended as JSON to the lines so far
pub line_done : (done text : List ℕ) → 0 < length text
    → (done ++ (json_line (before is_newline text) ++ 10 ∷ [])) ++ json_lines (parts is_newline (after is_newline text)) ≡ done ++ json_lines (parts is_newline text)
line_done done text h =
    append_assoc done (json_line (before is_newline text) ++ 10 ∷ []) (json_lines (parts is_newline (after is_newline text)))
    ∙ ap (λ ys. done ++ ys) (sym (ap json_lines (parts_step is_newline text h)))

-- ---- the end of the text

-- no part is left
pub all_done : (done : List Data) (g : List ℕ → Data) (p : ℕ → Bool) (rest : List ℕ) (all : List Data) → (length rest == 0) ≡ true → done ++ map g (parts p rest) ≡ all → done ≡ all
all_done done g p [] all e h = sym (append-nil done) ∙ h
all_done done g p (b ∷ bs) all e h = absurd (grind (arith, e))

pub all_cells_done : (done : List Data) (g : List ℕ → Data) (rest : List ℕ) (all : List Data) → (length rest == 0) ≡ true → done ++ map g (cells rest) ≡ all → done ≡ all
all_cells_done done g [] all e h = sym (append-nil done) ∙ h
all_cells_done done g (b ∷ bs) all e h = absurd (grind (arith, e))

pub all_written : (done rest all : List ℕ) → (length rest == 0) ≡ true → done ++ json_lines (parts is_newline rest) ≡ all → done ≡ all
all_written done [] all e h = sym (append-nil done) ∙ h
all_written done (b ∷ bs) all e h = absurd (grind (arith, e))
