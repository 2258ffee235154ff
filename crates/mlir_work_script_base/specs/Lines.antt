-- Lines of a text. Each ends at a line feed or at the end of the text.
use Rattle.std.specs.Prelude.{ℕ, List, [], ◌∷◌, ◌==◌, Bool, if◌then◌else◌}
use Rattle.mlir_work_script_base.specs.Cuts.{before, after}

abbrev pub is_newline : ℕ → Bool
is_newline b = b == 10

-- the first line, without its line feed
abbrev pub line_of : List ℕ → List ℕ
line_of text = before is_newline text

-- the text after the first line and its line feed
abbrev pub after_line : List ℕ → List ℕ
after_line text = after is_newline text

-- puts byte `b` at the start of the first line
abbrev pub onto_first : ℕ → List (List ℕ) → List (List ℕ)
onto_first b [] = (b ∷ []) ∷ []
onto_first b (line ∷ lines) = (b ∷ line) ∷ lines

-- the lines in order
abbrev pub lines_of : List ℕ → List (List ℕ)
lines_of [] = []
lines_of (b ∷ bs) = if is_newline b then [] ∷ lines_of bs else onto_first b (lines_of bs)
