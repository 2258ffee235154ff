-- The words of a line.
use Rattle.std.specs.Prelude.{ℕ, List, [], ◌∷◌, ◌==◌, ◌||◌, Bool, if◌then◌else◌}
use Rattle.mlir_work_script_base.specs.Cuts.{before, after}
use Rattle.mlir_work_script_base.specs.Lines.{onto_first}

-- a space or a tab, which separates words
abbrev pub is_blank : ℕ → Bool
is_blank b = (b == 32) || (b == 9)

-- a space, a tab or a carriage return, which is trimmed at the ends of a line
abbrev pub is_edge : ℕ → Bool
is_edge b = (b == 32) || ((b == 9) || (b == 13))

-- a text without leading spaces, tabs and carriage returns
abbrev pub trim_preceding : List ℕ → List ℕ
trim_preceding [] = []
trim_preceding (b ∷ bs) = if is_edge b then trim_preceding bs else b ∷ bs

-- puts byte `b` before a text whose end is trimmed
abbrev pub onto_cut : ℕ → List ℕ → List ℕ
onto_cut b [] = if is_edge b then [] else b ∷ []
onto_cut b (c ∷ cs) = b ∷ c ∷ cs

-- a text without trailing spaces, tabs and carriage returns
abbrev pub trim_back : List ℕ → List ℕ
trim_back [] = []
trim_back (b ∷ bs) = onto_cut b (trim_back bs)

-- a line trimmed at both ends
abbrev pub trim : List ℕ → List ℕ
trim line = trim_back (trim_preceding line)

-- a text without leading blanks
abbrev pub skip_blanks : List ℕ → List ℕ
skip_blanks [] = []
skip_blanks (b ∷ bs) = if is_blank b then skip_blanks bs else b ∷ bs

-- the first word, up to the first blank
abbrev pub word_of : List ℕ → List ℕ
word_of text = before is_blank text

-- the text after the first word and the following blanks
abbrev pub after_word : List ℕ → List ℕ
after_word text = skip_blanks (after is_blank text)

-- puts byte `b` before the words of the text after it; `b` belongs to the first word unless a blank follows
abbrev pub onto_word : ℕ → List ℕ → List (List ℕ) → List (List ℕ)
onto_word b [] words = (b ∷ []) ∷ words
onto_word b (c ∷ cs) words = if is_blank c then (b ∷ []) ∷ words else onto_first b words

-- the words in order
abbrev pub words_of : List ℕ → List (List ℕ)
words_of [] = []
words_of (b ∷ bs) = if is_blank b then words_of bs else onto_word b bs (words_of bs)
