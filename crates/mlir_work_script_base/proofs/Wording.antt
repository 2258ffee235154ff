-- Proofs about the words of a text and the clauses that they form.
use Rattle.std.proofs.Common.{◌≡◌, ◌∙◌, sym, ap, refl, ℕ, ◌<◌, ◌≤◌, List, [], ◌∷◌, length, Bool, true, false, if◌then◌else◌, Some, None, Option, arith}
use Rattle.std.specs.Prelude.{◌&&◌, codes, is_none}
use Rattle.std.specs.Str.{bytes_eq}
use Rattle.mlir_work_script_base.specs.Clauses.{Clauses, with_clauses, with_named}
use Rattle.mlir_work_script_base.specs.Cuts.{after}
use Rattle.mlir_work_script_base.specs.Lines.{onto_first}
use Rattle.mlir_work_script_base.specs.Words.{is_blank, skip_blanks, word_of, after_word, words_of, onto_word}
use Rattle.ir_event.proofs.of_types.Truths.{choose}

-- ---- words

-- whether a text begins with a blank
abbrev pub starts_blank : List ℕ → Bool
starts_blank [] = false
starts_blank (b ∷ bs) = is_blank b

pub skipped : (text : List ℕ) → starts_blank (skip_blanks text) ≡ false
skipped [] = refl
skipped (b ∷ bs) =
    let Q : (t : Bool) → is_blank b ≡ t → starts_blank (if t then skip_blanks bs else b ∷ bs) ≡ false = λ t. elim t as (λ t. is_blank b ≡ t → starts_blank (if t then skip_blanks bs else b ∷ bs) ≡ false) [ true ↦ λ e. skipped bs | false ↦ λ e. e ] in
    Q (is_blank b) refl

skip_shorter : (text : List ℕ) → length (skip_blanks text) ≤ length text
skip_shorter [] = omega arith
skip_shorter (b ∷ bs) = let ih = skip_shorter bs in elim (is_blank b) as (λ t. length (if t then skip_blanks bs else b ∷ bs) ≤ length (b ∷ bs)) [ true ↦ omega arith | false ↦ omega arith ]

after_blank : (text : List ℕ) → length (after is_blank text) ≤ length text
after_blank [] = omega arith
after_blank (b ∷ bs) = let ih = after_blank bs in elim (is_blank b) as (λ t. length (if t then bs else after is_blank bs) ≤ length (b ∷ bs)) [ true ↦ omega arith | false ↦ omega arith ]

-- the rest after a word is no longer than the text, and shorter if the text isn't empty
pub after_within : (text : List ℕ) → length (after_word text) ≤ length text
after_within text = let s = skip_shorter (after is_blank text) in let a = after_blank text in omega arith

pub after_shorter : (text : List ℕ) → 0 < length text → length (after_word text) < length text
after_shorter [] h = absurd (omega arith)
after_shorter (b ∷ bs) h =
    let s = skip_shorter bs in
    let a = after_within bs in
    elim (is_blank b) as (λ t. length (skip_blanks (if t then bs else after is_blank bs)) < length (b ∷ bs)) [ true ↦ omega arith | false ↦ omega arith ]

pub skip_words : (text : List ℕ) → words_of (skip_blanks text) ≡ words_of text
skip_words [] = refl
skip_words (b ∷ bs) =
    let Q : (t : Bool) → is_blank b ≡ t → words_of (if t then skip_blanks bs else b ∷ bs) ≡ (if t then words_of bs else onto_word b bs (words_of bs)) = λ t. elim t as (λ t. is_blank b ≡ t → words_of (if t then skip_blanks bs else b ∷ bs) ≡ (if t then words_of bs else onto_word b bs (words_of bs))) [ true ↦ λ e. skip_words bs | false ↦ λ e. rw e refl ] in
    Q (is_blank b) refl

onto_more : (b c : ℕ) (cs : List ℕ) (words : List (List ℕ)) → is_blank c ≡ false → onto_word b (c ∷ cs) words ≡ onto_first b words
onto_more b c cs words e = rw e refl

-- the words of a text that begins with a word are that word and the words of the rest
words_from : (b : ℕ) (bs : List ℕ) → is_blank b ≡ false → words_of (b ∷ bs) ≡ word_of (b ∷ bs) ∷ words_of (after_word (b ∷ bs))
words_from b [] e = rw e refl
words_from b (c ∷ cs) e =
    let Q : (t : Bool) → is_blank c ≡ t → onto_word b (c ∷ cs) (words_of (c ∷ cs)) ≡ (b ∷ word_of (c ∷ cs)) ∷ words_of (after_word (c ∷ cs)) = λ t. elim t as (λ t. is_blank c ≡ t → onto_word b (c ∷ cs) (words_of (c ∷ cs)) ≡ (b ∷ word_of (c ∷ cs)) ∷ words_of (after_word (c ∷ cs))) [ true ↦ λ blank. rw (blank, skip_words cs) refl | false ↦ λ more. onto_more b c cs (words_of (c ∷ cs)) more ∙ ap (onto_first b) (words_from c cs more) ] in
    rw e (Q (is_blank c) refl)

pub words_step : (text : List ℕ) → 0 < length text → starts_blank text ≡ false → words_of text ≡ word_of text ∷ words_of (after_word text)
words_step [] h e = absurd (omega arith)
words_step (b ∷ bs) h e = words_from b bs e

-- ---- clauses

nothing_and : {X : Type 0} (t : Bool) (x : Option X) → (if t && false then x else None) ≡ None
nothing_and t x = elim t as (λ t. (if t && false then x else None) ≡ None) [ true ↦ refl | false ↦ refl ]

-- a clause with an empty list isn't accepted
no_word : (name : List ℕ) (c : Clauses) → with_named name [] c ≡ None
no_word name c =
    choose (bytes_eq name (codes "legal")) _ _ (nothing_and (is_none c.legal) _)
    (choose (bytes_eq name (codes "illegal")) _ _ (nothing_and (is_none c.illegal) _)
    (choose (bytes_eq name (codes "dynamic")) _ _ (nothing_and (is_none c.dynamic) _)
    (choose (bytes_eq name (codes "rules")) _ _ (nothing_and (is_none c.rules) _)
    (choose (bytes_eq name (codes "depth")) _ _ refl refl))))

-- after a malformed clause the result stays `None`
pub no_clause : (words : List (List ℕ)) → with_clauses words None ≡ None
no_clause [] = refl
no_clause (name ∷ []) = refl
no_clause (name ∷ word ∷ words) = no_clause words

one_left : (name trailing : List ℕ) (c : Clauses) → starts_blank trailing ≡ false → with_clauses (name ∷ words_of trailing) (Some c) ≡ with_clauses (words_of (after_word trailing)) (with_named name (word_of trailing) c)
one_left name [] c e = sym (no_word name c)
one_left name (b ∷ bs) c e = rw (words_step (b ∷ bs) (omega arith) e) refl

-- the clauses of a text that begins with a word: its first clause, if it is one, and those of the rest
pub clauses_step : (text : List ℕ) (c : Clauses) → 0 < length text → starts_blank text ≡ false
    → with_clauses (words_of text) (Some c) ≡ with_clauses (words_of (after_word (after_word text))) (with_named (word_of text) (word_of (after_word text)) c)
clauses_step text c h e = rw (words_step text h e) (one_left (word_of text) (after_word text) c (skipped (after is_blank text)))

-- leading blanks don't change the clauses of a text
pub clauses_end : (text rest : List ℕ) (c : Clauses) → rest ≡ skip_blanks text → length rest ≡ 0 → Some c ≡ with_clauses (words_of text) (Some c)
clauses_end text [] c is e = rw (← skip_words text, ← is) refl
clauses_end text (b ∷ bs) c is e = absurd (omega arith)

pub clauses_next : (text rest : List ℕ) (c : Clauses) → rest ≡ skip_blanks text → 0 < length rest
    → with_clauses (words_of text) (Some c) ≡ with_clauses (words_of (after_word (after_word rest))) (with_named (word_of rest) (word_of (after_word rest)) c)
clauses_next text rest c is h = ap (λ words. with_clauses words (Some c)) (sym (skip_words text) ∙ ap words_of (sym is)) ∙ clauses_step rest c h (ap starts_blank is ∙ skipped text)

pub clauses_fall : (text rest : List ℕ) → rest ≡ skip_blanks text → 0 < length rest → length (after_word (after_word rest)) < length text
clauses_fall text rest is h =
    let first : length (after_word rest) < length rest = after_shorter rest h in
    let second : length (after_word (after_word rest)) ≤ length (after_word rest) = after_within (after_word rest) in
    let whole : length rest ≤ length text = rw is (skip_shorter text) in
    omega arith

-- the first two words aren't a clause, or they are one
pub clauses_none : (text rest name word : List ℕ) (c : Clauses) → rest ≡ skip_blanks text → 0 < length rest → name ≡ word_of rest → word ≡ word_of (after_word rest)
    → with_named name word c ≡ None → with_clauses (words_of text) (Some c) ≡ None
clauses_none text rest name word c is h a b e =
    clauses_next text rest c is h
    ∙ ap (with_clauses (words_of (after_word (after_word rest)))) ((λ i. with_named (sym a i) (sym b i) c) ∙ e)
    ∙ no_clause (words_of (after_word (after_word rest)))

pub clauses_more : (text rest name word trailing : List ℕ) (c more : Clauses) → rest ≡ skip_blanks text → 0 < length rest → name ≡ word_of rest → word ≡ word_of (after_word rest) → trailing ≡ after_word (after_word rest)
    → with_named name word c ≡ Some more → with_clauses (words_of text) (Some c) ≡ with_clauses (words_of trailing) (Some more)
clauses_more text rest name word trailing c more is h a b d e =
    clauses_next text rest c is h ∙ (λ i. with_clauses (words_of (sym d i)) (((λ j. with_named (sym a j) (sym b j) c) ∙ e) i))
