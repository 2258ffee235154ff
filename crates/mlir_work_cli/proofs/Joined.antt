-- Proofs about the parts of an input that is built from a module and scripts.
use Rattle.std.proofs.Common.{◌≡◌, ℕ, suc, List, [], ◌∷◌, ◌++◌, Bool, true, false, if◌then◌else◌, refl, sym, subst, ap, ◌∙◌, length, append-nil, append_assoc, ◌+◌, arith}
use Rattle.std.proofs.lemmas.Bool.Decides.{nat_tests}
use Rattle.std.specs.Prelude.{◌&&◌, nat_lt, codes}
use Rattle.mlir_work_script_base.specs.Lines.{is_newline, line_of, after_line, lines_of, onto_first}
use Rattle.mlir_work_script_base.specs.Parts.{at_divider, module_from, module_text, script_from, script_text}
use Rattle.mlir_work_cli.specs.Inputs.{all_lines, divided, ends_line, input_of, is_divided, one_script, whole_lines}

-- ---- whole lines

under_at : (b c : ℕ) (cs : List ℕ) (t : Bool) → ends_line (c ∷ cs) ≡ t → whole_lines (b ∷ c ∷ cs) ≡ b ∷ whole_lines (c ∷ cs)
under_at b c cs true e = rw e refl
under_at b c cs false e = rw e refl

under : (b c : ℕ) (cs : List ℕ) → whole_lines (b ∷ c ∷ cs) ≡ b ∷ whole_lines (c ∷ cs)
under b c cs = under_at b c cs (ends_line (c ∷ cs)) refl

-- how a text splits at its first line, if more text follows
abbrev IsFirst : List ℕ → List ℕ → Type 0
IsFirst text more =
    (line_of (whole_lines text ++ more) ≡ line_of text) × (after_line (whole_lines text ++ more) ≡ whole_lines (after_line text) ++ more)

first_alone : (b : ℕ) (more : List ℕ) (t : Bool) → is_newline b ≡ t → IsFirst (b ∷ []) more
first_alone b more true e = (rw e (rw e refl), rw e (rw e refl))
first_alone b more false e = (rw e (rw e refl), rw e (rw e refl))

first_under : (b c : ℕ) (cs more : List ℕ) (t : Bool) → is_newline b ≡ t → IsFirst (c ∷ cs) more → IsFirst (b ∷ c ∷ cs) more
first_under b c cs more true e h = (rw (under b c cs) (rw e refl), rw (under b c cs) (rw e refl))
first_under b c cs more false e h = (rw (under b c cs) (rw e (ap (λ xs. b ∷ xs) h.0)), rw (under b c cs) (rw e h.1))

first_is : (b : ℕ) (bs more : List ℕ) → IsFirst (b ∷ bs) more
first_is b [] more = first_alone b more (is_newline b) refl
first_is b (c ∷ cs) more = first_under b c cs more (is_newline b) refl (first_is c cs more)

-- ---- lines

-- a text that isn't empty has a line
abbrev HasLines : List ℕ → Type 0
HasLines text = (line : List ℕ) × (more : List (List ℕ)) × (lines_of text ≡ line ∷ more)

onto_some : (b : ℕ) (lines : List (List ℕ)) → (line : List ℕ) × (more : List (List ℕ)) × (onto_first b lines ≡ line ∷ more)
onto_some b [] = (b ∷ [], [], refl)
onto_some b (line ∷ more) = (b ∷ line, more, refl)

some_at : (b : ℕ) (bs : List ℕ) (t : Bool) → is_newline b ≡ t → HasLines (b ∷ bs)
some_at b bs true e = ([], lines_of bs, rw e refl)
some_at b bs false e = let some = onto_some b (lines_of bs) in (some.0, some.1, rw e some.2)

some_lines : (b : ℕ) (bs : List ℕ) → HasLines (b ∷ bs)
some_lines b bs = some_at b bs (is_newline b) refl

-- the lines of a text, followed by the lines of the text after it
abbrev LinesFollow : List ℕ → List ℕ → Type 0
LinesFollow text more = lines_of (whole_lines text ++ more) ≡ lines_of text ++ lines_of more

follow_alone : (b : ℕ) (more : List ℕ) (t : Bool) → is_newline b ≡ t → LinesFollow (b ∷ []) more
follow_alone b more true e = rw e (rw e refl)
follow_alone b more false e = rw e (rw e refl)

onto_lines : (b : ℕ) (xs ys : List (List ℕ)) → (line : List ℕ) × (rest : List (List ℕ)) × (xs ≡ line ∷ rest) → onto_first b (xs ++ ys) ≡ onto_first b xs ++ ys
onto_lines b xs ys some = rw some.2 refl

follow_under : (b c : ℕ) (cs more : List ℕ) (t : Bool) → is_newline b ≡ t → LinesFollow (c ∷ cs) more → LinesFollow (b ∷ c ∷ cs) more
follow_under b c cs more true e h = rw (under b c cs) (rw e (ap (λ (xs : List (List ℕ)). [] ∷ xs) h))
follow_under b c cs more false e h = rw (under b c cs) (rw e (ap (onto_first b) h ∙ onto_lines b (lines_of (c ∷ cs)) (lines_of more) (some_lines c cs)))

pub lines_follow : (text more : List ℕ) → LinesFollow text more
lines_follow [] more = refl
lines_follow (b ∷ []) more = follow_alone b more (is_newline b) refl
lines_follow (b ∷ c ∷ cs) more = follow_under b c cs more (is_newline b) refl (lines_follow (c ∷ cs) more)

pub script_lines : (scripts : List (List ℕ)) → lines_of (one_script scripts) ≡ all_lines scripts
script_lines [] = refl
script_lines (s ∷ ss) = lines_follow s (one_script ss) ∙ ap (λ (xs : List (List ℕ)). lines_of s ++ xs) (script_lines ss)

-- ---- the divider

-- whether the text has a divider; `start` says whether a line begins at its first byte
abbrev ends_before : Bool → List ℕ → Bool
ends_before start text = nat_lt (length (module_from start text)) (length text)

-- after a text with a divider, all text belongs to the script
abbrev Divides : Bool → List ℕ → List ℕ → Type 0
Divides start text more =
    (module_from start (whole_lines text ++ more) ≡ module_from start text)
    × (script_from start (whole_lines text ++ more) ≡ whole_lines (script_from start text) ++ more)

divider_same : (b : ℕ) (bs more : List ℕ) → at_divider (whole_lines (b ∷ bs) ++ more) ≡ at_divider (b ∷ bs)
divider_same b bs more = rw (first_is b bs more).0 refl

-- the text after the first byte of a text with whole lines
abbrev tail_of : ℕ → List ℕ → List ℕ
tail_of b [] = if is_newline b then [] else 10 ∷ []
tail_of b (c ∷ cs) = whole_lines (c ∷ cs)

cons_alone : (b : ℕ) (t : Bool) → is_newline b ≡ t → whole_lines (b ∷ []) ≡ b ∷ tail_of b []
cons_alone b true e = rw e refl
cons_alone b false e = rw e refl

cons_of : (b : ℕ) (bs : List ℕ) → whole_lines (b ∷ bs) ≡ b ∷ tail_of b bs
cons_of b [] = cons_alone b (is_newline b) refl
cons_of b (c ∷ cs) = under b c cs

same_test : (b : ℕ) (bs more : List ℕ) → at_divider (b ∷ tail_of b bs ++ more) ≡ at_divider (b ∷ bs)
same_test b bs more = rw (cons_of b bs) at (divider_same b bs more)

divides_here : (start : Bool) (b : ℕ) (bs more : List ℕ) → (start && at_divider (b ∷ bs)) ≡ true → Divides start (b ∷ bs) more
divides_here start b bs more e =
    let there : (start && at_divider (b ∷ tail_of b bs ++ more)) ≡ true = rw (same_test b bs more) e in
    let first = rw (cons_of b bs) at (first_is b bs more).1 in
    (rw (cons_of b bs) (rw there (rw e refl)), rw (cons_of b bs) (rw there (rw e first)))

less_by : (m n : ℕ) (t : Bool) → nat_lt (suc m) (suc n) ≡ t → nat_lt m n ≡ t
less_by m n true e = grind (arith, nat_tests)
less_by m n false e = grind (arith, nat_tests)

zero_less : (n : ℕ) → nat_lt 0 (suc n) ≡ false → ⊥
zero_less n e = let less : nat_lt 0 (suc n) ≡ true = grind (arith, nat_tests) in absurd cc

divides_later : (start : Bool) (b : ℕ) (bs more : List ℕ) → (start && at_divider (b ∷ bs)) ≡ false
    → ((ends_before (is_newline b) bs ≡ true) → Divides (is_newline b) bs more) → ends_before start (b ∷ bs) ≡ true → Divides start (b ∷ bs) more
divides_later start b [] more e ih h = let g : ends_before (is_newline b) [] ≡ true = rw e at h in absurd cc
divides_later start b (c ∷ cs) more e ih h =
    let there : (start && at_divider (b ∷ tail_of b (c ∷ cs) ++ more)) ≡ false = rw (same_test b (c ∷ cs) more) e in
    let on = ih (less_by (length (module_from (is_newline b) (c ∷ cs))) (length (c ∷ cs)) true (rw e at h)) in
    (rw (under b c cs) (rw there (rw e (ap (λ (xs : List ℕ). b ∷ xs) on.0))), rw (under b c cs) (rw there (rw e on.1)))

divides_by : (t start : Bool) (b : ℕ) (bs more : List ℕ) → (start && at_divider (b ∷ bs)) ≡ t
    → ((ends_before (is_newline b) bs ≡ true) → Divides (is_newline b) bs more) → ends_before start (b ∷ bs) ≡ true → Divides start (b ∷ bs) more
divides_by true start b bs more e ih h = divides_here start b bs more e
divides_by false start b bs more e ih h = divides_later start b bs more e ih h

divides : (start : Bool) (text more : List ℕ) → ends_before start text ≡ true → Divides start text more
divides start [] more h = absurd cc
divides start (b ∷ bs) more h = divides_by (start && at_divider (b ∷ bs)) start b bs more refl (divides (is_newline b) bs more) h

-- ---- no divider

abbrev divider_line : List ℕ
divider_line = codes "// -----\n"

-- a divider that is appended to a text without one ends its module
abbrev Ends : Bool → List ℕ → List ℕ → Type 0
Ends start text more =
    (module_from start (whole_lines text ++ (divider_line ++ more)) ≡ whole_lines text)
    × (script_from start (whole_lines text ++ (divider_line ++ more)) ≡ more) × (script_from start text ≡ [])

at_first : (more : List ℕ) → Ends true [] more
at_first more = (refl, refl, refl)

passed_at : (start : Bool) (b : ℕ) (bs more : List ℕ) → (start && at_divider (b ∷ bs)) ≡ true → ends_before start (b ∷ bs) ≡ false → Ends start (b ∷ bs) more
passed_at start b bs more e h = absurd (zero_less (length bs) (rw e at h))

ends_alone : (start : Bool) (b : ℕ) (more : List ℕ) (t : Bool) → is_newline b ≡ t → (start && at_divider (b ∷ [])) ≡ false → Ends start (b ∷ []) more
ends_alone start b more true n e =
    let there : (start && at_divider (b ∷ tail_of b [] ++ (divider_line ++ more))) ≡ false = rw (same_test b [] (divider_line ++ more)) e in
    (rw (cons_of b []) (rw there (rw n refl)), rw (cons_of b []) (rw there (rw n refl)), rw e refl)
ends_alone start b more false n e =
    let there : (start && at_divider (b ∷ tail_of b [] ++ (divider_line ++ more))) ≡ false = rw (same_test b [] (divider_line ++ more)) e in
    (rw (cons_of b []) (rw there (rw n refl)), rw (cons_of b []) (rw there (rw n refl)), rw e refl)

ends_later : (start : Bool) (b c : ℕ) (cs more : List ℕ) → (start && at_divider (b ∷ c ∷ cs)) ≡ false → Ends (is_newline b) (c ∷ cs) more → Ends start (b ∷ c ∷ cs) more
ends_later start b c cs more e ih =
    let there : (start && at_divider (b ∷ tail_of b (c ∷ cs) ++ (divider_line ++ more))) ≡ false = rw (same_test b (c ∷ cs) (divider_line ++ more)) e in
    (rw (under b c cs) (rw there (ap (λ (xs : List ℕ). b ∷ xs) ih.0)), rw (under b c cs) (rw there ih.1), rw e ih.2)

ends_alone_by : (t start : Bool) (b : ℕ) (more : List ℕ) → (start && at_divider (b ∷ [])) ≡ t → ends_before start (b ∷ []) ≡ false → Ends start (b ∷ []) more
ends_alone_by true start b more e h = passed_at start b [] more e h
ends_alone_by false start b more e h = ends_alone start b more (is_newline b) refl e

ends_by : (t start : Bool) (b c : ℕ) (cs more : List ℕ) → (start && at_divider (b ∷ c ∷ cs)) ≡ t
    → (ends_before (is_newline b) (c ∷ cs) ≡ false → Ends (is_newline b) (c ∷ cs) more) → ends_before start (b ∷ c ∷ cs) ≡ false → Ends start (b ∷ c ∷ cs) more
ends_by true start b c cs more e ih h = passed_at start b (c ∷ cs) more e h
ends_by false start b c cs more e ih h =
    ends_later start b c cs more e (ih (less_by (length (module_from (is_newline b) (c ∷ cs))) (length (c ∷ cs)) false (rw e at h)))

ends_some : (start : Bool) (b : ℕ) (bs more : List ℕ) → ends_before start (b ∷ bs) ≡ false → Ends start (b ∷ bs) more
ends_some start b [] more h = ends_alone_by (start && at_divider (b ∷ [])) start b more refl h
ends_some start b (c ∷ cs) more h = ends_by (start && at_divider (b ∷ c ∷ cs)) start b c cs more refl (ends_some (is_newline b) c cs more) h

ends : (text more : List ℕ) → is_divided text ≡ false → Ends true text more
ends [] more h = at_first more
ends (b ∷ bs) more h = ends_some true b bs more h

-- ---- the input

module_after : (t : Bool) (text s : List ℕ) (ss : List (List ℕ)) → is_divided text ≡ t
    → script_text (input_of text (s ∷ ss)) ≡ (if t then whole_lines (script_text text) ++ one_script (s ∷ ss) else one_script (s ∷ ss))
module_after true text s ss e = rw e (divides true text (one_script (s ∷ ss)) e).1
module_after false text s ss e = rw e (rw (append_assoc (whole_lines text) divider_line (one_script (s ∷ ss))) (ends text (one_script (s ∷ ss)) e).1)

scripts_at : (t : Bool) (text s : List ℕ) (ss : List (List ℕ)) → is_divided text ≡ t
    → lines_of (script_text (input_of text (s ∷ ss))) ≡ lines_of (script_text text) ++ all_lines (s ∷ ss)
scripts_at true text s ss e =
    ap lines_of (module_after true text s ss e) ∙ lines_follow (script_text text) (one_script (s ∷ ss)) ∙ ap (λ (xs : List (List ℕ)). lines_of (script_text text) ++ xs) (script_lines (s ∷ ss))
scripts_at false text s ss e =
    rw ((ends text (one_script (s ∷ ss)) e).2) (ap lines_of (module_after false text s ss e) ∙ script_lines (s ∷ ss))

pub scripts_after : (text : List ℕ) (scripts : List (List ℕ)) → lines_of (script_text (input_of text scripts)) ≡ lines_of (script_text text) ++ all_lines scripts
scripts_after text [] = sym (append-nil (lines_of (script_text text)))
scripts_after text (s ∷ ss) = scripts_at (is_divided text) text s ss refl

pub module_kept : (text : List ℕ) (scripts : List (List ℕ)) → is_divided text ≡ true → module_text (input_of text scripts) ≡ module_text text
module_kept text [] e = refl
module_kept text (s ∷ ss) e = rw e (divides true text (one_script (s ∷ ss)) e).0

pub module_alone : (text s : List ℕ) (ss : List (List ℕ)) → is_divided text ≡ false → module_text (input_of text (s ∷ ss)) ≡ whole_lines text
module_alone text s ss e = rw e (rw (append_assoc (whole_lines text) divider_line (one_script (s ∷ ss))) (ends text (one_script (s ∷ ss)) e).0)
