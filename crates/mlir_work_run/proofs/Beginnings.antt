-- Proofs about an input up to a line.
use Rattle.std.proofs.Common.{◌≡◌, ◌∙◌, sym, ap, subst, refl, ℕ, ◌≤◌, List, [], ◌∷◌, ◌++◌, length, length-append, append_assoc, append-nil, arith, Bool, true, false, ◌&&◌, ◌⊎◌, inl, inr, Option, Some, None, Result, Ok, Err}
use Rattle.std.specs.Prelude.{IfSome, codes}
use Rattle.std.specs.Str.{bytes_eq}
use Rattle.mlir_work_session.specs.Lines.{is_newline, line_of, after_line}
use Rattle.mlir_work_session.specs.Panels.{Shown}
use Rattle.mlir_work_session.specs.Parts.{IsSplit, at_divider, module_from, module_text, script_from, script_text}
use Rattle.mlir_work_session.specs.Reads.{Intake}
use Rattle.mlir_work_session.specs.Writes.{Stream, joined}
use Rattle.mlir_work_session.proofs.Dividing.{divided}
use Rattle.mlir_work_run.specs.Live.{Anywhere, AreFirst, BeforeTooLong, IsLiveOf, IsUpTo, IsWholeUpTo, LiveEndedAt, MayStop, up_to, whole_lines}
use Rattle.mlir_work_run.specs.Whole.{Setting}
use Rattle.mlir_work_run.specs.declared.live.Unanswered.{Unanswered}
use Rattle.mlir_work_run.specs.declared.live.Unanswered.TheVariants.{Memory as LineMemory, TooLong as LineTooLong}
use Rattle.mlir_work_run.proofs.Lives.{FirstOf, IsWhole, before_lines, first_of, joined_both}
use Rattle.mlir_work_run.proofs.Within.{joined_same, live_whole}

-- ---- lines

tail_of : {A : Type 0} {x y : A} {xs ys : List A} → x ∷ xs ≡ y ∷ ys → (x ≡ y) × (xs ≡ ys)
tail_of e = (cc, cc)

none_left : {A : Type 0} (xs ys : List A) → [] ≡ xs ++ ys → xs ≡ []
none_left [] ys e = refl
none_left (x ∷ xs) ys e = absurd (cc)

-- the first lines of a text are the lines of their bytes
again : (line : List ℕ) (lines : List (List ℕ)) (rest : List ℕ) (others : List (List ℕ)) → IsWhole line rest → whole_lines rest ≡ lines ++ others → whole_lines (joined lines) ≡ lines → whole_lines (joined (line ∷ lines)) ≡ line ∷ lines
again line lines rest others (inl closed) more ih = closed (joined lines) ∙ ap (λ (ls : List (List ℕ)). line ∷ ls) ih
again line lines rest others (inr (none, one)) more ih =
    let ended : lines ≡ [] = none_left lines others (rw none at more) in
    rw ended (rw append-nil one)

again_first : (line : List ℕ) (lines : List (List ℕ)) (bs : List ℕ) (others : List (List ℕ)) → whole_lines bs ≡ line ∷ (lines ++ others) → (bs ≡ []) ⊎ FirstOf bs → ((rest : List ℕ) → whole_lines rest ≡ lines ++ others → whole_lines (joined lines) ≡ lines) → whole_lines (joined (line ∷ lines)) ≡ line ∷ lines
again_first line lines bs others e (inl none) ih = absurd (let f : [] ≡ line ∷ (lines ++ others) = rw none at e in cc)
again_first line lines bs others e (inr (first, is, cut, whole)) ih =
    let both = tail_of (sym cut ∙ e) in
    again line lines (after_line bs) others (subst (λ (x : List ℕ). IsWhole x (after_line bs)) both.0 whole) both.1 (ih (after_line bs) both.1)

lines_again : (lines : List (List ℕ)) (bs : List ℕ) (others : List (List ℕ)) → whole_lines bs ≡ lines ++ others → whole_lines (joined lines) ≡ lines
lines_again [] bs others e = refl
lines_again (line ∷ lines) bs others e = again_first line lines bs others e (first_of bs) (λ rest k. lines_again lines rest others k)

-- ---- a module without a script

line_at : (b : ℕ) (bs cs : List ℕ) (t : Bool) → is_newline b ≡ t → line_of bs ≡ line_of cs → line_of (b ∷ bs) ≡ line_of (b ∷ cs)
line_at b bs cs true e h = rw e refl
line_at b bs cs false e h = rw e (ap (λ (xs : List ℕ). b ∷ xs) h)

stays_at : (b : ℕ) (bs : List ℕ) (t : Bool) → is_newline b ≡ t → line_of (module_from false bs) ≡ line_of bs → line_of (b ∷ module_from t bs) ≡ line_of (b ∷ bs)
stays_at b bs true e h = rw e refl
stays_at b bs false e h = rw e (ap (λ (xs : List ℕ). b ∷ xs) h)

line_stays : (bs : List ℕ) → line_of (module_from false bs) ≡ line_of bs
line_stays [] = refl
line_stays (b ∷ bs) = stays_at b bs (is_newline b) refl (line_stays bs)

first_stays : (b : ℕ) (bs : List ℕ) → line_of (b ∷ module_from (is_newline b) bs) ≡ line_of (b ∷ bs)
first_stays b bs = stays_at b bs (is_newline b) refl (line_stays bs)

same_divider : (start : Bool) (xs ys : List ℕ) (t : Bool) → line_of xs ≡ line_of ys → (start && at_divider ys) ≡ t → (start && at_divider xs) ≡ t
same_divider start xs ys t e h = ap (λ (zs : List ℕ). start && bytes_eq zs (codes "// -----")) e ∙ h

-- the text has no divider
abbrev IsAlone : Bool → List ℕ → Type 0
IsAlone start bs = (module_from start (module_from start bs) ≡ module_from start bs) × (script_from start (module_from start bs) ≡ [])

module_at : (start : Bool) (b : ℕ) (bs : List ℕ) (t : Bool) → (start && at_divider (b ∷ bs)) ≡ t → IsAlone (is_newline b) bs → IsAlone start (b ∷ bs)
module_at start b bs true e h = rw e (refl, refl)
module_at start b bs false e h =
    let here : (start && at_divider (b ∷ module_from (is_newline b) bs)) ≡ false = same_divider start (b ∷ module_from (is_newline b) bs) (b ∷ bs) false (first_stays b bs) e in
    rw e (rw here (ap (λ (xs : List ℕ). b ∷ xs) h.0, h.1))

module_alone : (start : Bool) (bs : List ℕ) → IsAlone start bs
module_alone start [] = (refl, refl)
module_alone start (b ∷ bs) = module_at start b bs (start && at_divider (b ∷ bs)) refl (module_alone (is_newline b) bs)

-- ---- a module with another script

abbrev dividing : List ℕ → List ℕ → List ℕ
dividing text script = text ++ (codes "// -----" ++ 10 ∷ script)

line_before : (text xs ys : List ℕ) → line_of (dividing text xs) ≡ line_of (dividing text ys)
line_before [] xs ys = refl
line_before (b ∷ text) xs ys = line_at b (dividing text xs) (dividing text ys) (is_newline b) refl (line_before text xs ys)

abbrev Has : Bool → List ℕ → List ℕ → Type 0
Has start text script = (module_from start (dividing text script) ≡ text) × (script_from start (dividing text script) ≡ script)

other_at : (start : Bool) (b : ℕ) (text xs ys : List ℕ) (t : Bool) → (start && at_divider (b ∷ dividing text xs)) ≡ t → module_from start (b ∷ dividing text xs) ≡ b ∷ text → (module_from (is_newline b) (dividing text xs) ≡ text → Has (is_newline b) text ys) → Has start (b ∷ text) ys
other_at start b text xs ys true e h ih = absurd (let f : [] ≡ b ∷ text = rw e at h in cc)
other_at start b text xs ys false e h ih =
    let here : (start && at_divider (b ∷ dividing text ys)) ≡ false = same_divider start (b ∷ dividing text ys) (b ∷ dividing text xs) false (line_before (b ∷ text) ys xs) e in
    let rest = ih (tail_of (rw e at h)).1 in
    rw here (ap (λ (zs : List ℕ). b ∷ zs) rest.0, rest.1)

other_script : (start : Bool) (text xs ys : List ℕ) → module_from start (dividing text xs) ≡ text → Has start text ys
other_script true [] xs ys h = (refl, refl)
other_script false [] xs ys h = absurd (cc)
other_script start (b ∷ text) xs ys h = other_at start b text xs ys (start && at_divider (b ∷ dividing text xs)) refl h (λ k. other_script (is_newline b) text xs ys k)

-- an input with a script has a divider
is_divided : (input text : List ℕ) (b : ℕ) (bs : List ℕ) → IsSplit input text (b ∷ bs) → input ≡ dividing text (b ∷ bs)
is_divided input text b bs (inl (end, is, inl ends)) = is ∙ ap (λ (xs : List ℕ). text ++ (codes "// -----" ++ xs)) ends
is_divided input text b bs (inl (end, is, inr (ends, none))) = absurd (cc)
is_divided input text b bs (inr (is, none)) = absurd (cc)

-- ---- both

-- an input up to a line has the module of the whole input, and the lines up to this one
abbrev Begins : List ℕ → List (List ℕ) → Type 0
Begins input lines = (module_text (up_to (module_text input) lines) ≡ module_text input) × (whole_lines (script_text (up_to (module_text input) lines)) ≡ lines) × (script_text (up_to (module_text input) lines) ≡ joined lines) × (length (up_to (module_text input) lines) ≤ length input)

shorter : (input text : List ℕ) (script : List ℕ) → IsSplit input text script → length text ≤ length input
shorter input text script (inl (end, is, ends)) = omega (arith, ap length is, length-append text (codes "// -----" ++ end))
shorter input text script (inr (is, none)) = omega (arith, ap length is)

begins_some : (input script line : List ℕ) (lines others : List (List ℕ)) → script_text input ≡ script → whole_lines script ≡ (line ∷ lines) ++ others → Begins input (line ∷ lines)
begins_some input [] line lines others is e = absurd (cc)
begins_some input (b ∷ bs) line lines others is e =
    let text = module_text input in
    let new = joined (line ∷ lines) in
    let split : IsSplit input text (b ∷ bs) = rw is at (divided true input) in
    let cut : input ≡ dividing text (b ∷ bs) = is_divided input text b bs split in
    let had : module_from true (dividing text (b ∷ bs)) ≡ text = sym (ap (module_from true) cut) in
    let has = other_script true text (b ∷ bs) new had in
    let all : b ∷ bs ≡ new ++ joined others = sym (joined_same (b ∷ bs)) ∙ ap joined e ∙ joined_both (line ∷ lines) others in (
      has.0,
      ap whole_lines has.1 ∙ lines_again (line ∷ lines) (b ∷ bs) others e,
      has.1,
      omega (arith, ap length cut, ap length all, length-append new (joined others), length-append text (codes "// -----" ++ 10 ∷ (b ∷ bs)), length-append text (codes "// -----" ++ 10 ∷ new), length-append (codes "// -----") (10 ∷ (b ∷ bs)), length-append (codes "// -----") (10 ∷ new)),
    )

begins : (input : List ℕ) (lines : List (List ℕ)) → AreFirst (whole_lines (script_text input)) lines → Begins input lines
begins input [] first =
    let alone = module_alone true input in
    (alone.0, ap whole_lines alone.1, alone.1, shorter input (module_text input) (script_text input) (divided true input))
begins input (line ∷ lines) (others, e) = begins_some input (script_text input) line lines others refl e

module _ (setting : Setting) (boxes : List Shown) (input : List ℕ) where
  -- a live answer to the first lines of an input is an output of the input up to these lines
  pub live_up_to : (lines : List (List ℕ)) (status : ℕ) (out : List ℕ) → AreFirst (whole_lines (script_text input)) lines → IsLiveOf setting boxes input lines status out → IsWholeUpTo setting boxes input lines status out
  live_up_to lines status out first (inl many) short few = absurd (let long = many.0 in omega (arith, long, short))
  live_up_to lines status out first (inr live) short few =
      let new = up_to (module_text input) lines in
      let b = begins input lines first in
      live_whole setting boxes new status out (let l = b.3 in omega (arith, l, short)) (rw (b.2) few) (rw (b.0, b.1) live)

  -- the same of the first lines after which a live run stops
  stops_so : (May : MayStop) (a b : Stream) → IsUpTo May (IsLiveOf setting boxes input) (whole_lines (script_text input)) a b → IsUpTo May (IsWholeUpTo setting boxes input) (whole_lines (script_text input)) a b
  stops_so May a b (lines, st, o, first, may, p, h) = (lines, st, o, first, may, live_up_to lines st o first p, h)

  so_at : (left : Intake) (a b : Stream) (handed : Bool) (r : Result ℕ Unanswered) → LiveEndedAt (before_lines input) (IsLiveOf setting boxes input) (whole_lines (script_text input)) left a b handed r → LiveEndedAt (before_lines input) (IsWholeUpTo setting boxes input) (whole_lines (script_text input)) left a b handed r
  so_at left a b handed (Ok status) (inl (final, (o, p, h, on))) = inl (final, (o, live_up_to (whole_lines (script_text input)) status o ([], sym (append-nil (whole_lines (script_text input)))) p, h, on))
  so_at left a b handed (Ok status) (inr (four, inl (failed, on, inl h))) = inr (four, inl (failed, on, inl h))
  so_at left a b handed (Ok status) (inr (four, inl (failed, on, inr h))) = inr (four, inl (failed, on, inr (stops_so Anywhere a b h)))
  so_at left a b handed (Ok status) (inr (four, inr (lines, st, o, first, p, h))) = inr (four, inr (lines, st, o, first, live_up_to lines st o first p, h))
  so_at left a b handed (Err LineMemory) (on, h) = (on, stops_so Anywhere a b h)
  so_at left a b handed (Err LineTooLong) (on, h) = (on, stops_so (BeforeTooLong (before_lines input) (whole_lines (script_text input))) a b h)

pub live_at_whole : (setting : Setting) (boxes : List Shown) (o : Option (List ℕ)) (left : Intake) (a b : Stream) (handed : Bool) (r : Result ℕ Unanswered) → IfSome o (λ input. LiveEndedAt (before_lines input) (IsLiveOf setting boxes input) (whole_lines (script_text input)) left a b handed r) → IfSome o (λ input. LiveEndedAt (before_lines input) (IsWholeUpTo setting boxes input) (whole_lines (script_text input)) left a b handed r)
live_at_whole setting boxes None left a b handed r h = tt
live_at_whole setting boxes (Some input) left a b handed r h = so_at setting boxes input left a b handed r h
